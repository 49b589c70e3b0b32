-- The machine makes the tree that is spelled.
use Rattle.std.proofs.Common.{◌≡◌, ℕ, suc, ◌≤◌, ◌<◌, ℤ, Bool, true, false, List, [], ◌∷◌, ◌++◌, Some, refl, sym, ◌∙◌, ap, subst, arith, append_assoc, append-nil}
use Rattle.std.proofs.lemmas.Bool.Decides.{nat_tests}
use Rattle.std.specs.Prelude.{pos, codes, nat_le}
use Rattle.smv_lexer.specs.declared.token.TokenKind.TheVariants as k
use Rattle.smv_language.specs.declared.expr.Op.{Op}
use Rattle.smv_language.specs.declared.expr.Op.TheVariants as op
use Rattle.smv_language.specs.Language.{Tree, Trees, Branches, next_of, binary, case_of, set_of, span, no_tree, tree_then, no_branch, branch_then, trees_from, branches_from, Lexeme, word, num, sign, is_reserved, Path, at_expr, at_iff, at_choice, at_or, at_neg, at_not, line_of, operator, minus, begins_span, SpellsInt, plain_int, minus_int, SpellsDotted, one_name, more_names, Spells, only_iff, implies, repeated, only_or, chooses, only_not, negates, only_atom, inverts, SpellsMore, no_operator, one_operator, SpellsAtom, is_true, is_false, is_number, is_span, is_name, in_parentheses, is_next, is_set, is_case, SpellsTrees, one_tree, more_trees, SpellsBranches, one_branch, more_branches}
use Rattle.smv_language.specs.Tree.{truth}
use Rattle.smv_expression_reader.specs.Recogniser.{role_of}
use Rattle.smv_expression_reader.specs.TreeBuilder.{Part, minus_part, bang_part, left_part, answered, asked, group_part, next_part, set_part, condition_part, outcome_part, Hand, number_hand, name_hand, other_hand, Build, ready, name_on, high_on, branch_on, holds, broken, value, looseness, takes_operand, joined, reduce, shut, shut_held, left_held, asked_held, level, span_from, build_step, build, finished, finish, built}
use Rattle.smv_expression_reader.proofs.Accepted.{role_of_name, regrouped_twice}
use Rattle.smv_expression_reader.proofs.Prepended.{IsLine, IsLineIn, line_is}
use Rattle.smv_expression_reader.specs.declared.machine.TokenRole.{TokenRole as Role}
use Rattle.smv_expression_reader.specs.declared.machine.TokenRole.TheVariants as role

pub build_append : (st : Build) (xs ys : List Lexeme) → build st (xs ++ ys) ≡ build (build st xs) ys
build_append st [] ys = refl
build_append st (t ∷ xs) ys = build_append (build_step st t (role_of t)) xs ys

-- the last part takes no operand before an operator of a line or a tighter one
IsClear : ℕ → List Part → Type 0
IsClear l [] = Unit {0}
IsClear l (p ∷ ps) = (m : ℕ) → IsLine m → l ≤ m → takes_operand m p ≡ false

clear_reduce : (l m : ℕ) (t : Tree Path) (ps : List Part) → IsClear l ps → IsLine m → l ≤ m → reduce m t ps ≡ record { tree = t; parts = ps }
unfolding IsClear
clear_reduce l m t [] h is b = refl
clear_reduce l m t (p ∷ ps) h is b = rw (h m is b) refl

clear_up : (l n : ℕ) (ps : List Part) → l ≤ n → IsClear l ps → IsClear n ps
unfolding IsClear
clear_up l n [] b h = tt
clear_up l n (p ∷ ps) b h = λ m is c. h m is (omega (arith, b, c))

not_upto : (m l : ℕ) → l < m → nat_le m l ≡ false
not_upto m l h = grind (arith, nat_tests)

upto : (m l : ℕ) → m ≤ l → nat_le m l ≡ true
upto m l h = grind (arith, nat_tests)

-- a number and two dots after a `-` are no operand of it
Fits : List Part → List Lexeme → Type 0
Fits (minus_part ∷ ps) xs = begins_span xs ≡ false
Fits ps xs = Unit {0}

begins_front : (xs r : List Lexeme) → begins_span (xs ++ r) ≡ false → begins_span xs ≡ false
begins_front (num n d ∷ sign k.Dots ∷ xs) r h = h
begins_front xs r h = refl

fits_front : (ps : List Part) (xs r : List Lexeme) → Fits ps (xs ++ r) → Fits ps xs
unfolding Fits
fits_front (minus_part ∷ ps) xs r h = begins_front xs r h
fits_front ps xs r h = tt

-- the list leads to an operand that is the tree, before what follows of a line or a looser one
record Made (st : Build) (xs : List Lexeme) (l : ℕ) (ps : List Part) (a : Tree Path) : Type 0 where
  hand : Hand
  parts : List Part
  path : build st xs ≡ holds hand parts
  same : (m : ℕ) → m ≤ l → reduce m (value hand) parts ≡ reduce m a ps

weaken : {st : Build} {xs : List Lexeme} {ps : List Part} {a : Tree Path} (l n : ℕ) → n ≤ l → Made st xs l ps a → Made st xs n ps a
weaken l n b h = record { hand = h.hand; parts = h.parts; path = h.path; same = λ m c. h.same m (omega (arith, b, c)) }

-- an operand that stands alone
alone : {st : Build} {xs : List Lexeme} {l : ℕ} {ps : List Part} {a : Tree Path} (hand : Hand) → build st xs ≡ holds hand ps → value hand ≡ a → Made st xs l ps a
alone {st} {xs} {l} {ps} {a} hand path e = record { hand = hand; parts = ps; path = path; same = λ m b. ap (λ z. reduce m z ps) e }

takes_it : (m : ℕ) (p : Part) (t : Tree Path) (ps : List Part) → takes_operand m p ≡ true → reduce m t (p ∷ ps) ≡ reduce m (joined p t) ps
takes_it m p t ps h = rw h refl

-- past a list and a lexeme
pass : (st : Build) (xs : List Lexeme) (t : Lexeme) (ys : List Lexeme) (hand : Hand) (ps : List Part) (next : Build) → build st xs ≡ holds hand ps →
    build_step (holds hand ps) t (role_of t) ≡ next → build st (xs ++ t ∷ ys) ≡ build next ys
pass st xs t ys hand ps next e f = build_append st xs (t ∷ ys) ∙ ap (λ z. build z (t ∷ ys)) e ∙ ap (λ z. build z ys) f

after_operator : (o : Op) (h : Hand) (ps : List Part) → build_step (holds h ps) (operator o) (role_of (operator o)) ≡ left_held o (reduce (level (line_of o)) (value h) ps)
after_operator op.Minus (number_hand n) ps = refl
after_operator op.Minus (name_hand p) ps = refl
after_operator op.Minus (other_hand t) ps = refl
after_operator o (number_hand n) ps = refl
after_operator o (name_hand p) ps = refl
after_operator o (other_hand t) ps = refl

after_question : (h : Hand) (ps : List Part) → build_step (holds h ps) (sign k.Question) (role_of (sign k.Question)) ≡ asked_held (reduce at_or (value h) ps)
after_question (number_hand n) ps = refl
after_question (name_hand p) ps = refl
after_question (other_hand t) ps = refl

abbrev is_closer : Role → Bool
is_closer role.Closes = true
is_closer role.ClosesSet = true
is_closer role.Comma = true
is_closer role.Colon = true
is_closer role.Semicolon = true
is_closer _ = false

after_closer : (h : Hand) (ps : List Part) (t : Lexeme) (c : Role) → is_closer c ≡ true → build_step (holds h ps) t c ≡ shut_held (reduce at_expr (value h) ps) c
after_closer (number_hand n) ps t role.Closes e = refl
after_closer (number_hand n) ps t role.ClosesSet e = refl
after_closer (number_hand n) ps t role.Comma e = refl
after_closer (number_hand n) ps t role.Colon e = refl
after_closer (number_hand n) ps t role.Semicolon e = refl
after_closer (name_hand p) ps t role.Closes e = refl
after_closer (name_hand p) ps t role.ClosesSet e = refl
after_closer (name_hand p) ps t role.Comma e = refl
after_closer (name_hand p) ps t role.Colon e = refl
after_closer (name_hand p) ps t role.Semicolon e = refl
after_closer (other_hand u) ps t role.Closes e = refl
after_closer (other_hand u) ps t role.ClosesSet e = refl
after_closer (other_hand u) ps t role.Comma e = refl
after_closer (other_hand u) ps t role.Colon e = refl
after_closer (other_hand u) ps t role.Semicolon e = refl
after_closer h ps t c e = cc

-- past an expression in a frame, and the lexeme that closes it
past_closer : {st : Build} {xs : List Lexeme} {l : ℕ} {p : Part} {ps : List Part} {a : Tree Path} (t : Lexeme) (ys : List Lexeme) (next : Build) → Made st xs l (p ∷ ps) a →
    takes_operand at_expr p ≡ false → is_closer (role_of t) ≡ true → shut a (p ∷ ps) (role_of t) ≡ next → build st (xs ++ t ∷ ys) ≡ build next ys
past_closer {st} {xs} {l} {p} {ps} {a} t ys next h unheld e f = pass st xs t ys h.hand h.parts next h.path
    (after_closer h.hand h.parts t (role_of t) e ∙ ap (λ z. shut_held z (role_of t)) (h.same at_expr (omega arith) ∙ stays) ∙ f)
  where
    stays : reduce at_expr a (p ∷ ps) ≡ record { tree = a; parts = p ∷ ps }
    stays = rw unheld refl

-- an operand, an operator and an operand
then_operator : {st : Build} {xs us : List Lexeme} {ps : List Part} {a b : Tree Path} (o : Op) (n l l1 l2 : ℕ) → level (line_of o) ≡ n → n ≤ l1 →
    reduce n a ps ≡ record { tree = a; parts = ps } → l ≤ l2 → ((m : ℕ) → m ≤ l → takes_operand m (left_part o a) ≡ true) →
    Made st xs l1 ps a → Made (ready (left_part o a ∷ ps)) us l2 (left_part o a ∷ ps) b → Made st (xs ++ operator o ∷ us) l ps (binary o a b)
then_operator {st} {xs} {us} {ps} {a} {b} o n l l1 l2 e c stays d taken x y = record {
  hand = y.hand;
  parts = y.parts;
  path = pass st xs (operator o) us x.hand x.parts (ready (left_part o a ∷ ps)) x.path
      (after_operator o x.hand x.parts ∙ ap (λ z. left_held o (reduce z (value x.hand) x.parts)) e ∙ ap (left_held o) (x.same n c ∙ stays)) ∙ y.path;
  same = λ m f. y.same m (omega (arith, f, d)) ∙ takes_it m (left_part o a) b ps (taken m f);
}

-- the lists of a set and of a case so far, and what follows
trees_after : List (Tree Path) → Trees Path → Trees Path
trees_after [] us = us
trees_after (t ∷ ts) us = tree_then t (trees_after ts us)

trees_then : (ts : List (Tree Path)) (t : Tree Path) (us : Trees Path) → trees_after (ts ++ t ∷ []) us ≡ trees_after ts (tree_then t us)
unfolding trees_after
trees_then [] t us = refl
trees_then (x ∷ ts) t us = ap (tree_then x) (trees_then ts t us)

trees_all : (ts : List (Tree Path)) → trees_from ts ≡ trees_after ts no_tree
unfolding trees_after
trees_all [] = refl
trees_all (t ∷ ts) = ap (tree_then t) (trees_all ts)

branches_after : List (Tree Path × Tree Path) → Branches Path → Branches Path
branches_after [] us = us
branches_after (b ∷ bs) us = branch_then b.0 b.1 (branches_after bs us)

branches_then : (bs : List (Tree Path × Tree Path)) (c a : Tree Path) (us : Branches Path) → branches_after (bs ++ (c, a) ∷ []) us ≡ branches_after bs (branch_then c a us)
unfolding branches_after
branches_then [] c a us = refl
branches_then (x ∷ bs) c a us = ap (branch_then x.0 x.1) (branches_then bs c a us)

branches_all : (bs : List (Tree Path × Tree Path)) → branches_from bs ≡ branches_after bs no_branch
unfolding branches_after
branches_all [] = refl
branches_all (b ∷ bs) = ap (branch_then b.0 b.1) (branches_all bs)

-- names and ints
makes_dotted : {ts : List Lexeme} {p : Path} (st : Build) (q : Path) (ps : List Part) →
    ((x : List ℕ) → is_reserved x ≡ false → build_step st (word x) (role_of (word x)) ≡ holds (name_hand (q ++ x ∷ [])) ps) → SpellsDotted ts p →
    build st ts ≡ holds (name_hand (q ++ p)) ps
makes_dotted st q ps goes (one_name {x = x} n) = goes x n
makes_dotted st q ps goes (more_names {x = x} {ts = ts} {p = p} n d) =
    ap (λ z. build z (sign k.Dot ∷ ts)) (goes x n) ∙
    makes_dotted (name_on (q ++ x ∷ []) ps) (q ++ x ∷ []) ps (λ y m. rw (role_of_name y m) refl) d ∙
    ap (λ z. holds (name_hand z) ps) (append_assoc q (x ∷ []) p)

makes_high : {ts : List Lexeme} {n : ℤ} (lo : ℤ) (ps : List Part) → SpellsInt ts n → build (high_on lo ps) ts ≡ holds (other_hand (span lo n)) ps
makes_high lo ps plain_int = refl
makes_high lo ps minus_int = refl

makes_low : (n : ℕ) (d : List ℕ) (ys : List Lexeme) (ps : List Part) → Fits ps (num n d ∷ sign k.Dots ∷ ys) → span_from n ps ≡ high_on (pos n) ps
unfolding Fits
makes_low n d ys (minus_part ∷ ps) h = cc
makes_low n d ys ps h = refl

makes_span : {xs ys : List Lexeme} {lo hi : ℤ} (ps : List Part) → Fits ps (xs ++ sign k.Dots ∷ ys) → SpellsInt xs lo → SpellsInt ys hi →
    build (ready ps) (xs ++ sign k.Dots ∷ ys) ≡ holds (other_hand (span lo hi)) ps
makes_span {ys = ys} ps h (plain_int {n = n} {d = d}) q = ap (λ z. build z ys) (makes_low n d ys ps h) ∙ makes_high (pos n) ps q
makes_span ps h (minus_int {n = n}) q = makes_high (minus n) ps q

line_level : (o : Op) (l : ℕ) → line_of o ≡ Some l → level (line_of o) ≡ l
line_level o l f = ap level f

line_in : (o : Op) (l : ℕ) → line_of o ≡ Some l → IsLine l
line_in o l f = subst IsLineIn f (line_is o)

build_broken : (ts : List Lexeme) → build broken ts ≡ broken
build_broken [] = refl
build_broken (t ∷ ts) = build_broken ts

abbrev is_held : Build → Bool
is_held (holds h ps) = true
is_held _ = false

-- a branch begins as an operand does
makes_branch : (bs : List (Tree Path × Tree Path)) (ps : List Part) (xs : List Lexeme) (h : Hand) (qs : List Part) → build (ready (condition_part bs ∷ ps)) xs ≡ holds h qs →
    build (branch_on bs ps) xs ≡ holds h qs
makes_branch bs ps [] h qs e = let clash : false ≡ true = ap is_held e in cc
makes_branch bs ps (t ∷ ts) h qs e = go (role_of t) e
  where
    go : (c : Role) → build (build_step (ready (condition_part bs ∷ ps)) t c) ts ≡ holds h qs → build (build_step (branch_on bs ps) t c) ts ≡ holds h qs
    go role.Esac f = let clash : false ≡ true = ap is_held (sym (build_broken ts) ∙ f) in cc
    go c f = f

mutual
  unfolding IsClear Fits trees_after branches_after

  makes : {l : ℕ} {xs : List Lexeme} {a : Tree Path} (ps : List Part) → IsClear l ps → Fits ps xs → Spells l xs a → Made (ready ps) xs l ps a
  makes ps c f (only_iff p) = weaken at_iff at_expr (omega arith) (makes ps (clear_up at_expr at_iff ps (omega arith) c) f p)
  makes ps c f (implies {xs = xs} {ys = ys} {a = a} {b = b} p q) =
      then_operator op.Implies at_iff at_expr at_iff at_expr refl (omega arith) (clear_reduce at_expr at_iff a ps c (record { some = omega arith; tight = omega arith; no_choice = λ e. omega (arith, e) }) (omega arith)) (omega arith)
      (λ m b. upto m at_expr b)
      (makes ps (clear_up at_expr at_iff ps (omega arith) c) (fits_front ps xs (sign k.Implies ∷ ys) f) p)
      (makes (left_part op.Implies a ∷ ps) (λ m is d. not_upto m at_expr (let some = is.some in omega (arith, some))) tt q)
  makes ps c f (repeated {l = l} {xs = xs} {ys = ys} h p more) =
      makes_more l ps c xs (weaken (suc l) l (omega arith) (makes ps (clear_up l (suc l) ps (omega arith) c) (fits_front ps xs ys f) p)) more
  makes ps c f (only_or p) = weaken at_or at_choice (omega arith) (makes ps (clear_up at_choice at_or ps (omega arith) c) f p)
  makes ps c f (chooses {zs = zs} {xs = xs} {ys = ys} {c = t} {a = a} {b = b} p q r) =
      let x = makes ps (clear_up at_choice at_or ps (omega arith) c) (fits_front ps zs (sign k.Question ∷ (xs ++ sign k.Colon ∷ ys)) f) p in
      let y = makes (asked t ∷ ps) (λ m is d. refl) tt q in
      let z = makes (answered t a ∷ ps) (λ m is d. not_upto m at_choice (let no = is.no_choice in omega (arith, d, no))) tt r in
      record {
        hand = z.hand;
        parts = z.parts;
        path = pass (ready ps) zs (sign k.Question) (xs ++ sign k.Colon ∷ ys) x.hand x.parts (ready (asked t ∷ ps)) x.path
            (after_question x.hand x.parts ∙ ap asked_held (x.same at_or (omega arith) ∙
            clear_reduce at_choice at_or t ps c (record { some = omega arith; tight = omega arith; no_choice = λ e. omega (arith, e) }) (omega arith))) ∙
            past_closer (sign k.Colon) ys (ready (answered t a ∷ ps)) y refl refl refl ∙ z.path;
        same = λ m e. z.same m e ∙ takes_it m (answered t a) b ps (upto m at_choice e);
      }
  makes ps c f (only_not p) = weaken at_not at_neg (omega arith) (makes ps (clear_up at_neg at_not ps (omega arith) c) f p)
  makes ps c f (negates {ts = ts} {t = t} n p) =
      let x = makes (minus_part ∷ ps) (λ m is d. let tight = is.tight in absurd (omega (arith, d, tight))) n p in
      record { hand = x.hand; parts = x.parts; path = x.path; same = λ m e. x.same m e ∙ takes_it m minus_part t ps (upto m at_neg e) }
  makes ps c f (only_atom p) = makes_atom ps f p
  makes ps c f (inverts {ts = ts} {t = t} p) =
      let x = makes (bang_part ∷ ps) (λ m is d. let tight = is.tight in absurd (omega (arith, d, tight))) tt p in
      record { hand = x.hand; parts = x.parts; path = x.path; same = λ m e. x.same m e ∙ takes_it m bang_part t ps (upto m at_not e) }

  makes_more : {ys : List Lexeme} {a t : Tree Path} (l : ℕ) (ps : List Part) → IsClear l ps → (xs : List Lexeme) → Made (ready ps) xs l ps a → SpellsMore l ys a t →
      Made (ready ps) (xs ++ ys) l ps t
  makes_more {t = t} l ps c xs so_far no_operator = subst (λ z. Made (ready ps) z l ps t) (sym (append-nil xs)) so_far
  makes_more {a = a} {t = t} l ps c xs so_far (one_operator {o = o} {xs = us} {ys = vs} {b = b} f p more) =
      let line : IsLine l = line_in o l f in
      let x = makes (left_part o a ∷ ps) (λ m is d. ap (λ z. nat_le m (looseness z)) f ∙ not_upto m l (omega (arith, d))) tt p in
      let y = then_operator o l l l (suc l) (line_level o l f) (omega arith) (clear_reduce l l a ps c line (omega arith)) (omega arith)
      (λ m e. ap (λ z. nat_le m (looseness z)) f ∙ upto m l e) so_far x in
      subst (λ z. Made (ready ps) z l ps t) (append_assoc xs (operator o ∷ us) vs) (makes_more l ps c (xs ++ operator o ∷ us) y more)

  makes_atom : {l : ℕ} {xs : List Lexeme} {a : Tree Path} (ps : List Part) → Fits ps xs → SpellsAtom xs a → Made (ready ps) xs l ps a
  makes_atom ps f is_true = alone (other_hand (truth true)) refl refl
  makes_atom ps f is_false = alone (other_hand (truth false)) refl refl
  makes_atom ps f (is_number {n = n}) = alone (number_hand n) refl refl
  makes_atom ps f (is_span {lo = lo} {hi = hi} p q) = alone (other_hand (span lo hi)) (makes_span ps f p q) refl
  makes_atom ps f (is_name {p = p} d) = alone (name_hand p) (makes_dotted (ready ps) [] ps (λ x n. rw (role_of_name x n) refl) d) refl
  makes_atom ps f (in_parentheses {ts = ts} {t = t} p) =
      alone (other_hand t) (past_closer (sign k.Close) [] (holds (other_hand t) ps) (makes (group_part ∷ ps) (λ m is d. refl) tt p) refl refl refl) refl
  makes_atom ps f (is_next {ts = ts} {t = t} p) =
      alone (other_hand (next_of t)) (past_closer (sign k.Close) [] (holds (other_hand (next_of t)) ps) (makes (next_part ∷ ps) (λ m is d. refl) tt p) refl refl refl) refl
  makes_atom ps f (is_set {ts = ts} {us = us} p) = alone (other_hand (set_of us)) (makes_set [] ps p) refl
  makes_atom ps f (is_case {ts = ts} {bs = bs} p) = alone (other_hand (case_of bs)) (makes_case [] ps p) refl

  makes_set : {ts : List Lexeme} {us : Trees Path} (vs : List (Tree Path)) (ps : List Part) → SpellsTrees ts us →
      build (ready (set_part vs ∷ ps)) (ts ++ sign k.CloseBrace ∷ []) ≡ holds (other_hand (set_of (trees_after vs us))) ps
  makes_set vs ps (one_tree {ts = ts} {t = t} p) =
      past_closer (sign k.CloseBrace) [] (holds (other_hand (set_of (trees_from (vs ++ t ∷ [])))) ps) (makes (set_part vs ∷ ps) (λ m is d. refl) tt p) refl refl refl ∙
      ap (λ z. holds (other_hand (set_of z)) ps) (trees_all (vs ++ t ∷ []) ∙ trees_then vs t no_tree)
  makes_set vs ps (more_trees {ts = ts} {us = us} {t = t} {more = more} p m) =
      ap (build (ready (set_part vs ∷ ps))) (append_assoc ts (sign k.Comma ∷ us) (sign k.CloseBrace ∷ [])) ∙
      past_closer (sign k.Comma) (us ++ sign k.CloseBrace ∷ []) (ready (set_part (vs ++ t ∷ []) ∷ ps)) (makes (set_part vs ∷ ps) (λ m is d. refl) tt p) refl refl refl ∙
      makes_set (vs ++ t ∷ []) ps m ∙ ap (λ z. holds (other_hand (set_of z)) ps) (trees_then vs t more)

  makes_case : {ts : List Lexeme} {us : Branches Path} (bs : List (Tree Path × Tree Path)) (ps : List Part) → SpellsBranches ts us →
      build (ready (condition_part bs ∷ ps)) (ts ++ word (codes "esac") ∷ []) ≡ holds (other_hand (case_of (branches_after bs us))) ps
  makes_case bs ps (one_branch {zs = zs} {xs = xs} {c = c} {a = a} p q) =
      ap (build (ready (condition_part bs ∷ ps))) (regrouped_twice zs xs []) ∙
      past_closer (sign k.Colon) (xs ++ sign k.Semicolon ∷ word (codes "esac") ∷ []) (ready (outcome_part bs c ∷ ps)) (makes (condition_part bs ∷ ps) (λ m is d. refl) tt p) refl refl refl ∙
      past_closer (sign k.Semicolon) (word (codes "esac") ∷ []) (branch_on (bs ++ (c, a) ∷ []) ps) (makes (outcome_part bs c ∷ ps) (λ m is d. refl) tt q) refl refl refl ∙
      ap (λ z. holds (other_hand (case_of z)) ps) (branches_all (bs ++ (c, a) ∷ []) ∙ branches_then bs c a no_branch)
  makes_case bs ps (more_branches {zs = zs} {xs = xs} {ys = ys} {c = c} {a = a} {more = more} p q m) =
      ap (build (ready (condition_part bs ∷ ps))) (regrouped_twice zs xs ys) ∙
      past_closer (sign k.Colon) (xs ++ sign k.Semicolon ∷ (ys ++ word (codes "esac") ∷ [])) (ready (outcome_part bs c ∷ ps)) (makes (condition_part bs ∷ ps) (λ m is d. refl) tt p) refl refl refl ∙
      past_closer (sign k.Semicolon) (ys ++ word (codes "esac") ∷ []) (branch_on (bs ++ (c, a) ∷ []) ps) (makes (outcome_part bs c ∷ ps) (λ m is d. refl) tt q) refl refl refl ∙
      makes_branch (bs ++ (c, a) ∷ []) ps (ys ++ word (codes "esac") ∷ []) _ _ (makes_case (bs ++ (c, a) ∷ []) ps m) ∙
      ap (λ z. holds (other_hand (case_of z)) ps) (branches_then bs c a more)

-- the tree that is built is the one that is spelled
pub built_spelled : {xs : List Lexeme} {a : Tree Path} → Spells at_expr xs a → built xs ≡ Some a
unfolding IsClear Fits
built_spelled {a = a} p = let x = makes [] tt tt p in ap finish x.path ∙ ap finished (x.same at_expr (omega arith))
