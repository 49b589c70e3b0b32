-- What spells a tree is taken to its end.
use Rattle.std.proofs.Common.{◌≡◌, ◌⊎◌, inl, inr, ℕ, ℤ, Bool, true, false, List, [], ◌∷◌, ◌++◌, refl, sym, ◌∙◌, ap, subst, arith, append_assoc, append-nil}
use Rattle.std.specs.Prelude.{codes}
use Rattle.smv_lexer.specs.declared.token.TokenKind.TheVariants as k
use Rattle.smv_language.specs.declared.expr.Op.{Op}
use Rattle.smv_language.specs.declared.expr.Op.TheVariants as op
use Rattle.smv_language.specs.Language.{Tree, Trees, Branches, Lexeme, word, num, sign, is_reserved, Path, at_expr, at_not, operator, is_repeated, SpellsInt, plain_int, minus_int, SpellsDotted, one_name, more_names, Spells, only_iff, implies, repeated, only_or, chooses, only_not, negates, only_atom, inverts, SpellsMore, no_operator, one_operator, SpellsAtom, is_true, is_false, is_number, is_span, is_name, in_parentheses, is_next, is_set, is_case, SpellsTrees, one_tree, more_trees, SpellsBranches, one_branch, more_branches}
use Rattle.smv_expression_reader.specs.Recogniser.{role_of, Ended, by_number, by_name, by_other, State, wants, wants_not, wants_high, wants_name, wants_open, wants_branch, had, stuck, step, run, is_whole, start}
use Rattle.smv_expression_reader.proofs.WordLaws.{use_of_name}
use Rattle.smv_expression_reader.specs.declared.frames.OpenFrame.{OpenFrame as Frame}
use Rattle.smv_expression_reader.specs.declared.machine.TokenRole.{TokenRole as Role}
use Rattle.smv_expression_reader.specs.declared.frames.OpenFrame.TheVariants as frame
use Rattle.smv_expression_reader.specs.declared.machine.TokenRole.TheVariants as role

pub run_append : (st : State) (xs ys : List Lexeme) → run st (xs ++ ys) ≡ run (run st xs) ys
run_append st [] ys = refl
run_append st (t ∷ xs) ys = run_append (step st (role_of t)) xs ys

-- a word that is not reserved is a name
pub role_of_name : (x : List ℕ) → is_reserved x ≡ false → role_of (word x) ≡ role.Name
role_of_name x n = ap (λ u. u.0) (use_of_name x n)

-- the list is taken from a state to an operand over a stack
pub record Takes (st : State) (xs : List Lexeme) (s : List Frame) : Type 0 where
  pub end : Ended
  pub path : run st xs ≡ had end s

-- a list, then a lexeme, then a list
pub then_takes : {st : State} {s s' : List Frame} (xs : List Lexeme) (t : Lexeme) (ys : List Lexeme) (next : State) → Takes st xs s →
    ((e : Ended) → step (had e s) (role_of t) ≡ next) → Takes next ys s' → Takes st (xs ++ t ∷ ys) s'
then_takes {st} {s} {s'} xs t ys next a goes b = record {
  end = b.end;
  path = run_append st xs (t ∷ ys) ∙ ap (λ z. run z (t ∷ ys)) a.path ∙ ap (λ z. run z ys) (goes a.end) ∙ b.path;
}

-- a list, then a last lexeme
pub then_ends : {st : State} {s s' : List Frame} (xs : List Lexeme) (t : Lexeme) → Takes st xs s →
    ((e : Ended) → step (had e s) (role_of t) ≡ had by_other s') → Takes st (xs ++ t ∷ []) s'
then_ends {st} {s} {s'} xs t a goes = then_takes xs t [] (had by_other s') a goes (record { end = by_other; path = refl })

-- a lexeme, then a list
pub first_takes : {s : List Frame} (st : State) (t : Lexeme) (ys : List Lexeme) (next : State) → step st (role_of t) ≡ next → Takes next ys s → Takes st (t ∷ ys) s
first_takes st t ys next e b = record { end = b.end; path = ap (λ z. run z ys) e ∙ b.path }

pub operator_role : (o : Op) → (role_of (operator o) ≡ role.Joins o) ⊎ (role_of (operator o) ≡ role.Minus)
operator_role op.Minus = inr refl
operator_role o = inl refl

pub after_operator : (o : Op) (s : List Frame) (e : Ended) → step (had e s) (role_of (operator o)) ≡ wants s
after_operator o s e = go (operator_role o) e
  where
    go : (role_of (operator o) ≡ role.Joins o) ⊎ (role_of (operator o) ≡ role.Minus) → (e : Ended) → step (had e s) (role_of (operator o)) ≡ wants s
    go (inl h) by_number = rw h refl
    go (inl h) by_name = rw h refl
    go (inl h) by_other = rw h refl
    go (inr h) by_number = rw h refl
    go (inr h) by_name = rw h refl
    go (inr h) by_other = rw h refl

pub after_question : (s : List Frame) (e : Ended) → step (had e s) (role_of (sign k.Question)) ≡ wants (frame.FirstChoice ∷ s)
after_question s by_number = refl
after_question s by_name = refl
after_question s by_other = refl

pub after_colon : (s : List Frame) (e : Ended) → step (had e (frame.FirstChoice ∷ s)) (role_of (sign k.Colon)) ≡ wants s
after_colon s by_number = refl
after_colon s by_name = refl
after_colon s by_other = refl

pub after_condition : (s : List Frame) (e : Ended) → step (had e (frame.Condition ∷ s)) (role_of (sign k.Colon)) ≡ wants (frame.Outcome ∷ s)
after_condition s by_number = refl
after_condition s by_name = refl
after_condition s by_other = refl

pub after_outcome : (s : List Frame) (e : Ended) → step (had e (frame.Outcome ∷ s)) (role_of (sign k.Semicolon)) ≡ wants_branch s
after_outcome s by_number = refl
after_outcome s by_name = refl
after_outcome s by_other = refl

pub after_member : (s : List Frame) (e : Ended) → step (had e (frame.Members ∷ s)) (role_of (sign k.Comma)) ≡ wants (frame.Members ∷ s)
after_member s by_number = refl
after_member s by_name = refl
after_member s by_other = refl

pub after_members : (s : List Frame) (e : Ended) → step (had e (frame.Members ∷ s)) (role_of (sign k.CloseBrace)) ≡ had by_other s
after_members s by_number = refl
after_members s by_name = refl
after_members s by_other = refl

pub after_group : (s : List Frame) (e : Ended) → step (had e (frame.Group ∷ s)) (role_of (sign k.Close)) ≡ had by_other s
after_group s by_number = refl
after_group s by_name = refl
after_group s by_other = refl

pub after_moment : (s : List Frame) (e : Ended) → step (had e (frame.Moment ∷ s)) (role_of (sign k.Close)) ≡ had by_other s
after_moment s by_number = refl
after_moment s by_name = refl
after_moment s by_other = refl

pub run_stuck : (ts : List Lexeme) → run stuck ts ≡ stuck
run_stuck [] = refl
run_stuck (t ∷ ts) = run_stuck ts

abbrev pub is_had : State → Bool
is_had (had e s) = true
is_had _ = false

-- what is taken where an operand is wanted is taken where a branch may come
branch_too : (s s' : List Frame) (xs : List Lexeme) → Takes (wants (frame.Condition ∷ s)) xs s' → Takes (wants_branch s) xs s'
branch_too s s' [] a = let clash : false ≡ true = ap is_had a.path in cc
branch_too s s' (t ∷ ts) a = record { end = a.end; path = go (role_of t) a.path }
  where
    go : (c : Role) → run (step (wants (frame.Condition ∷ s)) c) ts ≡ had a.end s' → run (step (wants_branch s) c) ts ≡ had a.end s'
    go role.Esac h = let clash : false ≡ true = ap is_had (sym (run_stuck ts) ∙ h) in cc
    go c h = h

-- where an operand may stand: anywhere, or after `!`
pub data Place : Type 0 where
  anywhere : Place
  after_bang : Place

abbrev pub wanted : Place → List Frame → State
wanted anywhere s = wants s
wanted after_bang s = wants_not s

-- a name begins an operand in both places
name_in_place : (w : Place) (s : List Frame) (x : List ℕ) → is_reserved x ≡ false → step (wanted w s) (role_of (word x)) ≡ had by_name s
name_in_place anywhere s x n = rw (role_of_name x n) refl
name_in_place after_bang s x n = rw (role_of_name x n) refl

pub takes_dotted : {ts : List Lexeme} {p : Path} (st : State) (s : List Frame) → ((x : List ℕ) → is_reserved x ≡ false → step st (role_of (word x)) ≡ had by_name s) →
    SpellsDotted ts p → Takes st ts s
takes_dotted st s goes (one_name {x = x} n) = record { end = by_name; path = goes x n }
takes_dotted st s goes (more_names {x = x} {ts = ts} n p) =
    first_takes st (word x) (sign k.Dot ∷ ts) (had by_name s) (goes x n)
    (first_takes (had by_name s) (sign k.Dot) ts (wants_name s) refl (takes_dotted (wants_name s) s (λ y m. rw (role_of_name y m) refl) p))

pub takes_high : {ts : List Lexeme} {n : ℤ} (s : List Frame) → SpellsInt ts n → Takes (wants_high s) ts s
takes_high s plain_int = record { end = by_other; path = refl }
takes_high s minus_int = record { end = by_other; path = refl }

takes_span : {xs ys : List Lexeme} {lo hi : ℤ} (w : Place) (s : List Frame) → SpellsInt xs lo → SpellsInt ys hi → Takes (wanted w s) (xs ++ sign k.Dots ∷ ys) s
takes_span anywhere s plain_int q = let high = takes_high s q in record { end = high.end; path = high.path }
takes_span anywhere s minus_int q = let high = takes_high s q in record { end = high.end; path = high.path }
takes_span after_bang s plain_int q = let high = takes_high s q in record { end = high.end; path = high.path }
takes_span after_bang s minus_int q = let high = takes_high s q in record { end = high.end; path = high.path }

-- a lexeme that begins an operand in the same way in both places
in_place : {ts : List Lexeme} (w : Place) (s : List Frame) (t : Lexeme) (next : State) → step (wants s) (role_of t) ≡ next → step (wants_not s) (role_of t) ≡ next →
    Takes next ts s → Takes (wanted w s) (t ∷ ts) s
in_place {ts} anywhere s t next e f p = first_takes (wants s) t ts next e p
in_place {ts} after_bang s t next e f p = first_takes (wants_not s) t ts next f p

pub no_line : {l : ℕ} → is_repeated l ≡ true → l ≡ at_not → ⊥
no_line {l} h e = let clash : is_repeated at_not ≡ true = subst (λ z. is_repeated z ≡ true) e h in cc

pub regrouped_twice : (zs xs ys : List Lexeme) →
    (zs ++ sign k.Colon ∷ (xs ++ sign k.Semicolon ∷ ys)) ++ word (codes "esac") ∷ [] ≡ zs ++ sign k.Colon ∷ (xs ++ sign k.Semicolon ∷ (ys ++ word (codes "esac") ∷ []))
regrouped_twice zs xs ys =
    append_assoc zs (sign k.Colon ∷ (xs ++ sign k.Semicolon ∷ ys)) (word (codes "esac") ∷ []) ∙
    ap (λ z. zs ++ sign k.Colon ∷ z) (append_assoc xs (sign k.Semicolon ∷ ys) (word (codes "esac") ∷ []))

mutual
  pub takes : {l : ℕ} {xs : List Lexeme} {a : Tree Path} (s : List Frame) → Spells l xs a → Takes (wants s) xs s
  takes s (only_iff p) = takes s p
  takes s (implies {xs = xs} {ys = ys} p q) = then_takes xs (sign k.Implies) ys (wants s) (takes s p) (after_operator op.Implies s) (takes s q)
  takes s (repeated {xs = xs} {ys = ys} h p m) = takes_more s xs (takes s p) m
  takes s (only_or p) = takes s p
  takes s (chooses {zs = zs} {xs = xs} {ys = ys} p q r) =
      then_takes zs (sign k.Question) (xs ++ sign k.Colon ∷ ys) (wants (frame.FirstChoice ∷ s)) (takes s p) (after_question s)
      (then_takes xs (sign k.Colon) ys (wants s) (takes (frame.FirstChoice ∷ s) q) (after_colon s) (takes s r))
  takes s (only_not p) = takes s p
  takes s (negates {ts = ts} n p) = first_takes (wants s) (sign k.Minus) ts (wants s) refl (takes s p)
  takes s (only_atom p) = takes_atom anywhere s p
  takes s (inverts {ts = ts} p) = first_takes (wants s) (sign k.Bang) ts (wants_not s) refl (takes_not s refl p)

  pub takes_not : {l : ℕ} {xs : List Lexeme} {a : Tree Path} (s : List Frame) → l ≡ at_not → Spells l xs a → Takes (wants_not s) xs s
  takes_not s e (only_atom p) = takes_atom after_bang s p
  takes_not s e (inverts {ts = ts} p) = first_takes (wants_not s) (sign k.Bang) ts (wants_not s) refl (takes_not s refl p)
  takes_not s e (only_iff p) = absurd (omega (arith, e))
  takes_not s e (implies p q) = absurd (omega (arith, e))
  takes_not s e (only_or p) = absurd (omega (arith, e))
  takes_not s e (chooses p q r) = absurd (omega (arith, e))
  takes_not s e (only_not p) = absurd (omega (arith, e))
  takes_not s e (negates n p) = absurd (omega (arith, e))
  takes_not s e (repeated h p m) = absurd (no_line h e)

  takes_more : {l : ℕ} {ys : List Lexeme} {a t : Tree Path} (s : List Frame) (xs : List Lexeme) → Takes (wants s) xs s → SpellsMore l ys a t → Takes (wants s) (xs ++ ys) s
  takes_more s xs so_far no_operator = subst (λ z. Takes (wants s) z s) (sym (append-nil xs)) so_far
  takes_more s xs so_far (one_operator {o = o} {xs = us} {ys = vs} f p m) =
      subst (λ z. Takes (wants s) z s) (append_assoc xs (operator o ∷ us) vs)
      (takes_more s (xs ++ operator o ∷ us) (then_takes xs (operator o) us (wants s) so_far (after_operator o s) (takes s p)) m)

  takes_atom : {xs : List Lexeme} {a : Tree Path} (w : Place) (s : List Frame) → SpellsAtom xs a → Takes (wanted w s) xs s
  takes_atom w s is_true = in_place w s (word (codes "TRUE")) (had by_other s) refl refl (record { end = by_other; path = refl })
  takes_atom w s is_false = in_place w s (word (codes "FALSE")) (had by_other s) refl refl (record { end = by_other; path = refl })
  takes_atom w s (is_number {n = n} {d = d}) = in_place w s (num n d) (had by_number s) refl refl (record { end = by_number; path = refl })
  takes_atom w s (is_span p q) = takes_span w s p q
  takes_atom w s (is_name p) = takes_dotted (wanted w s) s (name_in_place w s) p
  takes_atom w s (in_parentheses {ts = ts} p) =
      in_place w s (sign k.Open) (wants (frame.Group ∷ s)) refl refl (then_ends ts (sign k.Close) (takes (frame.Group ∷ s) p) (after_group s))
  takes_atom w s (is_next {ts = ts} p) =
      in_place w s (word (codes "next")) (wants_open s) refl refl
      (first_takes (wants_open s) (sign k.Open) (ts ++ sign k.Close ∷ []) (wants (frame.Moment ∷ s)) refl
      (then_ends ts (sign k.Close) (takes (frame.Moment ∷ s) p) (after_moment s)))
  takes_atom w s (is_set {ts = ts} p) = in_place w s (sign k.OpenBrace) (wants (frame.Members ∷ s)) refl refl (takes_members s p)
  takes_atom w s (is_case {ts = ts} p) = in_place w s (word (codes "case")) (wants (frame.Condition ∷ s)) refl refl (takes_branches s p)

  pub takes_members : {ts : List Lexeme} {us : Trees Path} (s : List Frame) → SpellsTrees ts us → Takes (wants (frame.Members ∷ s)) (ts ++ sign k.CloseBrace ∷ []) s
  takes_members s (one_tree {ts = ts} p) = then_ends ts (sign k.CloseBrace) (takes (frame.Members ∷ s) p) (after_members s)
  takes_members s (more_trees {ts = ts} {us = us} p m) =
      subst (λ z. Takes (wants (frame.Members ∷ s)) z s) (sym (append_assoc ts (sign k.Comma ∷ us) (sign k.CloseBrace ∷ [])))
      (then_takes ts (sign k.Comma) (us ++ sign k.CloseBrace ∷ []) (wants (frame.Members ∷ s)) (takes (frame.Members ∷ s) p) (after_member s) (takes_members s m))

  pub takes_branches : {ts : List Lexeme} {bs : Branches Path} (s : List Frame) → SpellsBranches ts bs → Takes (wants (frame.Condition ∷ s)) (ts ++ word (codes "esac") ∷ []) s
  takes_branches s (one_branch {zs = zs} {xs = xs} p q) =
      subst (λ z. Takes (wants (frame.Condition ∷ s)) z s) (sym (regrouped_twice zs xs []))
      (then_takes zs (sign k.Colon) (xs ++ sign k.Semicolon ∷ word (codes "esac") ∷ []) (wants (frame.Outcome ∷ s)) (takes (frame.Condition ∷ s) p) (after_condition s)
      (then_takes xs (sign k.Semicolon) (word (codes "esac") ∷ []) (wants_branch s) (takes (frame.Outcome ∷ s) q) (after_outcome s)
      (record { end = by_other; path = refl })))
  takes_branches s (more_branches {zs = zs} {xs = xs} {ys = ys} p q m) =
      subst (λ z. Takes (wants (frame.Condition ∷ s)) z s) (sym (regrouped_twice zs xs ys))
      (then_takes zs (sign k.Colon) (xs ++ sign k.Semicolon ∷ (ys ++ word (codes "esac") ∷ [])) (wants (frame.Outcome ∷ s)) (takes (frame.Condition ∷ s) p) (after_condition s)
      (then_takes xs (sign k.Semicolon) (ys ++ word (codes "esac") ∷ []) (wants_branch s) (takes (frame.Outcome ∷ s) q) (after_outcome s)
      (branch_too s s (ys ++ word (codes "esac") ∷ []) (takes_branches s m))))

-- what spells an expression is accepted
pub spelled_accepted : {xs : List Lexeme} {a : Tree Path} → Spells at_expr xs a → is_whole (run start xs) ≡ true
spelled_accepted p = let taken = takes [] p in ap is_whole taken.path
