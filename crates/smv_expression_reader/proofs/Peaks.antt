-- The stack counts the parentheses that stand in one another.
use Rattle.std.proofs.Common.{◌≡◌, ℕ, ◌+◌, ℤ, true, false, List, [], ◌∷◌, ◌++◌, refl, sym, ◌∙◌, ap, arith, append_assoc, append-nil}
use Rattle.std.specs.Prelude.{max, codes}
use Rattle.smv_lexer.specs.declared.token.TokenKind.TheVariants as k
use Rattle.smv_language.specs.declared.expr.Op.TheVariants as op
use Rattle.smv_language.specs.Language.{Tree, Trees, Branches, Lexeme, word, num, sign, is_reserved, Path, at_expr, at_not, operator, SpellsInt, plain_int, minus_int, SpellsDotted, one_name, more_names, Spells, only_iff, implies, repeated, only_or, chooses, only_not, negates, only_atom, inverts, SpellsMore, no_operator, one_operator, SpellsAtom, is_true, is_false, is_number, is_span, is_name, in_parentheses, is_next, is_set, is_case, SpellsTrees, one_tree, more_trees, SpellsBranches, one_branch, more_branches, nesting_of, more_nesting, atom_nesting, trees_nesting, branches_nesting}
use Rattle.smv_expression_reader.specs.Recogniser.{role_of, Ended, by_number, by_name, by_other, State, wants, wants_not, wants_name, wants_open, wants_branch, had, step, run, start}
use Rattle.smv_expression_reader.specs.Depth.{groups, depth, peak}
use Rattle.smv_expression_reader.proofs.Accepted.{run_stuck, role_of_name, Takes, then_takes, after_operator, after_question, after_colon, after_condition, after_outcome, after_member, after_members, after_group, after_moment, is_had, takes, takes_branches, no_line, regrouped_twice, Place, anywhere, after_bang, wanted}
use Rattle.smv_expression_reader.specs.declared.frames.OpenFrame.{OpenFrame as Frame}
use Rattle.smv_expression_reader.specs.declared.machine.TokenRole.{TokenRole as Role}
use Rattle.smv_expression_reader.specs.declared.frames.OpenFrame.TheVariants as frame
use Rattle.smv_expression_reader.specs.declared.machine.TokenRole.TheVariants as role

peak_append : (st : State) (xs : List Lexeme) (t : Lexeme) (ys : List Lexeme) → peak st (xs ++ t ∷ ys) ≡ max (peak st xs) (peak (run st xs) (t ∷ ys))
peak_append st [] t ys = omega arith
peak_append st (x ∷ xs) t ys = let rest = peak_append (step st (role_of x)) xs t ys in omega (arith, rest)

-- past an expression and the lexeme after it
peak_past : {st : State} {s : List Frame} (xs : List Lexeme) (t : Lexeme) (ys : List Lexeme) (next : State) → Takes st xs s →
    ((e : Ended) → step (had e s) (role_of t) ≡ next) → peak st (xs ++ t ∷ ys) ≡ max (peak st xs) (max (groups s) (peak next ys))
peak_past {st} {s} xs t ys next a goes =
    peak_append st xs t ys ∙ ap (λ z. max (peak st xs) (peak z (t ∷ ys))) a.path ∙ ap (λ z. max (peak st xs) (max (groups s) (peak z ys))) (goes a.end)

peak_dotted : {ts : List Lexeme} {p : Path} (st : State) (s : List Frame) → depth st ≡ groups s →
    ((x : List ℕ) → is_reserved x ≡ false → step st (role_of (word x)) ≡ had by_name s) → SpellsDotted ts p → peak st ts ≡ groups s
peak_dotted st s d goes (one_name {x = x} n) = let e = ap depth (goes x n) in omega (arith, d, e)
peak_dotted st s d goes (more_names {x = x} {ts = ts} n p) =
    let rest = peak_dotted (wants_name s) s refl (λ y m. rw (role_of_name y m) refl) p in
    let first = ap (λ z. max (depth st) (peak z (sign k.Dot ∷ ts))) (goes x n) in
    first ∙ omega (arith, d, rest)

peak_span : {xs ys : List Lexeme} {lo hi : ℤ} (w : Place) (s : List Frame) → SpellsInt xs lo → SpellsInt ys hi → peak (wanted w s) (xs ++ sign k.Dots ∷ ys) ≡ groups s
peak_span anywhere s plain_int plain_int = omega arith
peak_span anywhere s plain_int minus_int = omega arith
peak_span anywhere s minus_int plain_int = omega arith
peak_span anywhere s minus_int minus_int = omega arith
peak_span after_bang s plain_int plain_int = omega arith
peak_span after_bang s plain_int minus_int = omega arith
peak_span after_bang s minus_int plain_int = omega arith
peak_span after_bang s minus_int minus_int = omega arith

name_in_place : (w : Place) (s : List Frame) (x : List ℕ) → is_reserved x ≡ false → step (wanted w s) (role_of (word x)) ≡ had by_name s
name_in_place anywhere s x n = rw (role_of_name x n) refl
name_in_place after_bang s x n = rw (role_of_name x n) refl

depth_wanted : (w : Place) (s : List Frame) → depth (wanted w s) ≡ groups s
depth_wanted anywhere s = refl
depth_wanted after_bang s = refl

-- one lexeme that begins an operand in both places
peak_place : (w : Place) (s : List Frame) (t : Lexeme) (ts : List Lexeme) (next : State) → step (wants s) (role_of t) ≡ next → step (wants_not s) (role_of t) ≡ next →
    peak (wanted w s) (t ∷ ts) ≡ max (groups s) (peak next ts)
peak_place anywhere s t ts next e f = ap (λ z. max (groups s) (peak z ts)) e
peak_place after_bang s t ts next e f = ap (λ z. max (groups s) (peak z ts)) f

peak_branch : (s s' : List Frame) (xs : List Lexeme) → Takes (wants (frame.Condition ∷ s)) xs s' → peak (wants_branch s) xs ≡ peak (wants (frame.Condition ∷ s)) xs
peak_branch s s' [] a = refl
peak_branch s s' (t ∷ ts) a = ap (max (groups s)) (go (role_of t) a.path)
  where
    go : (c : Role) → run (step (wants (frame.Condition ∷ s)) c) ts ≡ had a.end s' → peak (step (wants_branch s) c) ts ≡ peak (step (wants (frame.Condition ∷ s)) c) ts
    go role.Esac h = let clash : false ≡ true = ap is_had (sym (run_stuck ts) ∙ h) in cc
    go c h = refl

mutual
  peaks : {l : ℕ} {xs : List Lexeme} {a : Tree Path} (s : List Frame) (p : Spells l xs a) → peak (wants s) xs ≡ groups s + nesting_of p
  peaks s (only_iff p) = peaks s p
  peaks s (implies {xs = xs} {ys = ys} p q) =
      let a = peaks s p in let b = peaks s q in peak_past xs (sign k.Implies) ys (wants s) (takes s p) (after_operator op.Implies s) ∙ omega (arith, a, b)
  peaks s (repeated {xs = xs} {ys = ys} h p m) = peaks_more s xs (nesting_of p) (takes s p) (peaks s p) m
  peaks s (only_or p) = peaks s p
  peaks s (chooses {zs = zs} {xs = xs} {ys = ys} p q r) =
      let a = peaks s p in let b = peaks (frame.FirstChoice ∷ s) q in let c = peaks s r in
      let inner = peak_past xs (sign k.Colon) ys (wants s) (takes (frame.FirstChoice ∷ s) q) (after_colon s) in
      peak_past zs (sign k.Question) (xs ++ sign k.Colon ∷ ys) (wants (frame.FirstChoice ∷ s)) (takes s p) (after_question s) ∙ omega (arith, a, b, c, inner)
  peaks s (only_not p) = peaks s p
  peaks s (negates n p) = let a = peaks s p in omega (arith, a)
  peaks s (only_atom p) = peaks_atom anywhere s p
  peaks s (inverts p) = let a = peaks_not s refl p in omega (arith, a)

  peaks_not : {l : ℕ} {xs : List Lexeme} {a : Tree Path} (s : List Frame) → l ≡ at_not → (p : Spells l xs a) → peak (wants_not s) xs ≡ groups s + nesting_of p
  peaks_not s e (only_atom p) = peaks_atom after_bang s p
  peaks_not s e (inverts p) = let a = peaks_not s refl p in omega (arith, a)
  peaks_not s e (only_iff p) = absurd (omega (arith, e))
  peaks_not s e (implies p q) = absurd (omega (arith, e))
  peaks_not s e (only_or p) = absurd (omega (arith, e))
  peaks_not s e (chooses p q r) = absurd (omega (arith, e))
  peaks_not s e (only_not p) = absurd (omega (arith, e))
  peaks_not s e (negates n p) = absurd (omega (arith, e))
  peaks_not s e (repeated h p m) = absurd (no_line h e)

  peaks_more : {l : ℕ} {ys : List Lexeme} {a t : Tree Path} (s : List Frame) (xs : List Lexeme) (n : ℕ) → Takes (wants s) xs s → peak (wants s) xs ≡ groups s + n →
      (m : SpellsMore l ys a t) → peak (wants s) (xs ++ ys) ≡ groups s + max n (more_nesting m)
  peaks_more s xs n so_far e no_operator = ap (peak (wants s)) (append-nil xs) ∙ e ∙ omega arith
  peaks_more s xs n so_far e (one_operator {o = o} {xs = us} {ys = vs} f p m) =
      let b = peaks s p in
      let past = peak_past xs (operator o) us (wants s) so_far (after_operator o s) in
      let here : peak (wants s) (xs ++ operator o ∷ us) ≡ groups s + max n (nesting_of p) = omega (arith, e, b, past) in
      ap (peak (wants s)) (sym (append_assoc xs (operator o ∷ us) vs)) ∙
      peaks_more s (xs ++ operator o ∷ us) (max n (nesting_of p)) (then_takes xs (operator o) us (wants s) so_far (after_operator o s) (takes s p)) here m ∙ omega arith

  peaks_atom : {xs : List Lexeme} {a : Tree Path} (w : Place) (s : List Frame) (p : SpellsAtom xs a) → peak (wanted w s) xs ≡ groups s + atom_nesting p
  peaks_atom w s is_true = peak_place w s (word (codes "TRUE")) [] (had by_other s) refl refl ∙ omega arith
  peaks_atom w s is_false = peak_place w s (word (codes "FALSE")) [] (had by_other s) refl refl ∙ omega arith
  peaks_atom w s (is_number {n = n} {d = d}) = peak_place w s (num n d) [] (had by_number s) refl refl ∙ omega arith
  peaks_atom w s (is_span p q) = peak_span w s p q ∙ omega arith
  peaks_atom w s (is_name p) = peak_dotted (wanted w s) s (depth_wanted w s) (name_in_place w s) p ∙ omega arith
  peaks_atom w s (in_parentheses {ts = ts} p) =
      let a = peaks (frame.Group ∷ s) p in
      let past = peak_past ts (sign k.Close) [] (had by_other s) (takes (frame.Group ∷ s) p) (after_group s) in
      peak_place w s (sign k.Open) (ts ++ sign k.Close ∷ []) (wants (frame.Group ∷ s)) refl refl ∙ omega (arith, a, past)
  peaks_atom w s (is_next {ts = ts} p) =
      let a = peaks (frame.Moment ∷ s) p in
      let past = peak_past ts (sign k.Close) [] (had by_other s) (takes (frame.Moment ∷ s) p) (after_moment s) in
      peak_place w s (word (codes "next")) (sign k.Open ∷ (ts ++ sign k.Close ∷ [])) (wants_open s) refl refl ∙ omega (arith, a, past)
  peaks_atom w s (is_set {ts = ts} p) =
      let a = peaks_members s p in peak_place w s (sign k.OpenBrace) (ts ++ sign k.CloseBrace ∷ []) (wants (frame.Members ∷ s)) refl refl ∙ omega (arith, a)
  peaks_atom w s (is_case {ts = ts} p) =
      let a = peaks_branches s p in peak_place w s (word (codes "case")) (ts ++ word (codes "esac") ∷ []) (wants (frame.Condition ∷ s)) refl refl ∙ omega (arith, a)

  peaks_members : {ts : List Lexeme} {us : Trees Path} (s : List Frame) (p : SpellsTrees ts us) → peak (wants (frame.Members ∷ s)) (ts ++ sign k.CloseBrace ∷ []) ≡ groups s + trees_nesting p
  peaks_members s (one_tree {ts = ts} p) =
      let a = peaks (frame.Members ∷ s) p in peak_past ts (sign k.CloseBrace) [] (had by_other s) (takes (frame.Members ∷ s) p) (after_members s) ∙ omega (arith, a)
  peaks_members s (more_trees {ts = ts} {us = us} p m) =
      let a = peaks (frame.Members ∷ s) p in let b = peaks_members s m in
      ap (peak (wants (frame.Members ∷ s))) (append_assoc ts (sign k.Comma ∷ us) (sign k.CloseBrace ∷ [])) ∙
      peak_past ts (sign k.Comma) (us ++ sign k.CloseBrace ∷ []) (wants (frame.Members ∷ s)) (takes (frame.Members ∷ s) p) (after_member s) ∙ omega (arith, a, b)

  peaks_branches : {ts : List Lexeme} {bs : Branches Path} (s : List Frame) (p : SpellsBranches ts bs) →
      peak (wants (frame.Condition ∷ s)) (ts ++ word (codes "esac") ∷ []) ≡ groups s + branches_nesting p
  peaks_branches s (one_branch {zs = zs} {xs = xs} p q) =
      let a = peaks (frame.Condition ∷ s) p in let b = peaks (frame.Outcome ∷ s) q in
      let inner = peak_past xs (sign k.Semicolon) (word (codes "esac") ∷ []) (wants_branch s) (takes (frame.Outcome ∷ s) q) (after_outcome s) in
      ap (peak (wants (frame.Condition ∷ s))) (regrouped_twice zs xs []) ∙
      peak_past zs (sign k.Colon) (xs ++ sign k.Semicolon ∷ word (codes "esac") ∷ []) (wants (frame.Outcome ∷ s)) (takes (frame.Condition ∷ s) p) (after_condition s) ∙ omega (arith, a, b, inner)
  peaks_branches s (more_branches {zs = zs} {xs = xs} {ys = ys} p q m) =
      let a = peaks (frame.Condition ∷ s) p in let b = peaks (frame.Outcome ∷ s) q in let c = peaks_branches s m in
      let d = peak_branch s s (ys ++ word (codes "esac") ∷ []) (takes_branches s m) in
      let inner = peak_past xs (sign k.Semicolon) (ys ++ word (codes "esac") ∷ []) (wants_branch s) (takes (frame.Outcome ∷ s) q) (after_outcome s) in
      ap (peak (wants (frame.Condition ∷ s))) (regrouped_twice zs xs ys) ∙
      peak_past zs (sign k.Colon) (xs ++ sign k.Semicolon ∷ (ys ++ word (codes "esac") ∷ [])) (wants (frame.Outcome ∷ s)) (takes (frame.Condition ∷ s) p) (after_condition s) ∙ omega (arith, a, b, c, d, inner)

-- the most that are open at once is the nesting of the spelling
pub peak_nesting : {ts : List Lexeme} {t : Tree Path} (p : Spells at_expr ts t) → peak start ts ≡ nesting_of p
peak_nesting p = let a = peaks [] p in omega (arith, a)
