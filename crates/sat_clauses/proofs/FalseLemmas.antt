-- What stands where the literals of a clause are made false.
use Rattle.std.proofs.Common.{◌≡◌, ◌⊎◌, inl, inr, ⊎_elim, ℕ, ◌<◌, Bool, true, false, not, List, [], ◌∷◌, length, get_or, set, replicate, Option, Some, None, All, Contains, take, is_none, ◌+◌, ◌-◌, refl, sym, ap, ◌∙◌, subst, arith}
use Rattle.std.specs.Option.{option_map}
use Rattle.std.proofs.lemmas.Bool.{cases_eq, cases_lt}
use Rattle.std.proofs.lemmas.Option.{none-some, same_Some, get_or_from_slice_get, slice_get_within}
use Rattle.std.proofs.lemmas.List.{length-set, get_or-set_same, get_or-set_other, set_past, set-get_or, get_or-replicate, get_or_past, length-replicate}
use Rattle.std.specs.Prelude.{slice_get}
use Rattle.sat_clauses.specs.Literal.{Literal, opposite, signed}
use Rattle.sat_clauses.specs.Assignment.{Assignment, all_free, value_of, made_true}
use Rattle.sat_clauses.proofs.ListLemmas.{Contains-cons}
use Rattle.std.proofs.lemmas.List.Sums.{fold_more}
use Rattle.std.proofs.lemmas.List.Elements.{All-contains, All-take, All-contains_itself}
use Rattle.sat_clauses.specs.Hints.{made_false, HasNoOpposites, LacksOpposite}

pub All-slice_get : {X : Type 0} (P : X → Type 0) (xs : List X) (i : ℕ) (x : X) → slice_get xs i ≡ Some x → All P xs → P x
All-slice_get P xs i x e all = subst P (get_or_from_slice_get xs i x x e) (all i x (slice_get_within xs i x e))

pub length-made_false : (a : Assignment) (c : List Literal) → length (made_false a c) ≡ length a
length-made_false a [] = refl
length-made_false a (l ∷ ls) = length-made_false (made_true a (opposite l)) ls ∙ length-set a l.var _

same_sign : (n m : Bool) → signed n (not m) ≡ true → n ≡ m
same_sign true true e = refl
same_sign true false e = cc
same_sign false true e = cc
same_sign false false e = refl

not_not : (b : Bool) → not (not b) ≡ b
not_not true = refl
not_not false = refl

pub sign_of_false : (n b : Bool) → signed n b ≡ false → not (not n) ≡ b
sign_of_false true true e = refl
sign_of_false true false e = cc
sign_of_false false true e = cc
sign_of_false false false e = refl

pub opposite-opposite : (l : Literal) → opposite (opposite l) ≡ l
opposite-opposite l = ap (λ b. record { var = l.var; negated = b }) (not_not l.negated)

pub literal_is : (l m : Literal) → l.var ≡ m.var → l.negated ≡ m.negated → l ≡ m
literal_is l m e f = ap (λ x. record { var = x; negated = l.negated }) e ∙ ap (λ b. record { var = m.var; negated = b }) f

pub signed_not : (n : Bool) → signed n (not n) ≡ true
signed_not true = refl
signed_not false = refl

pub same_or_opposite : (l m : Literal) → l.var ≡ m.var → (l ≡ m) ⊎ (l ≡ opposite m)
same_or_opposite l m e = by_sign l.negated m.negated refl refl
  where
    by_sign : (a b : Bool) → l.negated ≡ a → m.negated ≡ b → (l ≡ m) ⊎ (l ≡ opposite m)
    by_sign true true p q = inl (literal_is l m e (p ∙ sym q))
    by_sign false false p q = inl (literal_is l m e (p ∙ sym q))
    by_sign true false p q = inr (literal_is l (opposite m) e (p ∙ sym (ap not q)))
    by_sign false true p q = inr (literal_is l (opposite m) e (p ∙ sym (ap not q)))

-- what is true where a literal was made true was true, or is that literal
pub made_true_true : (a : Assignment) (m l : Literal) → value_of (made_true a m) l ≡ Some true → (value_of a l ≡ Some true) ⊎ (l ≡ m)
made_true_true a m l e =
    ⊎_elim
    (λ same. ⊎_elim
    (λ inside. inr (literal_is l m same (same_sign l.negated m.negated (same_Some _ _ (sym (ap (option_map (signed l.negated)) (ap (λ x. get_or (made_true a m) x None) same ∙ get_or-set_same a m.var _ None inside)) ∙ e)))))
    (λ outside. inl (ap (λ b. value_of b l) (sym (set_past a m.var _ outside)) ∙ e))
    (cases_lt m.var (length a)))
    (λ other. inl (ap (option_map (signed l.negated)) (sym (get_or-set_other a m.var l.var _ None other)) ∙ e))
    (cases_eq l.var m.var)

-- what is true where a clause was made false was true before, or has its opposite there
pub made_false_true : (a : Assignment) (c : List Literal) (l : Literal) → value_of (made_false a c) l ≡ Some true → (value_of a l ≡ Some true) ⊎ Contains c (opposite l)
made_false_true a [] l e = inl e
made_false_true a (m ∷ ms) l e =
    ⊎_elim
    (λ before. ⊎_elim
    (λ was. inl was)
    (λ same. inr (0, omega arith, sym (opposite-opposite m) ∙ ap opposite (sym same)))
    (made_true_true a (opposite m) l before))
    (λ has. inr (Contains-cons m ms (opposite l) has))
    (made_false_true (made_true a (opposite m)) ms l e)

-- to make a false literal false changes nothing
pub made_true_same : (a : Assignment) (l : Literal) → value_of a l ≡ Some false → made_true a (opposite l) ≡ a
made_true_same a l e = ap (set a l.var) (place (get_or a l.var None) e) ∙ set-get_or a l.var None where
  place : (o : Option Bool) → option_map (signed l.negated) o ≡ Some false → Some (not (not l.negated)) ≡ o
  place None e = absurd (none-some false e)
  place (Some b) e = ap Some (sign_of_false l.negated b (same_Some _ _ e))

-- nothing is true where all is free
pub free_not_true : (a : Assignment) (l : Literal) → a ≡ replicate (length a) None → value_of a l ≡ Some true → ⊥
free_not_true a l free e =
    none-some true (sym (ap (option_map (signed l.negated)) (ap (λ b. get_or b l.var None) free ∙ nothing (length a))) ∙ e)
  where
    nothing : (n : ℕ) → get_or (replicate {A = Option Bool} n None) l.var None ≡ None
    nothing n = ⊎_elim (λ inside. get_or-replicate n l.var None None inside) (λ outside. get_or_past (replicate n None) l.var None (omega (arith, length-replicate {A = Option Bool} n None))) (cases_lt l.var n)

made_false_more : (a : Assignment) (lits : List Literal) (i : ℕ) (l : Literal) → i < length lits → l ≡ get_or lits i l → made_false a (take (i + 1) lits) ≡ made_true (made_false a (take i lits)) (opposite l)
made_false_more a lits i l lt is = fold_more (λ b m. made_true b (opposite m)) a lits i l lt ∙ ap (λ m. made_true (made_false a (take i lits)) (opposite m)) (sym is)

-- one more literal of the clause is made false
pub make_next_false : (a : Assignment) (lits : List Literal) (i : ℕ) (l : Literal) (now next : Assignment) → i < length lits → l ≡ get_or lits i l → now ≡ made_false a (take i lits) → next ≡ made_true now (opposite l) → next ≡ made_false a (take (i + 1) lits)
make_next_false a lits i l now next lt is e f = f ∙ (ap (λ b. made_true b (opposite l)) e ∙ sym (made_false_more a lits i l lt is))

-- a literal that has a value is false already, since the clause has no opposites
pub keep_next_false : (a : Assignment) (lits : List Literal) (i : ℕ) (l : Literal) (now : Assignment) → a ≡ replicate (length a) None → HasNoOpposites lits → i < length lits → l ≡ get_or lits i l → now ≡ made_false a (take i lits) → is_none (value_of now l) ≡ false → now ≡ made_false a (take (i + 1) lits)
keep_next_false a lits i l now free apart lt is e has_value =
    let was = made_false a (take i lits) in
    e ∙ (sym (made_true_same was l (is_false (value_of was l) refl (sym (ap (λ b. is_none (value_of b l)) e) ∙ has_value))) ∙ sym (made_false_more a lits i l lt is))
  where
    in_all : Contains (take i lits) (opposite l) → Contains lits (opposite l)
    in_all has = All-contains (Contains lits) (take i lits) (opposite l) (All-take (Contains lits) i lits (All-contains_itself lits)) has

    is_false : (o : Option Bool) → value_of (made_false a (take i lits)) l ≡ o → is_none o ≡ false → o ≡ Some false
    is_false None v h = cc
    is_false (Some false) v h = refl
    is_false (Some true) v h =
        absurd (⊎_elim (free_not_true a l free) (λ has. (subst (LacksOpposite lits) (sym is) (apart i l lt)).absent (in_all has)) (made_false_true a (take i lits) l v))

-- an assignment that is all free by its number of variables is so by its length
pub free_by_length : (a : Assignment) → a ≡ all_free (length a - 1) → a ≡ replicate (length a) None
free_by_length a e =
    let places : length a ≡ length a - 1 + 1 = ap length e ∙ length-replicate (length a - 1 + 1) None in
    e ∙ ap (λ n. replicate n None) (sym places)
