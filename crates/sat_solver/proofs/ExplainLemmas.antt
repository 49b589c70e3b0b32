-- The clause that an analysis makes follows by the hints that it makes.
use Rattle.std.proofs.Common.{◌≡◌, ◌≢◌, ◌⊎◌, inl, inr, ⊎_elim, zero, suc, ℕ, ◌+◌, ◌<◌, Bool, true, false, not, List, [], ◌∷◌, length, get_or, set, Option, Some, None, Contains, refl, sym, ap, ◌∙◌, add-one, arith}
use Rattle.std.specs.Option.{option_map}
use Rattle.std.proofs.lemmas.Bool.{cases_eq, cases_lt}
use Rattle.std.proofs.lemmas.Option.{none-some, same_Some}
use Rattle.std.proofs.lemmas.List.{length-set, get_or-set_same, get_or-set_other, set_past}
use Rattle.sat_clauses.specs.Literal.{Literal, opposite, signed}
use Rattle.sat_clauses.specs.Assignment.{Assignment, value_of, made_true}
use Rattle.sat_solver.specs.Analysis.{marked}
use Rattle.sat_clauses.proofs.DeriveTrailLemmas.{None-from_value}

-- each value of a is one of b
abbrev pub IsPart : Assignment → Assignment → Type 0
IsPart a b = (x : ℕ) (v : Bool) → get_or a x None ≡ Some v → get_or b x None ≡ Some v

-- b is a part of a with all its marked variables
pub record Agrees (marks : List Bool) (a b : Assignment) : Type 0 where
  pub same_length : length b ≡ length a
  pub part : IsPart b a
  pub has_marked : (x : ℕ) (v : Bool) → get_or marks x false ≡ true → get_or a x None ≡ Some v → get_or b x None ≡ Some v

-- what a literal's value says of its variable, and back
pub value_at : (a : Assignment) (l : Literal) (d : Bool) → value_of a l ≡ Some d → (b : Bool) × (get_or a l.var None ≡ Some b) × (signed l.negated b ≡ d)
value_at a l d e = by_place (get_or a l.var None) refl e where
  by_place : (o : Option Bool) → get_or a l.var None ≡ o → option_map (signed l.negated) o ≡ Some d → (b : Bool) × (get_or a l.var None ≡ Some b) × (signed l.negated b ≡ d)
  by_place None is f = absurd (none-some d f)
  by_place (Some b) is f = (b, is, same_Some _ _ f)

pub value_part : (a b : Assignment) (l : Literal) (d : Bool) → IsPart a b → value_of a l ≡ Some d → value_of b l ≡ Some d
value_part a b l d part e =
    let w = value_at a l d e in
    ap (option_map (signed l.negated)) (part l.var w.0 w.1) ∙ ap Some w.2

pub made_true_here : (a : Assignment) (l : Literal) → l.var < length a → get_or (made_true a l) l.var None ≡ Some (not l.negated)
made_true_here a l inside = get_or-set_same a l.var _ None inside

pub made_true_else : (a : Assignment) (l : Literal) (x : ℕ) → x ≢ l.var → get_or (made_true a l) x None ≡ get_or a x None
made_true_else a l x other = get_or-set_other a l.var x _ None other

pub signed_opposite : (n : Bool) → signed (not n) (not n) ≡ false
signed_opposite true = refl
signed_opposite false = refl

pub false_here : (a : Assignment) (l : Literal) → l.var < length a → value_of (made_true a l) (opposite l) ≡ Some false
false_here a l inside = ap (option_map (signed (not l.negated))) (made_true_here a l inside) ∙ ap Some (signed_opposite l.negated)

-- a free variable may be given a value
pub IsPart-more : (a : Assignment) (l : Literal) → value_of a l ≡ None → IsPart a (made_true a l)
IsPart-more a l free x v e =
    ⊎_elim
    (λ same. absurd (none-some v (sym (None-from_value l.negated (get_or a l.var None) free) ∙ (ap (λ y. get_or a y None) (sym same) ∙ e))))
    (λ other. made_true_else a l x other ∙ e)
    (cases_eq x l.var)

-- marks
pub marked_keeps : (c : List Literal) (m : List Bool) (x : ℕ) → get_or m x false ≡ true → get_or (marked m c) x false ≡ true
marked_keeps [] m x e = e
marked_keeps (l ∷ ls) m x e =
    marked_keeps ls (set m l.var true) x
    (⊎_elim
    (λ same. ⊎_elim
    (λ inside. ap (λ y. get_or (set m l.var true) y false) same ∙ get_or-set_same m l.var true false inside)
    (λ outside. ap (λ y. get_or y x false) (set_past m l.var true outside) ∙ e)
    (cases_lt l.var (length m)))
    (λ other. get_or-set_other m l.var x true false other ∙ e)
    (cases_eq x l.var))

pub marked_has : (c : List Literal) (m : List Bool) (l : Literal) → Contains c l → l.var < length m → get_or (marked m c) l.var false ≡ true
marked_has [] m l has inside = absurd (omega (arith, has.1))
marked_has (k ∷ ks) m l has inside =
    by_place (λ h. marked_has ks (set m k.var true) l h (omega (arith, length-set m k.var true))) has.0 has.1 has.2
  where
    by_place : (Contains ks l → get_or (marked m (k ∷ ks)) l.var false ≡ true) → (i : ℕ) → i < length (k ∷ ks) → get_or (k ∷ ks) i l ≡ l → get_or (marked m (k ∷ ks)) l.var false ≡ true
    by_place later zero lt e =
        let var : k.var ≡ l.var = ap (λ (y : Literal). y.var) e in
        marked_keeps ks (set m k.var true) l.var
        (ap (λ y. get_or (set m k.var true) y false) (sym var) ∙ get_or-set_same m k.var true false (omega arith))
    by_place later (suc i) lt e = later (i, omega arith, e)

-- a marked variable was marked, or is one of the clause
pub marked_cases : (c : List Literal) (m : List Bool) (x : ℕ) → get_or (marked m c) x false ≡ true → (get_or m x false ≡ true) ⊎ ((l : Literal) × Contains c l × (l.var ≡ x))
marked_cases [] m x e = inl e
marked_cases (k ∷ ks) m x e =
    ⊎_elim
    (λ before. ⊎_elim
    (λ same. inr (k, (0, omega arith, refl), sym same))
    (λ other. inl (sym (get_or-set_other m k.var x true false other) ∙ before))
    (cases_eq x k.var))
    (λ has. inr (has.0, (has.1.0 + 1, omega (arith, has.1.1), rw add-one has.1.2), has.2))
    (marked_cases ks (set m k.var true) x e)
