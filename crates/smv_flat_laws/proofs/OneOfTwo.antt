-- One of two that is true, and a list in which one item is another one.
use Rattle.std.proofs.Common.{◌≡◌, ◌⊎◌, inl, inr, ℕ, zero, suc, ◌<◌, arith, List, [], ◌∷◌, length, Some, refl, ap}
use Rattle.std.specs.Prelude.{slice_get, slice_set}

-- one element of a list is another one
pub set_get : {A : Type 0} (xs : List A) (i j : ℕ) (v : A) → (slice_get (slice_set xs i v) j ≡ slice_get xs j) ⊎ ((j ≡ i) × (slice_get (slice_set xs i v) j ≡ Some v))
set_get [] i j v = inl refl
set_get (x ∷ xs) zero zero v = inr (refl, refl)
set_get (x ∷ xs) zero (suc j) v = inl refl
set_get (x ∷ xs) (suc i) zero v = inl refl
set_get (x ∷ xs) (suc i) (suc j) v = by_rest (set_get xs i j v)
  where
    by_rest : (slice_get (slice_set xs i v) j ≡ slice_get xs j) ⊎ ((j ≡ i) × (slice_get (slice_set xs i v) j ≡ Some v)) →
        (slice_get (slice_set (x ∷ xs) (suc i) v) (suc j) ≡ slice_get (x ∷ xs) (suc j)) ⊎ ((suc j ≡ suc i) × (slice_get (slice_set (x ∷ xs) (suc i) v) (suc j) ≡ Some v))
    by_rest (inl e) = inl e
    by_rest (inr e) = inr (ap suc e.0, e.1)

pub set_own : {A : Type 0} (xs : List A) (i : ℕ) (v : A) → i < length xs → slice_get (slice_set xs i v) i ≡ Some v
set_own [] i v within = absurd (omega (arith, within))
set_own (x ∷ xs) zero v within = refl
set_own (x ∷ xs) (suc i) v within = set_own xs i v (omega (arith, within))
