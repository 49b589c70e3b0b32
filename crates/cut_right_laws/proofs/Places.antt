-- Members of lists and their places.
use Rattle.std.proofs.Common.{◌≡◌, ℕ, zero, suc, ◌<◌, arith, List, [], ◌∷◌, length, Some, refl, ap}
use Rattle.std.specs.Prelude.{slice_get, slice_index_or, Contains}
use Rattle.cut_right_laws.specs.Laws.{AreBoth}

-- a place that has a member is within the list
pub place_within : {A : Type 0} (xs : List A) (i : ℕ) (x : A) → slice_get xs i ≡ Some x → i < length xs
place_within [] i x e = cc
place_within (y ∷ xs) zero x e = omega arith
place_within (y ∷ xs) (suc i) x e = let h : i < length xs = place_within xs i x e in omega (arith, h)

-- and the other way of reading it gives the same
pub place_read : {A : Type 0} (xs : List A) (i : ℕ) (d x : A) → slice_get xs i ≡ Some x → slice_index_or xs i d ≡ x
place_read [] i d x e = cc
place_read (y ∷ xs) zero d x e = cc
place_read (y ∷ xs) (suc i) d x e = place_read xs i d x e

pub read_place : {A : Type 0} (xs : List A) (i : ℕ) (d x : A) → i < length xs → slice_index_or xs i d ≡ x → slice_get xs i ≡ Some x
read_place [] i d x h e = absurd (omega (arith, h))
read_place (y ∷ xs) zero d x h e = ap Some e
read_place (y ∷ xs) (suc i) d x h e = read_place xs i d x (omega (arith, h)) e

-- a member has a place
pub place_of_member : {A : Type 0} (xs : List A) (x : A) → Contains xs x → (i : ℕ) × (slice_get xs i ≡ Some x)
place_of_member xs x c = (c.0, read_place xs c.0 x x c.1 c.2)

pub member_at_place : {A : Type 0} (xs : List A) (i : ℕ) (x : A) → slice_get xs i ≡ Some x → Contains xs x
member_at_place xs i x e = (i, place_within xs i x e, place_read xs i x x e)

-- what a place holds is one
pub same_at : {A : Type 0} (xs : List A) (i j : ℕ) (x y : A) → i ≡ j → slice_get xs i ≡ Some x → slice_get xs j ≡ Some y → x ≡ y
same_at xs i j x y e a b = cc

-- of two lists whose members are related place by place
pub both_long : {A B : Type 0} (R : A → B → Type 0) (xs : List A) (ys : List B) → AreBoth R xs ys → length xs ≡ length ys
both_long R [] [] h = refl
both_long R [] (y ∷ ys) h = absurd h
both_long R (x ∷ xs) [] h = absurd h
both_long R (x ∷ xs) (y ∷ ys) h = ap suc (both_long R xs ys h.1)

pub both_at : {A B : Type 0} (R : A → B → Type 0) (xs : List A) (ys : List B) → AreBoth R xs ys → (i : ℕ) (y : B) → slice_get ys i ≡ Some y → (x : A) × (slice_get xs i ≡ Some x) × R x y
both_at R [] [] h i y e = cc
both_at R [] (z ∷ ys) h i y e = absurd h
both_at R (x ∷ xs) [] h i y e = absurd h
both_at {B = B} R (x ∷ xs) (z ∷ ys) h zero y e = (x, refl, transport_member z y (some_same z y e) h.0)
  where
    some_same : (a b : B) → Some a ≡ Some b → a ≡ b
    some_same a b e = cc

    transport_member : (a b : B) → a ≡ b → R x a → R x b
    transport_member a b e r = rw (← e) r
both_at R (x ∷ xs) (z ∷ ys) h (suc i) y e = both_at R xs ys h.1 i y e
