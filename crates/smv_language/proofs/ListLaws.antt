-- Places, beginnings, ends, images and members of lists.
use Rattle.std.proofs.Common.{◌≡◌, ℕ, zero, suc, List, [], ◌∷◌, Some, refl, ◌++◌, take, ap, ◌<◌, length, get_or, sym, arith, ◌∙◌, append_assoc, append-nil, ◌+◌, drop, ◌⊎◌, inl, inr, ◌≤◌, None}
use Rattle.std.specs.Prelude.{slice_get, map, flat_map, Contains, slice_index_or}
use Rattle.std.proofs.lemmas.List.{drop_more}

pub get_mapped : {A B : Type 0} (f : A → B) (xs : List A) (i : ℕ) (y : B) → slice_get (map f xs) i ≡ Some y → (x : A) × (slice_get xs i ≡ Some x) × (f x ≡ y)
get_mapped f [] i y e = cc
get_mapped f (x ∷ xs) zero y e = let same : f x ≡ y = cc in (x, refl, same)
get_mapped f (x ∷ xs) (suc i) y e = get_mapped f xs i y e

pub take_there : {A : Type 0} (xs : List A) (i : ℕ) (x : A) → slice_get xs i ≡ Some x → take (suc i) xs ≡ take i xs ++ x ∷ []
take_there [] i x h = cc
take_there (y ∷ xs) zero x h = cc
take_there (y ∷ xs) (suc i) x h = ap (λ zs. y ∷ zs) (take_there xs i x h)

pub get_there : {A : Type 0} (xs : List A) (i : ℕ) (x : A) → i < length xs → x ≡ get_or xs i x → slice_get xs i ≡ Some x
get_there [] i x h e = absurd (omega (arith, h))
get_there (y ∷ xs) zero x h e = ap Some (sym e)
get_there (y ∷ xs) (suc i) x h e = get_there xs i x (omega (arith, h)) e

pub get_map : {A B : Type 0} (f : A → B) (xs : List A) (i : ℕ) (x : A) → slice_get xs i ≡ Some x → slice_get (map f xs) i ≡ Some (f x)
get_map f [] i x e = cc
get_map f (y ∷ xs) zero x e = let same : y ≡ x = cc in ap (λ z. Some (f z)) same
get_map f (y ∷ xs) (suc i) x e = get_map f xs i x e

pub flat_end : {A B : Type 0} (g : A → List B) (xs : List A) (x : A) → flat_map g (xs ++ x ∷ []) ≡ flat_map g xs ++ g x
flat_end g [] x = append-nil (g x)
flat_end g (y ∷ xs) x = ap (λ zs. g y ++ zs) (flat_end g xs x) ∙ sym (append_assoc (g y) (flat_map g xs) (g x))

pub drop_here : {A : Type 0} (xs : List A) (i : ℕ) (x : A) → i < length xs → x ≡ get_or xs i x → drop i xs ≡ x ∷ drop (i + 1) xs
drop_here xs i x l e = drop_more xs i x l ∙ ap (λ y. y ∷ drop (i + 1) xs) (sym e)

pub take_own : {A : Type 0} (v bs : List A) → take (length v) (v ++ bs) ≡ v
take_own [] bs = refl
take_own (x ∷ v) bs = ap (λ more. x ∷ more) (take_own v bs)

-- one value more
pub take_next : {A : Type 0} (xs : List A) (i : ℕ) (x : A) → slice_get xs i ≡ Some x → take (i + 1) xs ≡ take i xs ++ x ∷ []
take_next {A = A} xs i x e = ap (λ n. take n xs) (plus i) ∙ by_place xs i e
  where
    plus : (i : ℕ) → i + 1 ≡ suc i
    plus i = omega arith

    by_place : (xs : List A) (i : ℕ) → slice_get xs i ≡ Some x → take (suc i) xs ≡ take i xs ++ x ∷ []
    by_place [] i e = cc
    by_place (y ∷ xs) zero e = first y x e
      where
        first : (y x : A) → Some y ≡ Some x → (y ∷ []) ≡ (x ∷ [])
        first y x e = cc
    by_place (y ∷ xs) (suc i) e = ap (λ more. y ∷ more) (by_place xs i e)

pub contains_later : {A : Type 0} (x y : A) (ys : List A) → Contains ys x → Contains (y ∷ ys) x
contains_later x y ys m = (suc m.0, grind (arith, m.1), m.2)

pub contains_cases : {A : Type 0} (x y : A) (xs : List A) → Contains (y ∷ xs) x → (y ≡ x) ⊎ Contains xs x
contains_cases x y xs c = by c.0 c.1 c.2
  where
    by : (k : ℕ) → k < suc (length xs) → slice_index_or (y ∷ xs) k x ≡ x → (y ≡ x) ⊎ Contains xs x
    by zero lt e = inl e
    by (suc k) lt e = inr (k, omega (arith, lt), e)

pub map_length : {A B : Type 0} (f : A → B) (xs : List A) → length (map f xs) ≡ length xs
map_length f [] = refl
map_length f (x ∷ xs) = ap suc (map_length f xs)

pub drop_past : {A : Type 0} (xs : List A) (k : ℕ) → length xs ≤ k → drop k xs ≡ []
drop_past [] zero h = refl
drop_past [] (suc k) h = refl
drop_past (y ∷ xs) zero h = absurd (omega (arith, h))
drop_past (y ∷ xs) (suc k) h = drop_past xs k (omega (arith, h))

-- what is left of a list, from the item at a place
pub drop_item : {A : Type 0} (xs : List A) (i : ℕ) (x : A) → slice_get xs i ≡ Some x → drop i xs ≡ x ∷ drop (suc i) xs
drop_item [] i x e = absurd (never x e)
  where
    never : {A : Type 0} (x : A) → None ≡ Some x → ⊥
    never x e = cc
drop_item (y ∷ xs) zero x e = ap (λ z. z ∷ xs) (some_same y x e)
  where
    some_same : {A : Type 0} (x y : A) → Some x ≡ Some y → x ≡ y
    some_same x y e = cc
drop_item (y ∷ xs) (suc i) x e = drop_item xs i x e
