-- Places, beginnings, ends, images and members of lists.
use Rattle.std.proofs.Common.{◌≡◌, ℕ, ◌+◌, List, ◌∷◌, drop, ◌∙◌, ap, Some, ◌⊎◌, inl, inr, zero, suc, [], ◌++◌, length, refl, true, false, Bool, cond, ◌<◌, sym, subst, arith}
use Rattle.std.proofs.lemmas.List.{drop_more}
use Rattle.std.proofs.lemmas.Option.{slice_get_within, get_or_from_slice_get}
use Rattle.std.specs.Prelude.{slice_get, All, Contains, slice_index_or, filter}
use Rattle.std.proofs.lemmas.List.Elements.{Contains-get_or, All-contains, All-filter, All-contains_itself}
use Rattle.std.proofs.lemmas.Bool.{cond-true}
use Rattle.std.specs.List.{AllByRecursion}
use Rattle.std.specs.Str.{bytes_eq}
use Rattle.std.proofs.lemmas.Slice.Eq.{bytes_eq-Decides}

pub drop_there : {X : Type 0} (xs : List X) (i : ℕ) (x : X) → slice_get xs i ≡ Some x → drop i xs ≡ x ∷ drop (i + 1) xs
drop_there xs i x e = drop_more xs i x (slice_get_within xs i x e) ∙ ap (λ y. y ∷ drop (i + 1) xs) (get_or_from_slice_get xs i x x e)

pub push_get : {A : Type 0} (xs : List A) (y : A) (i : ℕ) (v : A) → slice_get (xs ++ y ∷ []) i ≡ Some v → (slice_get xs i ≡ Some v) ⊎ ((i ≡ length xs) × (y ≡ v))
push_get [] y zero v e = inr (refl, cc)
push_get [] y (suc i) v e = cc
push_get (x ∷ xs) y zero v e = inl e
push_get (x ∷ xs) y (suc i) v e = elim (push_get xs y i v e) [ inl h ↦ inl h | inr h ↦ inr (ap suc h.0, h.1) ]

pub all_from : {A : Type 0} (P : A → Type 0) (xs : List A) → ((x : A) → Contains xs x → P x) → All P xs
all_from P xs h = λ k y within. h (slice_index_or xs k y) (Contains-get_or xs k y within)

pub all_more : {X : Type 0} (P Q : X → Type 0) → ((x : X) → P x → Q x) → (xs : List X) → AllByRecursion P xs → AllByRecursion Q xs
all_more P Q h [] e = tt
all_more P Q h (x ∷ xs) e = (h x e.0, all_more P Q h xs e.1)

pub all_joined : {X : Type 0} (P : X → Type 0) (xs ys : List X) → AllByRecursion P xs → AllByRecursion P ys → AllByRecursion P (xs ++ ys)
all_joined P [] ys e f = f
all_joined P (x ∷ xs) ys e f = (e.0, all_joined P xs ys e.1 f)

pub bytes_eq-refl : (name : List ℕ) → bytes_eq name name ≡ true
bytes_eq-refl name = (bytes_eq-Decides name name).1 refl

pub get_left : {A : Type 0} (xs ys : List A) (i : ℕ) (x : A) → slice_get xs i ≡ Some x → slice_get (xs ++ ys) i ≡ Some x
get_left [] ys i x e = cc
get_left (y ∷ xs) ys zero x e = e
get_left (y ∷ xs) ys (suc i) x e = get_left xs ys i x e

pub get_within : {A : Type 0} (xs : List A) (i : ℕ) → i < length xs → (x : A) × (slice_get xs i ≡ Some x)
get_within [] i h = absurd (omega (arith, h))
get_within (y ∷ xs) zero h = (y, refl)
get_within (y ∷ xs) (suc i) h = get_within xs i (omega (arith, h))

pub contains_here : {A : Type 0} (x : A) (xs : List A) → Contains (x ∷ xs) x
contains_here x xs = (zero, omega arith, refl)

pub none_contained : {A : Type 0} (x : A) → Contains [] x → ⊥
none_contained x has = absurd (omega (arith, has.1))

-- what stands in a filtered list stands in the list, and what passes the test stays in it
pub from_filter : {A : Type 0} (p : A → Bool) (xs : List A) (x : A) → Contains (filter p xs) x → Contains xs x
from_filter p xs x has = All-contains (Contains xs) (filter p xs) x (All-filter p (Contains xs) xs (All-contains_itself xs)) has

pub to_filter : {A : Type 0} (p : A → Bool) (xs : List A) (x : A) → Contains xs x → p x ≡ true → Contains (filter p xs) x
to_filter p [] x has is = absurd (none_contained x has)
to_filter {A} p (y ∷ xs) x has is = by_place has.0 has.1 has.2 (λ r. to_filter p xs x r is)
  where
    by_place : (i : ℕ) → i < length (y ∷ xs) → slice_index_or (y ∷ xs) i x ≡ x → (Contains xs x → Contains (filter p xs) x) → Contains (filter p (y ∷ xs)) x
    by_place zero lt e more = subst (λ (r : List A). Contains r x) (sym (cond-true (p y) (y ∷ filter p xs) (filter p xs) (ap p e ∙ is))) (zero, omega arith, e)
    by_place (suc i) lt e more = by_test (p y) (more (i, omega (arith, lt), e))
      where
        by_test : (b : Bool) → Contains (filter p xs) x → Contains (cond b (y ∷ filter p xs) (filter p xs)) x
        by_test true r = (suc r.0, (let l = r.1 in omega (arith, l)), r.2)
        by_test false r = r

pub same_bytes : (a b : List ℕ) → a ≡ b → bytes_eq a b ≡ true
same_bytes a b e = (bytes_eq-Decides a b).1 e
