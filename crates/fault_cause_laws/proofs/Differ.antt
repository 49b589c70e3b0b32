-- Lists of which any two members are judged, and those in which none stands twice.
use Rattle.std.proofs.Common.{◌≡◌, ◌≢◌, ℕ, zero, suc, List, [], ◌∷◌, map, Some, refl, ap}
use Rattle.std.specs.Prelude.{flat_map, slice_get}
use Rattle.smv_language.specs.Trace.{Each}
use Rattle.smv_flat_laws.proofs.Conditions.{each_join, each_at}
use Rattle.smv_flat_laws.proofs.Lists.{each_more, each_of_map, each_map}
use Rattle.smv_flat_laws.proofs.Pairs.{Pairwise, pairs_join, across_kinds}

-- no member stands twice
abbrev pub Differ : {A : Type 0} → List A → Type 0
Differ xs = Pairwise (λ x y. x ≢ y) xs

pub each_all : {A : Type 0} (P : A → Type 0) (xs : List A) → ((x : A) → P x) → Each P xs
each_all P [] f = tt
each_all P (x ∷ xs) f = (f x, each_all P xs f)

pub pairs_map : {A B : Type 0} (R : A → A → Type 0) (S : B → B → Type 0) (f : A → B) → ((a b : A) → R a b → S (f a) (f b)) → (xs : List A) → Pairwise R xs → Pairwise S (map f xs)
pairs_map R S f g [] h = tt
pairs_map R S f g (x ∷ xs) h = (each_map (S (f x)) f xs (each_more (R x) (λ y. S (f x) (f y)) xs (g x) h.0), pairs_map R S f g xs h.1)

pub pairs_of_map : {A B : Type 0} (S : B → B → Type 0) (f : A → B) (xs : List A) → Pairwise S (map f xs) → Pairwise (λ a b. S (f a) (f b)) xs
pairs_of_map S f [] h = tt
pairs_of_map S f (x ∷ xs) h = (each_of_map (S (f x)) f xs h.0, pairs_of_map S f xs h.1)

-- lists of each member of a list, put together: none stands twice where none does in one of them, and where those
-- of two members are others
module _ (A B : Type 0) (R : A → A → Type 0) (Of : A → B → Type 0) (f : A → List B) (own : (a : A) → Each (Of a) (f a)) (apart : (a b : A) (x y : B) → R a b → Of a x → Of b y → x ≢ y) where
  abbrev OfLater : A → B → Type 0
  OfLater a y = (b : A) × R a b × Of b y

  of_later : (a : A) (bs : List A) → Each (R a) bs → Each (OfLater a) (flat_map f bs)
  of_later a [] h = tt
  of_later a (b ∷ bs) h = each_join (OfLater a) (f b) (flat_map f bs) (each_more (Of b) (OfLater a) (f b) (λ y o. (b, h.0, o)) (own b)) (of_later a bs h.1)

  pub flat_differ : (xs : List A) → Pairwise R xs → Each (λ a. Differ (f a)) xs → Differ (flat_map f xs)
  flat_differ [] h k = tt
  flat_differ (x ∷ xs) h k =
      pairs_join (λ y z. y ≢ z) (f x) (flat_map f xs) k.0 (flat_differ xs h.1 k.1)
      (across_kinds (Of x) (OfLater x) (λ y z. y ≢ z) (λ y z o l. apart x l.0 y z l.1 o l.2) (f x) (flat_map f xs) (own x) (of_later x xs h.0))

-- two places with one member are one place
pub one_place : {A : Type 0} (xs : List A) → Differ xs → (j k : ℕ) (x : A) → slice_get xs j ≡ Some x → slice_get xs k ≡ Some x → j ≡ k
one_place [] h j k x e q = cc
one_place (y ∷ xs) h zero zero x e q = refl
one_place (y ∷ xs) h zero (suc k) x e q = let same : y ≡ x = cc in absurd (each_at (λ z. y ≢ z) xs k x h.0 q same)
one_place (y ∷ xs) h (suc j) zero x e q = let same : y ≡ x = cc in absurd (each_at (λ z. y ≢ z) xs j x h.0 e same)
one_place (y ∷ xs) h (suc j) (suc k) x e q = ap suc (one_place xs h.1 j k x e q)
