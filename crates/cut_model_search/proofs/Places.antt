-- Lists read place by place.
use Rattle.std.proofs.Common.{◌≡◌, ℕ, zero, suc, List, [], ◌∷◌, map, Some, refl, subst}
use Rattle.std.specs.Prelude.{All, slice_get, slice_index_or}
use Rattle.std.specs.List.{AllByRecursion}
use Rattle.std.proofs.lemmas.List.Elements.{All-head, All-tail}
use Rattle.smv_language.specs.Trace.{Each, EachPair}
use Rattle.cut_right_laws.specs.Laws.{AreBoth}
use Rattle.cut_right_laws.proofs.Places.{place_read}
use Rattle.std.proofs.lemmas.Option.{same_Some as some_same}
use Rattle.base_values.proofs.ListLaws.{get_within}

-- what holds at each place holds of all
pub all_by_place : {A : Type 0} (P : A → Type 0) (xs : List A) → ((k : ℕ) (x : A) → slice_get xs k ≡ Some x → P x) → All P xs
all_by_place P xs h k d within = let there : (x : _) × (slice_get xs k ≡ Some x) = get_within xs k within in subst P (mirrored (slice_index_or xs k d) there.0 (place_read xs k d there.0 there.1)) (h k there.0 there.1)
  where
    mirrored : {A : Type 0} (a b : A) → a ≡ b → b ≡ a
    mirrored a b e = cc

pub recursion_from_each : {A : Type 0} (P Q : A → Type 0) → ((x : A) → P x → Q x) → (xs : List A) → Each P xs → AllByRecursion Q xs
recursion_from_each P Q f [] h = tt
recursion_from_each P Q f (x ∷ xs) h = (f x h.0, recursion_from_each P Q f xs h.1)

pub recursion_from_all : {A : Type 0} (P Q : A → Type 0) → ((x : A) → P x → Q x) → (xs : List A) → All P xs → AllByRecursion Q xs
recursion_from_all P Q f [] h = tt
recursion_from_all P Q f (x ∷ xs) h = (f x (All-head P x xs h), recursion_from_all P Q f xs (All-tail P x xs h))

-- of two neighbours
pub pair_at : {A : Type 0} (R : A → A → Type 0) (xs : List A) → EachPair R xs → (k : ℕ) (x y : A) → slice_get xs k ≡ Some x → slice_get xs (suc k) ≡ Some y → R x y
pair_at R [] h k x y e f = cc
pair_at R (a ∷ []) h k x y e f = cc
pair_at R (a ∷ b ∷ xs) h zero x y e f = subst (λ u. R u y) (some_same a x e) (subst (R a) (some_same b y f) h.0)
pair_at R (a ∷ b ∷ xs) h (suc k) x y e f = pair_at R (b ∷ xs) h.1 k x y e f

-- two lists that are mapped from one
pub both_mapped : {A B C : Type 0} (R : B → C → Type 0) (f : A → B) (g : A → C) (xs : List A) → ((k : ℕ) (x : A) → slice_get xs k ≡ Some x → R (f x) (g x)) → AreBoth R (map f xs) (map g xs)
both_mapped R f g [] h = tt
both_mapped R f g (x ∷ xs) h = (h zero x refl, both_mapped R f g xs (λ k y e. h (suc k) y e))
