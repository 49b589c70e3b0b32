-- What is asked of a list is what is asked of its first item and of the rest.
use Rattle.std.proofs.Common.{◌≡◌, ℕ, zero, suc, ◌+◌, ◌<◌, ◌≤◌, List, [], ◌∷◌, ◌++◌, length, drop, Option, Some, None, refl, sym, ◌∙◌, ap, arith, append_assoc, append-nil, slice_index_or}
use Rattle.std.specs.Prelude.{slice_get}
use Rattle.smv_language.specs.Language.{FlatInstance, place_of}
use Rattle.smv_flat_laws.specs.Items.{Item, NumberedItem, instances_of}
use Rattle.smv_flat_laws.specs.Model.{Condition}
use Rattle.smv_scope.specs.declared.names.Scene.{Scene}
use Rattle.smv_scope.specs.declared.walk.Spot.{Spot}
use Rattle.smv_scope.specs.declared.modules.ModuleNames.{ModuleNames}
use Rattle.smv_scope.specs.declared.needs.Needs.{Needs}
use Rattle.smv_scope.specs.SceneTree.{program_of, IsScene, IsSpot, items_of_instance, items_at}
use Rattle.smv_flat.specs.ResolverOf.{leaf_at}
use Rattle.smv_flat.specs.FormulaLists.{asked_item, asked_items, asked_from, item_listed, instance_in, instance_told}
use Rattle.base_values.proofs.ListLaws.{drop_there, get_within}
use Rattle.smv_language.proofs.ListLaws.{drop_past}
use Rattle.smv_flat_laws.proofs.BothLaws.{both_size}

get_none : {A : Type 0} (xs : List A) (k : ℕ) → slice_get xs k ≡ None → length xs ≤ k
get_none [] k e = omega arith
get_none (y ∷ xs) zero e = cc
get_none (y ∷ xs) (suc k) e = let less : length xs ≤ k = get_none xs k e in omega (arith, less)

-- a step of a loop that appends
pub appended : {A : Type 0} (new old more rest left all : List A) → new ≡ old ++ more → left ≡ more ++ rest → old ++ left ≡ all → new ++ rest ≡ all
appended new old more rest left all e f g = ap (λ xs. xs ++ rest) e ∙ append_assoc old more rest ∙ ap (λ xs. old ++ xs) (sym f) ∙ g

module _ (s : Scene) (n : Needs) (what : Item → List Condition) where
  -- the item at a place, if there is one, and then the rest
  pub items_step : (spot k : ℕ) (is : List NumberedItem) → asked_items s n what spot (drop k is) ≡ asked_items s n what spot (item_listed (slice_get is k)) ++ asked_items s n what spot (drop (k + 1) is)
  items_step spot k is = by_get (slice_get is k) refl
    where
      by_get : (o : Option NumberedItem) → slice_get is k ≡ o → asked_items s n what spot (drop k is) ≡ asked_items s n what spot (item_listed o) ++ asked_items s n what spot (drop (k + 1) is)
      by_get None e =
          let past : length is ≤ k = get_none is k e in
          let later : length is ≤ k + 1 = omega (arith, past) in
          ap (asked_items s n what spot) (drop_past is k past) ∙ sym (ap (asked_items s n what spot) (drop_past is (k + 1) later))
      by_get (Some i) e =
          ap (asked_items s n what spot) (drop_there is k i e)
          ∙ ap (λ ts. ts ++ asked_items s n what spot (drop (k + 1) is)) (sym (append-nil (asked_item (leaf_at s n spot) spot what i)))

  -- the instance of a number, and then the rest
  pub spots_step : (k : ℕ) → k < length (instances_of (program_of s)) →
      asked_from s n what k (drop k (instances_of (program_of s))) ≡ asked_items s n what k (items_at (program_of s) k) ++ asked_from s n what (k + 1) (drop (k + 1) (instances_of (program_of s)))
  spots_step k less =
      let x : (x : FlatInstance) × (slice_get (instances_of (program_of s)) k ≡ Some x) = get_within (instances_of (program_of s)) k less in
      let later : suc k ≡ k + 1 = omega arith in
      ap (asked_from s n what k) (drop_there (instances_of (program_of s)) k x.0 x.1)
      ∙ ap (λ is. asked_items s n what k is ++ asked_from s n what (suc k) (drop (k + 1) (instances_of (program_of s)))) (sym (ap (items_of_instance (program_of s)) x.1))
      ∙ ap (λ j. asked_items s n what k (items_at (program_of s) k) ++ asked_from s n what j (drop (k + 1) (instances_of (program_of s)))) later

  pub spots_end : (k : ℕ) → length (instances_of (program_of s)) ≤ k → asked_from s n what k (drop k (instances_of (program_of s))) ≡ []
  spots_end k h = ap (asked_from s n what k) (drop_past (instances_of (program_of s)) k h)

pub many_spots : (s : Scene) → IsScene s → length (instances_of (program_of s)) ≡ length s.spots.items
many_spots s is = both_size (IsSpot (program_of s)) (instances_of (program_of s)) s.spots.items is.set.spots

pub index_get : (xs : List ℕ) (i : ℕ) → i < length xs → slice_get xs i ≡ Some (slice_index_or xs i 0)
index_get [] i h = absurd (omega (arith, h))
index_get (y ∷ xs) zero h = refl
index_get (y ∷ xs) (suc i) h = index_get xs i (omega (arith, h))

pub told_some : (s : Scene) (spot : Spot) (names : ModuleNames) → slice_get s.modules.list.items spot.«module» ≡ Some names →
    instance_told s spot ≡ record { place = place_of spot.path; module_name = names.«module».now.name } ∷ []
told_some s spot names e = ap (instance_in spot) e

pub told_none : (s : Scene) (spot : Spot) → slice_get s.modules.list.items spot.«module» ≡ None → instance_told s spot ≡ []
told_none s spot e = ap (instance_in spot) e
