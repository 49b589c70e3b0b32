-- The items of an instance are those of its module.
use Rattle.std.proofs.Common.{◌≡◌, ℕ, zero, suc, List, [], ◌∷◌, length, map, Option, Some, None, refl, sym, ◌∙◌, ap}
use Rattle.std.specs.Prelude.{slice_get, option_map}
use Rattle.smv_language.specs.Language.{FlatInstance, EachBoth}
use Rattle.smv_flat_laws.specs.Items.{items_named, modules_of, numbered_items, instances_of}
use Rattle.smv_flat_laws.proofs.Variables.{both_at}
use Rattle.smv_scope.specs.ItemTree.{numbered_tree}
use Rattle.smv_scope.specs.SceneTree.{HasNames, IsOwn, IsSpot, number_and_item, items_of_instance, items_at, program_of, IsSet}
use Rattle.smv_scope.specs.TableLookUps.{names_of_spot}
use Rattle.smv_scope.specs.Steps.{numbered_in, numbered_at, count_in}
use Rattle.smv_scope.specs.NumberedScenes.{IsLaidSpot, IsLaid}
use Rattle.smv_scope.specs.declared.modules.ModuleNames.{ModuleNames}
use Rattle.smv_scope.specs.declared.walk.Spot.{Spot}
use Rattle.smv_scope.specs.declared.names.Scene.{Scene}
use Rattle.smv_flat_laws.proofs.BothLaws.{both_long}

pub both_none : {A B : Type 0} (R : A → B → Type 0) (xs : List A) (ys : List B) (i : ℕ) → EachBoth R xs ys → slice_get xs i ≡ None → slice_get ys i ≡ None
both_none R [] [] i h e = refl
both_none R [] (y ∷ ys) i h e = absurd h
both_none R (x ∷ xs) [] i h e = absurd h
both_none R (x ∷ xs) (y ∷ ys) zero h e = cc
both_none R (x ∷ xs) (y ∷ ys) (suc i) h e = both_none R xs ys i h.1 e

pub both_more : {A B : Type 0} (R Q : A → B → Type 0) (xs : List A) (ys : List B) → ((x : A) (y : B) → R x y → Q x y) → EachBoth R xs ys → EachBoth Q xs ys
both_more R Q [] [] f h = tt
both_more R Q [] (y ∷ ys) f h = absurd h
both_more R Q (x ∷ xs) [] f h = absurd h
both_more R Q (x ∷ xs) (y ∷ ys) f h = (f x y h.0, both_more R Q xs ys f h.1)

pub get_map : {A B : Type 0} (f : A → B) (xs : List A) (i : ℕ) → slice_get (map f xs) i ≡ option_map f (slice_get xs i)
get_map f [] i = refl
get_map f (x ∷ xs) zero = refl
get_map f (x ∷ xs) (suc i) = get_map f xs i

pub set_laid : (s : Scene) → IsSet s → IsLaid s
set_laid s set = record {
  modules = set.modules;
  walkable = set.walkable;
  spots =
      both_more (IsSpot (program_of s)) (IsLaidSpot (program_of s)) (instances_of (program_of s)) s.spots.items
      (λ at own h. record { placed = h.placed; count = both_long (IsOwn (program_of s) at.place) (items_named (program_of s) at.module_name) own.own.items h.own })
      set.spots;
}

module _ (s : Scene) (laid : IsLaid s) (spot : ℕ) where
  pub laid_at : (at : FlatInstance) → slice_get (instances_of (program_of s)) spot ≡ Some at → (own : Spot) × (slice_get s.spots.items spot ≡ Some own) × IsLaidSpot (program_of s) at own
  laid_at at e = both_at (IsLaidSpot (program_of s)) (instances_of (program_of s)) s.spots.items spot at laid.spots e

  no_spot : slice_get (instances_of (program_of s)) spot ≡ None → slice_get s.spots.items spot ≡ None
  no_spot e = both_none (IsLaidSpot (program_of s)) (instances_of (program_of s)) s.spots.items spot laid.spots e

  -- the module's names
  pub names_laid : (at : FlatInstance) → (own : Spot) → slice_get s.spots.items spot ≡ Some own → (fits : IsLaidSpot (program_of s) at own) →
      (names : ModuleNames) × (names_of_spot s (slice_get s.spots.items spot) ≡ Some names) × HasNames fits.placed.tree names
  names_laid at own is fits =
      let n : (names : ModuleNames) × (slice_get s.modules.list.items own.«module» ≡ Some names) × HasNames fits.placed.tree names =
      both_at HasNames (modules_of (program_of s)) s.modules.list.items own.«module» fits.placed.tree laid.modules.list fits.placed.is in
      (n.0, ap (names_of_spot s) is ∙ n.1, n.2)

  pub item_listed : (at : FlatInstance) → slice_get (instances_of (program_of s)) spot ≡ Some at → (place : ℕ) →
      option_map numbered_tree (numbered_at s spot place) ≡ option_map number_and_item (slice_get (items_named (program_of s) at.module_name) place)
  item_listed at e place =
      let own : (own : Spot) × (slice_get s.spots.items spot ≡ Some own) × IsLaidSpot (program_of s) at own = laid_at at e in
      let names : (names : ModuleNames) × (names_of_spot s (slice_get s.spots.items spot) ≡ Some names) × HasNames own.2.placed.tree names = names_laid at own.0 own.1 own.2 in
      ap (λ o. option_map numbered_tree (numbered_in o place)) names.1
      ∙ sym (get_map numbered_tree names.0.items.items place)
      ∙ ap (λ xs. slice_get xs place) names.2.items
      ∙ get_map number_and_item (numbered_items own.2.placed.tree) place
      ∙ ap (λ is. option_map number_and_item (slice_get is place)) (sym own.2.placed.items)

  pub items_listed : (place : ℕ) → option_map numbered_tree (numbered_at s spot place) ≡ option_map number_and_item (slice_get (items_at (program_of s) spot) place)
  items_listed place = by_instance (slice_get (instances_of (program_of s)) spot) refl
    where
      by_instance : (o : Option FlatInstance) → slice_get (instances_of (program_of s)) spot ≡ o →
          option_map numbered_tree (numbered_at s spot place) ≡ option_map number_and_item (slice_get (items_of_instance (program_of s) o) place)
      by_instance None e = ap (λ o. option_map numbered_tree (numbered_in (names_of_spot s o) place)) (no_spot e)
      by_instance (Some at) e = item_listed at e place

  pub items_counted : count_in (slice_get s.spots.items spot) ≡ length (items_at (program_of s) spot)
  items_counted = by_instance (slice_get (instances_of (program_of s)) spot) refl
    where
      by_instance : (o : Option FlatInstance) → slice_get (instances_of (program_of s)) spot ≡ o → count_in (slice_get s.spots.items spot) ≡ length (items_of_instance (program_of s) o)
      by_instance None e = ap count_in (no_spot e)
      by_instance (Some at) e =
          let own : (own : Spot) × (slice_get s.spots.items spot ≡ Some own) × IsLaidSpot (program_of s) at own = laid_at at e in
          ap count_in own.1 ∙ own.2.count
