-- The sums of the code are those over the items of all instances.
use Rattle.std.proofs.Common.{◌≡◌, ℕ, ◌+◌, ◌<◌, min, arith, suc, List, [], ◌∷◌, length, map, get_or, drop, Some, refl, sym, ◌∙◌, ap, All}
use Rattle.std.specs.Prelude.{slice_get, sum_by}
use Rattle.std.proofs.lemmas.List.Elements.{All-nil, All-cons}
use Rattle.std.proofs.lemmas.List.Sums.{sum_by-cons, sum_by-drop_more}
use Rattle.std.proofs.lemmas.Option.{slice_get_within, get_or_from_slice_get}
use Rattle.base_values.specs.declared.limits.TheConstants.{MOST_COST}
use Rattle.smv_language.specs.declared.expr.Expr.{Expr}
use Rattle.smv_language.specs.Language.{Path, ProgramTree, program_tree, find_module, EachBoth, FlatInstance}
use Rattle.smv_language.proofs.ListLaws.{get_map}
use Rattle.smv_flat_laws.specs.Items.{Item as ItemOf, NumberedModule, items_of, modules_of, numbered_items}
use Rattle.smv_flat_laws.proofs.Variables.{both_at}
use Rattle.smv_type_laws.specs.CountedItems.{item_cost, over_items, over_module}
use Rattle.smv_type_laws.proofs.Summed.{sum_mapped, numbered_sum}
use Rattle.smv_scope.specs.ItemTree.{numbered_tree}
use Rattle.smv_scope.specs.SceneTree.{AreModules, HasNames, IsSpotWalked, number_and_item}
use Rattle.smv_scope.specs.declared.items.Numbered.{Numbered}
use Rattle.smv_scope.specs.declared.modules.ModuleNames.{ModuleNames}
use Rattle.smv_scope.specs.declared.modules.Modules.{Modules}
use Rattle.smv_scope.specs.declared.walk.Spot.{Spot}
use Rattle.smv_model.specs.ModuleCosts.{cost_as_actual, actuals_cost, numbered_cost, items_cost, module_cost, spot_cost, spots_cost}

-- what is left of a sum, one element on
pub actuals_cost_more : (es : List (Expr Path)) (i : ℕ) (d : Expr Path) → i < length es → actuals_cost (drop i es) ≡ cost_as_actual (get_or es i d) + actuals_cost (drop (i + 1) es)
actuals_cost_more es i d h = sum_by-drop_more cost_as_actual es i d h

pub items_cost_more : (is : List Numbered) (i : ℕ) (d : Numbered) → i < length is → items_cost (drop i is) ≡ numbered_cost (get_or is i d) + items_cost (drop (i + 1) is)
items_cost_more is i d h = sum_by-drop_more numbered_cost is i d h

pub spots_cost_more : (costs : List ℕ) (spots : List Spot) (i : ℕ) (d : Spot) → i < length spots →
    spots_cost costs (drop i spots) ≡ spot_cost costs (get_or spots i d) + spots_cost costs (drop (i + 1) spots)
spots_cost_more costs spots i d h = sum_by-drop_more (spot_cost costs) spots i d h

-- a module costs what its items cost
abbrev of_pair : ℕ × ItemOf → ℕ
of_pair x = item_cost x.1

names_cost : (m : NumberedModule) (names : ModuleNames) → HasNames m names → items_cost names.items.items ≡ over_items item_cost m.tree
names_cost m names has =
    sym (sum_mapped of_pair numbered_tree names.items.items) ∙ ap (sum_by of_pair) has.items ∙ sum_mapped of_pair number_and_item (numbered_items m)
    ∙ numbered_sum item_cost (suc m.number) [] (items_of m.tree)

-- sums that are cut at the limit
cut_more : (a b x y : ℕ) → min a (MOST_COST + 1) ≡ min b (MOST_COST + 1) → min x (MOST_COST + 1) ≡ min y (MOST_COST + 1) → min (a + x) (MOST_COST + 1) ≡ min (b + y) (MOST_COST + 1)
cut_more a b x y e f = omega (arith, e, f)

cut_twice : (n : ℕ) → min (min n (MOST_COST + 1)) (MOST_COST + 1) ≡ min n (MOST_COST + 1)
cut_twice n = omega arith

module _ (ms : Modules) (known : AreModules ms) where
  abbrev program : ProgramTree
  program = program_tree ms.program.now

  abbrev pub module_costs : List ℕ
  module_costs = map module_cost ms.list.items

  -- the module of an instance, by its place
  record HasModule (i : FlatInstance) (spot : Spot) : Type 0 where
    pub within : spot.«module» < length module_costs
    pub cost : spot_cost module_costs spot ≡ min (over_module item_cost (find_module program i.module_name)) (MOST_COST + 1)

  has_module : (i : FlatInstance) (spot : Spot) → IsSpotWalked program i spot → HasModule i spot
  has_module i spot walked =
      let tree : NumberedModule = walked.placed.tree in
      let both : (names : ModuleNames) × (slice_get ms.list.items spot.«module» ≡ Some names) × HasNames tree names =
      both_at HasNames (modules_of program) ms.list.items spot.«module» tree known.list walked.placed.is in
      let at : slice_get module_costs spot.«module» ≡ Some (module_cost both.0) = get_map module_cost ms.list.items spot.«module» both.0 both.1 in
      record {
        within = slice_get_within module_costs spot.«module» (module_cost both.0) at;
        cost =
            get_or_from_slice_get module_costs spot.«module» (module_cost both.0) 0 at ∙ ap (λ n. min n (MOST_COST + 1)) (names_cost tree both.0 both.2)
            ∙ ap (λ o. min (over_module item_cost o) (MOST_COST + 1)) (sym walked.placed.named);
      }

  pub all_within : (is : List FlatInstance) (spots : List Spot) → EachBoth (IsSpotWalked program) is spots → All (λ (spot : Spot). spot.«module» < length module_costs) spots
  all_within [] [] h = All-nil (λ (spot : Spot). spot.«module» < length module_costs)
  all_within [] (s ∷ spots) h = absurd h
  all_within (i ∷ is) [] h = absurd h
  all_within (i ∷ is) (s ∷ spots) h = All-cons (λ (spot : Spot). spot.«module» < length module_costs) s spots (has_module i s h.0).within (all_within is spots h.1)

  abbrev of_instance : FlatInstance → ℕ
  of_instance at = over_module item_cost (find_module program at.module_name)

  pub all_cost : (is : List FlatInstance) (spots : List Spot) → EachBoth (IsSpotWalked program) is spots →
      min (spots_cost module_costs spots) (MOST_COST + 1) ≡ min (sum_by of_instance is) (MOST_COST + 1)
  all_cost [] [] h = refl
  all_cost [] (s ∷ spots) h = absurd h
  all_cost (i ∷ is) [] h = absurd h
  all_cost (i ∷ is) (s ∷ spots) h =
      ap (λ n. min n (MOST_COST + 1)) (sum_by-cons (spot_cost module_costs) s spots)
      ∙ cut_more (spot_cost module_costs s) (of_instance i) (spots_cost module_costs spots) (sum_by of_instance is)
      (ap (λ n. min n (MOST_COST + 1)) (has_module i s h.0).cost ∙ cut_twice (of_instance i)) (all_cost is spots h.1)
      ∙ ap (λ n. min n (MOST_COST + 1)) (sym (sum_by-cons of_instance i is))
