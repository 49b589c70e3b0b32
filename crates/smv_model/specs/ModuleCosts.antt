-- What modules and instances cost, as the code counts them.
use Rattle.std.specs.Prelude.{ℕ, ◌+◌, min, List, sum_by, get_or}
use Rattle.base_values.specs.declared.limits.TheConstants.{MOST_COST}
use Rattle.smv_language.specs.declared.expr.Expr.{Expr}
use Rattle.smv_language.specs.Language.{Path, Role, state, input, frozen_role, tree_of, plain_name}
use Rattle.smv_type_laws.specs.CountedItems.{actual_cost, item_cost}
use Rattle.smv_scope.specs.ItemTree.{item_tree}
use Rattle.smv_scope.specs.declared.items.Numbered.{Numbered}
use Rattle.smv_scope.specs.declared.modules.ModuleNames.{ModuleNames}
use Rattle.smv_scope.specs.declared.walk.Spot.{Spot}

-- of an expression as an actual: a name alone costs nothing
abbrev pub cost_as_actual : Expr Path → ℕ
cost_as_actual e = actual_cost (plain_name (tree_of e)) (tree_of e)

-- of actuals
abbrev pub actuals_cost : List (Expr Path) → ℕ
actuals_cost es = sum_by cost_as_actual es

-- of an item of the code
abbrev pub numbered_cost : Numbered → ℕ
numbered_cost n = item_cost (item_tree n.item)

-- of items
abbrev pub items_cost : List Numbered → ℕ
items_cost is = sum_by numbered_cost is

-- of a module at an instance; one more than the limit stands for all that is greater
abbrev pub module_cost : ModuleNames → ℕ
module_cost m = min (items_cost m.items.items) (MOST_COST + 1)

-- of the condition that a variable of a role keeps its value
abbrev pub kept_cost : Role → ℕ
kept_cost frozen_role = 4
kept_cost state = 0
kept_cost input = 0

-- of an instance, by what modules cost
abbrev pub spot_cost : List ℕ → Spot → ℕ
spot_cost costs spot = get_or costs spot.«module» 0

-- of instances
abbrev pub spots_cost : List ℕ → List Spot → ℕ
spots_cost costs spots = sum_by (spot_cost costs) spots
