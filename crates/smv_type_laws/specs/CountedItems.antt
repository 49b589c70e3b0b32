-- What the flat model of a program costs at least, by the items of its instances.
use Rattle.std.specs.Prelude.{◌≡◌, ℕ, ◌+◌, ◌<◌, true, List, Option, Some, None, sum_by}
use Rattle.base_values.specs.declared.limits.TheConstants.{MOST_COST}
use Rattle.smv_language.specs.Language.{Path, Formula, DeclaredTree, instance, ModuleTree, ProgramTree, Role, plain_name, find_module}
use Rattle.smv_language.specs.Language.{FlatInstance, FlatModel}
use Rattle.smv_flat_laws.specs.Items.{Item, a_declaration, a_definition, items_of, Visit, variables_of, instances_of}
use Rattle.smv_flat_laws.specs.Rules.{IsWalkable}
use Rattle.smv_flat_laws.specs.Model.{Condition, Root, roots_of, conditions, first_conditions, each_conditions, step_conditions}
use Rattle.smv_flat_laws.specs.Model.{kept_conditions, IsFlatOf}
use Rattle.smv_type_laws.specs.Costs.{cost_of, declared_cost}
use Rattle.smv_type_laws.specs.Counted.{condition_cost, written_cost, key_cost, counted_cost}
use Rattle.smv_type_laws.specs.Models.{is_too_large}

-- of a variable of a type; an instance is none
abbrev pub of_type : (DeclaredTree → ℕ) → DeclaredTree → ℕ
of_type g (instance m actuals) = 0
of_type g what = g what

-- of the variable that an item declares
abbrev pub of_variable : (Role → DeclaredTree → ℕ) → Item → ℕ
of_variable g (a_declaration role d) = of_type (g role) d.what
of_variable g i = 0

-- of an actual: a plain name has no definition
abbrev pub actual_cost : Option Path → Formula → ℕ
actual_cost None e = cost_of e
actual_cost (Some name) e = 0

-- of the actuals of an instance
abbrev pub handed_cost : DeclaredTree → ℕ
handed_cost (instance m actuals) = sum_by (λ e. actual_cost (plain_name e) e) actuals
handed_cost what = 0

-- of the definitions of an item
abbrev pub definition_cost : Item → ℕ
definition_cost (a_declaration role d) = handed_cost d.what
definition_cost (a_definition d) = cost_of d.value
definition_cost i = 0

-- of what an item asks
abbrev pub asked_cost : (Item → List Condition) → Item → ℕ
asked_cost what i = sum_by condition_cost (what i)

-- of an item at an instance, whichever that is
abbrev pub item_cost : Item → ℕ
item_cost i =
    of_variable (λ role what. declared_cost what) i + definition_cost i + asked_cost first_conditions i + asked_cost each_conditions i
    + (asked_cost step_conditions i + asked_cost kept_conditions i)

-- of all items of a module
abbrev pub over_items : (Item → ℕ) → ModuleTree → ℕ
over_items f m = sum_by f (items_of m)

-- of the module of a name, where it is there
abbrev pub over_module : (Item → ℕ) → Option ModuleTree → ℕ
over_module f None = 0
over_module f (Some m) = over_items f m

-- of all items of all instances
abbrev pub over_instances : (Item → ℕ) → ProgramTree → ℕ
over_instances f p = sum_by (λ (at : FlatInstance). over_module f (find_module p at.module_name)) (instances_of p)

-- whatever is counted of variables by role and type is counted item by item
abbrev pub VariablesByItems : Type 0
VariablesByItems = (p : ProgramTree) → IsWalkable p → (g : Role → DeclaredTree → ℕ) →
    sum_by (λ (v : Visit). g v.role v.decl.what) (variables_of p) ≡ over_instances (of_variable g) p

-- so is what definitions cost
abbrev pub DefinitionsByItems : Type 0
DefinitionsByItems =
    (p : ProgramTree) → IsWalkable p → sum_by (λ (r : Root). key_cost p r.key) (roots_of p) ≡ over_instances definition_cost p

-- and what the conditions of a kind cost, in any program
abbrev pub ConditionsByItems : Type 0
ConditionsByItems =
    (p : ProgramTree) (what : Item → List Condition) → sum_by written_cost (conditions what p) ≡ over_instances (asked_cost what) p

-- what is counted over a program is the sum over its instances of the items of their modules
abbrev pub CountedByItems : Type 0
CountedByItems = (p : ProgramTree) → IsWalkable p → counted_cost p ≡ over_instances item_cost p

-- a program of which more is counted than the limit has no model that keeps it
abbrev pub CountedIsTooLarge : Type 0
CountedIsTooLarge = (p : ProgramTree) (m : FlatModel) → IsWalkable p → IsFlatOf p m → MOST_COST < over_instances item_cost p →
    is_too_large m ≡ true
