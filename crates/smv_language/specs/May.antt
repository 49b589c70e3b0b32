-- The values that a written expression may have at an instance.
use Rattle.std.specs.Prelude.{◌≡◌, ℕ, zero, suc, IsTrue, Option, Some, None}
use Rattle.smv_language.specs.ProgramTree.{Text, Path, Formula, ProgramTree}
use Rattle.smv_language.specs.Values.{Value, symbol, Values, one, has}
use Rattle.smv_language.specs.Evaluate.{Leaves, evaluate}
use Rattle.smv_language.specs.Scope.{Place, Meaning, a_variable_at, an_expression_at, a_symbol, means_in}

-- a value for each variable of each instance
abbrev pub Valuation : Type 0
Valuation = Place → Text → Value

-- what a meaning gives, where `give` tells what an expression at an instance does
abbrev pub values_of_meaning : (Place → Formula → Option Values) → Valuation → Option Meaning → Option Values
values_of_meaning give now (Some (a_variable_at at x)) = Some (one (now at x))
values_of_meaning give now (Some (an_expression_at key at e)) = give at e
values_of_meaning give now (Some (a_symbol x)) = Some (one (symbol x))
values_of_meaning give now _ = None

-- the values of a name at an instance, where defines and actuals are gone through at most n deep
abbrev pub name_values : ℕ → ProgramTree → Place → Valuation → Valuation → Leaves Path
name_values zero p at now next name = None
name_values (suc n) p at now next name =
    values_of_meaning (λ at' e. evaluate (name_values n p at' now next) (name_values n p at' next next) e) now (means_in (suc n) p at name)

-- what the names of a section give, at each depth
abbrev pub Reading : Type 0
Reading = ℕ → Leaves Path

-- what names give at an instance
abbrev pub reading : ProgramTree → Place → Valuation → Valuation → Reading
reading p at now next n = name_values n p at now next

-- under these readings of the names now and next the expression may have the value
abbrev pub MayRead : Reading → Reading → Formula → Value → Type 0
MayRead now next e v = (n : ℕ) × (vs : Values) × (evaluate (now n) (next n) e ≡ Some vs) × IsTrue (has vs v)

-- at an instance, with a valuation now and one at the next moment, the expression may have the value
abbrev pub May : ProgramTree → Place → Valuation → Valuation → Formula → Value → Type 0
May p at now next e v = MayRead (reading p at now next) (reading p at next next) e v
