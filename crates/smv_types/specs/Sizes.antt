-- What the variables and formulas of a flat model cost, and how many bits its variables have.
use Rattle.std.specs.Prelude.{ℕ, List, sum_by}
use Rattle.smv_language.specs.Language.{Text, declared_tree, tree_of, role_of}
use Rattle.smv_type_laws.specs.Costs.{cost_of, declared_cost, declared_width, role_width}
use Rattle.smv_language.specs.declared.model.Formula.{Formula}
use Rattle.smv_language.specs.declared.model.Variable.{Variable}

-- the cost of a formula of the code
abbrev pub formula_cost : Formula → ℕ
formula_cost f = cost_of (tree_of f.value)

-- the cost of formulas
abbrev pub formulas_cost : List Formula → ℕ
formulas_cost fs = sum_by formula_cost fs

-- the cost of the type of a variable
abbrev pub variable_cost : Variable → ℕ
variable_cost v = declared_cost (declared_tree v.declared)

-- the cost of the types of variables
abbrev pub variables_cost : List Variable → ℕ
variables_cost vs = sum_by variable_cost vs

-- the bits of a variable in a state
abbrev pub variable_bits : List Text → Variable → ℕ
variable_bits symbols v = role_width (role_of v.role) (declared_width symbols (declared_tree v.declared))

-- the bits of variables in a state
abbrev pub variables_bits : List Text → List Variable → ℕ
variables_bits symbols vs = sum_by (variable_bits symbols) vs
