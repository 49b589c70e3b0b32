-- Flat models whose names are their own.
use Rattle.std.specs.Prelude.{◌≡◌, ℕ, suc, ◌≤◌, nat_lt, Bool, true, false, not, ◌&&◌, List, [], ◌∷◌, length}
use Rattle.std.specs.List.{list_all}
use Rattle.base_values.specs.declared.limits.TheConstants.{MOST_VARIABLES}
use Rattle.smv_language.specs.Tree.{Tree, Trees, Branches, truth, number, leaf, not_of, negate, next_of, binary, choice, case_of, set_of}
use Rattle.smv_language.specs.Tree.{span, no_tree, tree_then, no_branch, branch_then}
use Rattle.smv_language.specs.ExpressionTree.{tree_of}
use Rattle.smv_language.specs.declared.expr.Expr.{Expr}
use Rattle.smv_language.specs.declared.program.Declared.{Declared}
use Rattle.smv_language.specs.declared.program.Declared.TheVariants as declared
use Rattle.smv_language.specs.declared.model.Flat.{Flat}
use Rattle.smv_language.specs.declared.model.Flat.TheVariants.{Var, Symbol, Definition}
use Rattle.smv_language.specs.declared.model.Formula.{Formula}
use Rattle.smv_language.specs.declared.model.Variable.{Variable}
use Rattle.smv_language.specs.declared.model.FlatModel.{FlatModel}
use Rattle.smv_scope.specs.declared.bounds.Bounds.{Bounds}

-- the name is one of so many variables, symbols or definitions
abbrev pub is_within : Bounds → Flat → Bool
is_within b (Var i) = nat_lt i b.variables
is_within b (Symbol i) = nat_lt i b.symbols
is_within b (Definition i) = nat_lt i b.definitions

-- each leaf of the tree passes the test
abbrev mutual
  pub tree_all : {L : Type 0} → (L → Bool) → Tree L → Bool
  tree_all test (truth b) = true
  tree_all test (number n) = true
  tree_all test (leaf l) = test l
  tree_all test (not_of a) = tree_all test a
  tree_all test (negate a) = tree_all test a
  tree_all test (next_of a) = tree_all test a
  tree_all test (binary o a b) = tree_all test a && tree_all test b
  tree_all test (choice c a b) = tree_all test c && (tree_all test a && tree_all test b)
  tree_all test (case_of bs) = branches_all test bs
  tree_all test (set_of ts) = trees_all test ts
  tree_all test (span lo hi) = true

  pub trees_all : {L : Type 0} → (L → Bool) → Trees L → Bool
  trees_all test no_tree = true
  trees_all test (tree_then t ts) = tree_all test t && trees_all test ts

  pub branches_all : {L : Type 0} → (L → Bool) → Branches L → Bool
  branches_all test no_branch = true
  branches_all test (branch_then c a bs) = tree_all test c && (tree_all test a && branches_all test bs)

-- each name of the expression is one of so many
abbrev pub is_closed : Bounds → Expr Flat → Bool
is_closed b e = tree_all (is_within b) (tree_of e)

-- so of the condition and the value of a branch
abbrev pub is_branch_closed : Bounds → Expr Flat × Expr Flat → Bool
is_branch_closed b branch = is_closed b branch.0 && is_closed b branch.1

-- each name of the formulas is one of so many
abbrev pub are_closed : Bounds → List Formula → Bool
are_closed b fs = list_all (λ f. is_closed b f.value) fs

-- a definition of this place uses those before it alone, and so on for those after it
abbrev pub are_earlier : ℕ → ℕ → ℕ → List Formula → Bool
are_earlier variables symbols k [] = true
are_earlier variables symbols k (d ∷ ds) =
    is_closed (record { variables = variables; symbols = symbols; definitions = k }) d.value && are_earlier variables symbols (suc k) ds

-- declared as an instance
abbrev pub is_instance : Declared → Bool
is_instance declared.Boolean = false
is_instance (declared.Range lo hi) = false
is_instance (declared.Members ms) = false
is_instance (declared.Instance m actuals) = true

-- its type is not that of an instance, so it has values
abbrev pub is_variable : Variable → Bool
is_variable v = not (is_instance v.declared)

-- variables of a model: no more than the limit, and none of the type of an instance
pub record AreVariables (vs : List Variable) : Type 0 where
  pub few : length vs ≤ MOST_VARIABLES
  pub each : list_all is_variable vs ≡ true

-- how many variables, symbols and definitions a model has
abbrev pub bounds_of : FlatModel → Bounds
bounds_of m = record { variables = length m.variables; symbols = length m.symbols; definitions = length m.definitions }

-- each formula names the model's own variables, symbols and definitions, and each definition earlier ones alone
pub record IsClosedModel (m : FlatModel) : Type 0 where
  pub variables : AreVariables m.variables
  pub definitions : are_earlier (length m.variables) (length m.symbols) 0 m.definitions ≡ true
  pub init : are_closed (bounds_of m) m.init ≡ true
  pub invar : are_closed (bounds_of m) m.invar ≡ true
  pub trans : are_closed (bounds_of m) m.trans ≡ true
