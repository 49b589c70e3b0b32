-- A flat model as definitions see it: places in place of paths, and trees in place of expressions.
use Rattle.std.specs.Prelude.{List, [], ◌∷◌, Option, Some, None, map, reverse}
use Rattle.smv_language.specs.Tree.{Tree}
use Rattle.smv_language.specs.ProgramTree.{Text, Path, declared_tree}
use Rattle.smv_language.specs.Scope.{Place, Role as RoleOf, state, input, frozen_role}
use Rattle.smv_language.specs.Leaves.{tree_map}
use Rattle.smv_language.specs.ExpressionTree.{tree_of}
use Rattle.smv_language.specs.declared.expr.Expr.{Expr}
use Rattle.smv_language.specs.declared.model.Fault.{Fault}
use Rattle.smv_language.specs.declared.model.Flat.{Flat}
use Rattle.smv_language.specs.declared.model.Flat.TheVariants.{Var, Symbol, Definition}
use Rattle.smv_language.specs.declared.model.Role.{Role}
use Rattle.smv_language.specs.declared.model.Role.TheVariants.{State, Input, Frozen}
use Rattle.smv_language.specs.declared.model.Instance.{Instance}
use Rattle.smv_language.specs.declared.model.Variable.{Variable}
use Rattle.smv_language.specs.declared.model.Formula.{Formula}
use Rattle.smv_language.specs.declared.model.FlatModel.{FlatModel}
use Rattle.smv_language.specs.Flat.{FlatLeaf, flat_variable, flat_symbol, flat_definition, FlatInstance, FlatVariable, FlatFormula}
use Rattle.smv_language.specs.Flat.{FlatModel as ModelTree}

-- a name of a flat expression
abbrev pub leaf_of : Flat → FlatLeaf
leaf_of (Var i) = flat_variable i
leaf_of (Symbol i) = flat_symbol i
leaf_of (Definition i) = flat_definition i

-- who chooses a variable's values
abbrev pub role_of : Role → RoleOf
role_of State = state
role_of Input = input
role_of Frozen = frozen_role

-- the tree of a flat expression
abbrev pub flat_tree : Expr Flat → Tree FlatLeaf
flat_tree e = tree_map leaf_of (tree_of e)

-- the place of an instance, which `main` has none of its own for
abbrev pub place_of : Option Path → Place
place_of None = []
place_of (Some path) = reverse path

-- the last part of a name, from the parts in turned order
abbrev pub name_in : List Text → Text
name_in [] = []
name_in (x ∷ at) = x

-- the parts before the last one, from the parts in turned order
abbrev pub place_in : List Text → Place
place_in [] = []
place_in (x ∷ at) = at

-- an instance; the parts of its path are turned, innermost first
abbrev pub instance_tree : Instance → FlatInstance
instance_tree i = record { place = place_of i.path; module_name = i.«module» }

-- a variable, by the last part of its path and the parts before it
abbrev pub variable_tree : Variable → FlatVariable
variable_tree v =
    record {
      place = place_in (reverse v.path);
      name = name_in (reverse v.path);
      role = role_of v.role;
      declared = declared_tree v.declared;
      item = v.item;
      number = v.«instance»;
    }

-- a formula or definition
abbrev pub formula_tree : Formula → FlatFormula
formula_tree f = record { value = flat_tree f.value; item = f.item; number = f.«instance» }

-- a flat model
abbrev pub model_tree : FlatModel → ModelTree
model_tree m =
    record {
      instances = map instance_tree m.instances;
      variables = map variable_tree m.variables;
      definitions = map formula_tree m.definitions;
      symbols = m.symbols;
      at_first = map formula_tree m.init;
      at_each = map formula_tree m.invar;
      at_step = map formula_tree m.trans;
    }

-- a fault's name
abbrev pub name_of_fault : Fault → Path
name_of_fault f = f.name
