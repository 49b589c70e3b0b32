-- What the walk over the instances finds.
use Rattle.std.specs.Prelude.{◌≡◌, List, map, Some, slice_get}
use Rattle.smv_language.specs.Language.{ProgramTree, FlatInstance, FlatVariable, variable_tree, EachBoth}
use Rattle.smv_flat_laws.specs.Items.{Visit, instances_of, variables_of}
use Rattle.smv_flat_laws.specs.Rules.{IsWalkable}
use Rattle.smv_scope.specs.SceneTree.{IsSpotWalked}
use Rattle.smv_language.specs.declared.model.Variable.{Variable}
use Rattle.smv_scope.specs.declared.walk.Walk.{Walk}

-- a variable as it is declared, with its instance by number
pub record IsDeclaredBy (p : ProgramTree) (v : Visit) (x : FlatVariable) : Type 0 where
  pub place : x.place ≡ v.place
  pub name : x.name ≡ v.decl.name
  pub role : x.role ≡ v.role
  pub declared : x.declared ≡ v.decl.what
  pub item : x.item ≡ v.number
  pub at : FlatInstance
  pub is : slice_get (instances_of p) x.number ≡ Some at
  pub at_place : at.place ≡ v.place

-- the variables of the program, as they are declared
abbrev pub AreDeclared : ProgramTree → List Variable → Type 0
AreDeclared p vs = EachBoth (IsDeclaredBy p) (variables_of p) (map variable_tree vs)

-- all instances and variables of a program that keeps the rules of the walk
pub record IsWhole (p : ProgramTree) (w : Walk) : Type 0 where
  pub walkable : IsWalkable p
  pub spots : EachBoth (IsSpotWalked p) (instances_of p) w.spots.items
  pub variables : AreDeclared p w.variables
