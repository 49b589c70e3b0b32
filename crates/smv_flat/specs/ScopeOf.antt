-- What a scope has of a program.
use Rattle.std.specs.Prelude.{◌≡◌, List}
use Rattle.smv_language.specs.ProgramTree.{ProgramTree}
use Rattle.smv_language.specs.declared.model.Variable.{Variable}
use Rattle.smv_flat.specs.declared.flattening.Scope.{Scope}
use Rattle.smv_scope.specs.ClosedModels.{AreVariables}
use Rattle.smv_scope.specs.SceneTree.{program_of, IsScene}
use Rattle.smv_scope.specs.NeedsTree.{AreNeeds}
use Rattle.smv_scope.specs.WalkFindings.{AreDeclared}

-- the tables of the program, and the needs of its definitions
pub record IsScopeOf (p : ProgramTree) (s : Scope) : Type 0 where
  pub scene : IsScene s.scene
  pub needs : AreNeeds (program_of s.scene) s.needs
  pub program : program_of s.scene ≡ p

-- the scope of some program
abbrev pub IsAnyScope : Scope → Type 0
IsAnyScope s = (p : ProgramTree) × IsScopeOf p s

-- the variables that a program declares, in a list of a flat model
pub record AreVariablesOf (p : ProgramTree) (variables : List Variable) : Type 0 where
  pub numbered : AreVariables variables
  pub declared : AreDeclared p variables
