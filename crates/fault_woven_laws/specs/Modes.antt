-- The modes whose history a model is given.
use Rattle.std.specs.Prelude.{◌≡◌, Some, slice_get}
use Rattle.smv_language.specs.Language.{ProgramTree, Place, FlatVariable, FlatModel}
use Rattle.fault_instructions.specs.Instructions.{SliceTree, InstructionTree}
use Rattle.fault_instructions.specs.AddedNames.{mode_variable}
use Rattle.fault_weave.specs.Conservative.{IsSlice}
use Rattle.smv_flat_laws.specs.History.{Mode}
use Rattle.smv_flat_laws.specs.Model.{IsVariableNumber}
use Rattle.smv_type_laws.specs.ExpressionKinds.{symbol_class}
use Rattle.smv_type_laws.specs.DeclaredKinds.{judged_declared}

-- the mode's variable is one of the model's, and its type has symbols
pub record HasSymbols (m : FlatModel) (f : Mode) : Type 0 where
  pub variable : FlatVariable
  pub is_variable : slice_get m.variables f.variable ≡ Some variable
  pub symbols : (judged_declared variable.declared).kind.class ≡ symbol_class

-- the mode's variable is the one that holds the state of a slice at an instance
pub record IsSliceMode (p : ProgramTree) (i : InstructionTree) (w : FlatModel) (f : Mode) : Type 0 where
  pub place : Place
  pub slice : SliceTree
  pub is_slice : IsSlice p i place slice
  pub number : IsVariableNumber w place (mode_variable slice.name) f.variable
