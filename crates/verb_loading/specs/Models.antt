-- What the bytes of a model come to: the program that they spell with its flat model, or what is wrong with them.
use Rattle.std.specs.Prelude.{ℕ, ◌≡◌, List}
use Rattle.smv_language.specs.Language.{ProgramTree, BytesSpellProgram, FlatModel}
use Rattle.smv_expression_reader.specs.declared.fault.ParseFault.{ParseFault}
use Rattle.smv_expression_reader.specs.Stops.{FaultMeans}
use Rattle.smv_model_reader.specs.Symbols.{IsProgram}
use Rattle.smv_model_reader.specs.ProgramDepths.{HasProgramDepths, IsProgramTooDeep}
use Rattle.smv_flat_laws.specs.Looks.{ActualsMean}
use Rattle.smv_flat_laws.specs.Rules.{Rule, IsFirstBroken, IsAccepted}
use Rattle.smv_flat_laws.specs.Model.{IsFlatOf}
use Rattle.smv_type_laws.specs.ExpressionKinds.{KindRule}
use Rattle.smv_type_laws.specs.Models.{IsTyped, IsFault}
use Rattle.verb_loading.specs.declared.status.InputFault.{InputFault}
use Rattle.verb_loading.specs.declared.wrong.Wrong.TheVariants as wrong
use Rattle.verb_loading.specs.Wrongs.{parse_wrong, names_fault, kinds_fault}

-- the bytes spell this program and no other, within the depths
pub record IsModelText (bytes : List ℕ) (p : ProgramTree) : Type 0 where
  pub spelled : BytesSpellProgram bytes p
  pub only : (q : ProgramTree) → BytesSpellProgram bytes q → p ≡ q
  pub depths : HasProgramDepths bytes p

-- what a fault of reading says of the bytes of a model
abbrev pub IsModelFault : List ℕ → ParseFault → Type 0
IsModelFault bytes f = FaultMeans IsProgram (IsProgramTooDeep bytes) bytes f

-- the flat model of a program, which has no other
pub record IsModelOf (p : ProgramTree) (m : FlatModel) : Type 0 where
  pub is : IsFlatOf p m
  pub only : (n : FlatModel) → IsFlatOf p n → n ≡ m

-- a program that keeps every rule of names and of kinds, with its flat model
pub record IsLawful (p : ProgramTree) (m : FlatModel) : Type 0 where
  pub accepted : IsAccepted p
  pub meant : ActualsMean p
  pub model : IsModelOf p m
  pub typed : IsTyped m

-- what is wrong with the bytes of a model: they spell no program within the depths, or the first rule of names that it breaks,
-- or the first of kinds that its flat model breaks
pub data IsWrongModel (bytes : List ℕ) (fault : InputFault) : Type 0 where
  not_read : (f : ParseFault) → IsModelFault bytes f → wrong.Refused fault ≡ parse_wrong f → IsWrongModel bytes fault
  not_flat : (p : ProgramTree) (r : Rule) (item : ℕ) → IsModelText bytes p → IsFirstBroken p r item → fault ≡ names_fault r item →
      IsWrongModel bytes fault
  not_typed : (p : ProgramTree) (m : FlatModel) (r : KindRule) (item : ℕ) → IsModelText bytes p → IsAccepted p → IsModelOf p m →
      IsFault m r item → fault ≡ kinds_fault r item →
      IsWrongModel bytes fault

-- some bytes spell the program
pub record IsSpelled (p : ProgramTree) : Type 0 where
  pub bytes : List ℕ
  pub spelled : BytesSpellProgram bytes p
