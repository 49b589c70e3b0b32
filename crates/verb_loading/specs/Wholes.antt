-- An extension as a whole: it is flattened and typed with a bit for each fault, and may pass a limit.
use Rattle.std.specs.Prelude.{ℕ, ◌≡◌, List}
use Rattle.smv_language.specs.Language.{ProgramTree, Each, EachBoth, FlatModel}
use Rattle.smv_flat_laws.specs.History.{Mode, with_history}
use Rattle.smv_flat_laws.specs.Rules.{Rule, too_many, IsFirstBroken, IsAccepted}
use Rattle.smv_flat_laws.specs.Model.{IsFlatOf}
use Rattle.smv_type_laws.specs.ExpressionKinds.{KindRule, too_large}
use Rattle.smv_type_laws.specs.Models.{IsTyped, IsFault}
use Rattle.fault_weave.specs.Faults.{Fault}
use Rattle.verb_loading.specs.declared.status.InputFault.{InputFault}
use Rattle.verb_loading.specs.Wrongs.{names_fault, kinds_fault}
use Rattle.verb_loading.specs.Models.{IsModelOf}
use Rattle.cert_laws.specs.ExtendedTraces.{IsModeOfFault}

-- the model has the fault's mode
abbrev pub HasModeOf : FlatModel → Fault → Type 0
HasModeOf m fault = (mode : Mode) × IsModeOfFault m fault mode

-- where the extension breaks no rule of names, its flat model has the mode of each of these faults
abbrev pub HasItsModes : ProgramTree → List Fault → Type 0
HasItsModes extension faults = (m : FlatModel) → IsAccepted extension → IsFlatOf extension m → Each (HasModeOf m) faults

-- the flat model of an extension with a bit for each of its faults
pub record IsWhole (extension : ProgramTree) (faults : List Fault) (whole : FlatModel) : Type 0 where
  pub flat : FlatModel
  pub modes : List Mode
  pub model : IsModelOf extension flat
  pub are_modes : EachBoth (IsModeOfFault flat) faults modes
  pub is : whole ≡ with_history flat modes

-- the first rule of names that an extension breaks, told at no item of either file
pub record BreaksNames (extension : ProgramTree) (told : InputFault) : Type 0 where
  pub rule : Rule
  pub item : ℕ
  pub broken : IsFirstBroken extension rule item
  pub is : told ≡ names_fault rule 0

-- the first rule of kinds that its flat model with all bits breaks, or its limit of size
pub record BreaksKinds (whole : FlatModel) (told : InputFault) : Type 0 where
  pub rule : KindRule
  pub item : ℕ
  pub broken : IsFault whole rule item
  pub is : told ≡ kinds_fault rule 0

-- what is wrong with an extension: it breaks a rule of names, or else its flat model with all bits breaks one of kinds
pub data IsWrongWhole (extension : ProgramTree) (faults : List Fault) (told : InputFault) : Type 0 where
  by_names : BreaksNames extension told → IsWrongWhole extension faults told
  by_kinds : (whole : FlatModel) → IsAccepted extension → IsWhole extension faults whole → BreaksKinds whole told →
      IsWrongWhole extension faults told

-- The extension passes a limit: it has too many instances or variables, or else its flat model with all bits is too large. No
-- other rule can be broken where the program and the instructions break none.
pub data PassesLimit (extension : ProgramTree) (faults : List Fault) (told : InputFault) : Type 0 where
  by_number : (item : ℕ) → IsFirstBroken extension too_many item → told ≡ names_fault too_many 0 → PassesLimit extension faults told
  by_size : (whole : FlatModel) → IsAccepted extension → IsWhole extension faults whole → IsFault whole too_large 0 →
      told ≡ kinds_fault too_large 0 → PassesLimit extension faults told

-- the extension breaks no rule, and no limit of size
pub record IsWithinLimits (extension : ProgramTree) (faults : List Fault) : Type 0 where
  pub accepted : IsAccepted extension
  pub whole : FlatModel
  pub is_whole : IsWhole extension faults whole
  pub typed : IsTyped whole
