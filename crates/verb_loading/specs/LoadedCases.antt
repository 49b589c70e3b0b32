-- What the work of a command has in memory: the extension with its flat model, a top event, and a trace.
use Rattle.std.specs.Prelude.{◌≡◌, ℕ, ◌≤◌, ◌<◌, false, List, [], map, length}
use Rattle.base_values.specs.declared.limits.TheConstants.{MOST_TOP_BYTES}
use Rattle.base_files.specs.declared.files.NamedFile.{NamedFile}
use Rattle.smv_language.specs.Language.{Tree, Text, Formula, ProgramTree, program_tree, model_tree, FlatLeaf, FlatModel, IsWritableProgram}
use Rattle.smv_language.specs.Language.{BytesSpellExpr, HasDepths}
use Rattle.smv_flat_laws.specs.FaultModes.{mode_of}
use Rattle.smv_flat_laws.specs.History.{with_history}
use Rattle.fault_instructions.specs.Instructions.{instruction_tree}
use Rattle.smv_type_laws.specs.Laws.{ReadsOwn}
use Rattle.smv_type_laws.specs.Models.{judged_in, broken_condition}
use Rattle.fault_weave.specs.Faults.{Fault}
use Rattle.fault_weave.specs.WovenProgram.{woven}
use Rattle.fault_extend.specs.WovenFaults.{fault_tree}
use Rattle.fault_extend.specs.NumberedFaults.{AreNumbered}
use Rattle.fault_extend.specs.declared.faults.Woven.{Woven}
use Rattle.smv_expression_reader.specs.declared.fault.ParseFault.{ParseFault}
use Rattle.smv_expression_reader.specs.Stops.{IsExpression, IsTooDeep, FaultMeans}
use Rattle.verb_loading.specs.declared.status.InputFault.{InputFault}
use Rattle.verb_loading.specs.declared.wrong.Wrong.TheVariants as wrong
use Rattle.verb_loading.specs.Statuses.{top_too_long}
use Rattle.verb_loading.specs.Wrongs.{parse_wrong}
use Rattle.verb_loading.specs.declared.loaded.LoadedCase.{LoadedCase}
use Rattle.verb_loading.specs.declared.loaded.Limited.{Limited}
use Rattle.verb_loading.specs.Models.{IsModelOf}
use Rattle.verb_loading.specs.Wholes.{BreaksKinds, IsWrongWhole, IsWithinLimits}
use Rattle.verb_loading.specs.Inputs.{HasBytes, IsInstructionText}
use Rattle.verb_loading.specs.Cases.{Case, whole_of, IsCase, IsTopWord}
use Rattle.verb_loading.specs.Tasks.{IsTopTree}

-- the extension of a program, as a case
abbrev pub case_of : ProgramTree → LoadedCase → Case
case_of p l =
    record {
      program = p;
      instructions = instruction_tree l.instructions;
      faults = map fault_tree l.limited.woven.faults;
      flat = model_tree l.limited.typed.model;
      modes = map mode_of l.limited.faults;
    }

-- it is one, the program in memory is the woven one, its faults have their numbers in the flat model, and the one with history is
-- in memory too
pub record IsLoaded (p : ProgramTree) (l : LoadedCase) : Type 0 where
  pub is_case : IsCase (case_of p l)
  pub program : program_tree l.limited.woven.program ≡ woven p (instruction_tree l.instructions)
  pub numbered : AreNumbered l.limited.typed.model l.limited.woven.faults l.limited.faults
  pub writable : IsWritableProgram (woven p (instruction_tree l.instructions))
  pub full : model_tree l.limited.full.model ≡ whole_of (case_of p l)

-- the bytes spell its instructions
abbrev pub IsLoadedFrom : List ℕ → LoadedCase → Type 0
IsLoadedFrom bytes l = IsInstructionText bytes (instruction_tree l.instructions)

-- the file holds instructions that are taken, and this is the extension by them
pub record HoldsLoaded (files : List NamedFile) (name : Text) (p : ProgramTree) (l : LoadedCase) : Type 0 where
  pub bytes : List ℕ
  pub has : HasBytes files name bytes
  pub is_text : IsLoadedFrom bytes l
  pub is_case : IsCase (case_of p l)

-- a woven program that passes no limit, with its flat model and the numbers of its faults
pub record IsLimited (w : Woven) (l : Limited) : Type 0 where
  pub kept : l.woven ≡ w
  pub within : IsWithinLimits (program_tree w.program) (map fault_tree w.faults)
  pub is_flat : IsModelOf (program_tree w.program) (model_tree l.typed.model)
  pub numbered : AreNumbered l.typed.model w.faults l.faults
  pub full : model_tree l.full.model ≡ with_history (model_tree l.typed.model) (map mode_of l.faults)

-- It passes a limit; or it passes none with all bits, and its flat model without them breaks a rule of kinds, as none of a
-- lawful program does.
pub data IsWrongLimited (extension : ProgramTree) (faults : List Fault) (told : InputFault) : Type 0 where
  whole_is_wrong : IsWrongWhole extension faults told → IsWrongLimited extension faults told
  flat_is_wrong : (flat : FlatModel) → IsModelOf extension flat → IsWithinLimits extension faults → BreaksKinds flat told →
      IsWrongLimited extension faults told

-- a top event of a case that the word spells, as an expression over the flat model of the extension that breaks no rule there
pub record IsTopIn (c : Case) (word : Text) (tree : Tree FlatLeaf) : Type 0 where
  pub top : Formula
  pub is_word : IsTopWord c.program word top
  pub is_tree : IsTopTree c top tree
  pub own : ReadsOwn c.flat tree
  pub kept : broken_condition (judged_in c.flat false tree) ≡ []

-- the bytes spell this expression and no other, within the depths, and are not too many
pub record IsTopText (bytes : Text) (e : Formula) : Type 0 where
  pub short : length bytes ≤ MOST_TOP_BYTES
  pub spelled : BytesSpellExpr bytes e
  pub only : (f : Formula) → BytesSpellExpr bytes f → e ≡ f
  pub depths : HasDepths bytes e

-- the bytes are too many, or spell no expression within the depths
pub data IsWrongTopText (bytes : Text) (fault : InputFault) : Type 0 where
  too_long_top : MOST_TOP_BYTES < length bytes → fault ≡ top_too_long → IsWrongTopText bytes fault
  not_a_top : (f : ParseFault) → length bytes ≤ MOST_TOP_BYTES → FaultMeans IsExpression (IsTooDeep bytes) bytes f →
      wrong.Refused fault ≡ parse_wrong f → IsWrongTopText bytes fault
