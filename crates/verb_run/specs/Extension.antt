-- What `extend` does to the files and says: the conservativity of the written extension, and its faults.
use Rattle.std.specs.Prelude.{◌≡◌, ℕ, List, Option, Some}
use Rattle.base_files.specs.declared.files.NamedFile.{NamedFile}
use Rattle.base_files.specs.Files.{file_of}
use Rattle.base_files.specs.Desk.{said_more}
use Rattle.smv_language.specs.Language.{Text, ProgramTree, BytesSpellProgram}
use Rattle.fault_instructions.specs.Instructions.{InstructionTree}
use Rattle.fault_instructions.specs.SpellsInstructions.{BytesSpellInstructions}
use Rattle.fault_weave.specs.Conservative.{IsExtensionOf}
use Rattle.fault_weave.specs.Faults.{Fault, HasFaults}
use Rattle.fault_instructions.specs.Weavable.{IsWeavable}
use Rattle.fault_weave.specs.WovenProgram.{woven}
use Rattle.verb_loading.specs.Reports.{report_text}

-- The file that is written spells the program, and no other, that the weave makes of the program that the model's bytes at
-- entry spell and of the instructions that the other file's bytes at entry spell. The program and the
-- instructions are such as a weave takes, and what is written is their extension: its traces, cut, are exactly
-- the extended traces, and the faultless ones, hidden, are exactly the traces of the program. What is said is the
-- list of the faults of the program under the instructions.
pub record IsExtended (before after : List NamedFile) (said now : Option (List ℕ)) (model faults extended : Text) : Type 0 where
  pub model_bytes : List ℕ
  pub fault_bytes : List ℕ
  pub written_bytes : List ℕ
  pub program : ProgramTree
  pub instructions : InstructionTree
  pub listed : List Fault
  pub had_model : file_of before model ≡ Some model_bytes
  pub had_faults : file_of before faults ≡ Some fault_bytes
  pub has_written : file_of after extended ≡ Some written_bytes
  pub has_said : now ≡ said_more said (report_text listed)
  pub spells_program : BytesSpellProgram model_bytes program
  pub only_program : (q : ProgramTree) → BytesSpellProgram model_bytes q → program ≡ q
  pub spells_instructions : BytesSpellInstructions fault_bytes instructions
  pub only_instructions : (j : InstructionTree) → BytesSpellInstructions fault_bytes j → instructions ≡ j
  pub spells_written : BytesSpellProgram written_bytes (woven program instructions)
  pub only_written : (q : ProgramTree) → BytesSpellProgram written_bytes q → woven program instructions ≡ q
  pub weavable : IsWeavable program instructions
  pub extension : IsExtensionOf program instructions (woven program instructions)
  pub are_faults : HasFaults program instructions listed
