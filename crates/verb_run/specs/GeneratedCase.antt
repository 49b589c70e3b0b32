-- A generated case: what it is, the files and the summary that it leaves.
use Rattle.std.specs.Prelude.{◌≡◌, ℕ, ◌≤◌, List, Some, ◌++◌, codes, length}
use Rattle.std.specs.Fmt.{decimal}
use Rattle.base_values.specs.declared.limits.TheConstants.{MOST_STAGES}
use Rattle.base_files.specs.declared.files.NamedFile.{NamedFile}
use Rattle.base_files.specs.Files.{file_of}
use Rattle.base_files.specs.Desk.{told_with, said_more, SaysPrefix, WritesPrefix}
use Rattle.smv_language.specs.Language.{Text, Formula, ProgramTree, program_text}
use Rattle.fault_instructions.specs.InstructionText.{instructions_text}
use Rattle.fault_generator.specs.Generator.{generated_model, generated_instructions}
use Rattle.cut_text_laws.specs.Analysis.{told_ending}
use Rattle.cut_report_laws.specs.ExtendedTraces.{Ending, Analysis}
use Rattle.verb_loading.specs.declared.status.Status.{Status}
use Rattle.verb_run.specs.declared.make.Making.{Making}
use Rattle.verb_run.specs.declared.make.Summary.{Summary}
use Rattle.verb_loading.specs.Cases.{Case, IsCase, IsTopWord}
use Rattle.verb_loading.specs.LoadedEvents.{case_in, IsEvent}
use Rattle.verb_loading.specs.CaseAnswers.{Told, Said}
use Rattle.verb_run.specs.AnswerTexts.{summary_ending, summary_text}
use Rattle.cut_model_search.specs.CaseAnalysis.{IsFound}
use Rattle.verb_run.specs.Analyses.{ended_with}

-- the case of the generator's model of a number and so many stages, with the generator's instructions
pub record IsGenerated (number stages : ℕ) (c : Case) : Type 0 where
  pub is_case : IsCase c
  pub program : c.program ≡ generated_model number stages
  pub instructions : c.instructions ≡ generated_instructions

-- a program of the generator, of at most `MOST_STAGES`
pub record IsOfGenerator (p : ProgramTree) : Type 0 where
  pub number : ℕ
  pub stages : ℕ
  pub few : stages ≤ MOST_STAGES
  pub is : p ≡ generated_model number stages

-- the bytes are the text of one
pub record IsGeneratedText (bytes : Text) : Type 0 where
  pub program : ProgramTree
  pub of : IsOfGenerator program
  pub is : bytes ≡ program_text program

-- the word of the generator's top event
abbrev pub dead_word : Text
dead_word = codes "dead"

-- the files once model and instructions were written
abbrev pub both_written : Case → Text → Text → Told → Told
both_written c model faults before = told_with (told_with before model (program_text c.program)) faults (instructions_text c.instructions)

-- the model and its instructions were written, and the summary of an analysis with the size of all faults said
pub record HasMade (c : Case) (stages depth : ℕ) (model faults : Text) (s : Status) (before after : Told) (said now : Said) : Type 0 where
  pub event : Formula
  pub is_event : IsTopWord c.program dead_word event
  pub analysis : Analysis
  pub found : IsFound c event (length c.faults) depth analysis
  pub ends : s ≡ ended_with analysis.ending
  pub written : after ≡ both_written c model faults before
  pub reported : now ≡ said_more said (summary_text c stages analysis)

-- What a generated case has done that was said: both files hold the generator's texts, which spell its model and its instructions,
-- and the summary tells the numbers of the woven model and of an analysis that is right for its class.
pub record IsMade (after : List NamedFile) (said now : Said) (number stages depth : ℕ) (model faults : Text) (s : Status) : Type 0 where
  pub c : Case
  pub generated : IsGenerated number stages c
  pub has_model : file_of after model ≡ Some (program_text (generated_model number stages))
  pub has_faults : file_of after faults ≡ Some (instructions_text generated_instructions)
  pub event : Formula
  pub is_event : IsTopWord c.program dead_word event
  pub analysis : Analysis
  pub found : IsFound c event (length c.faults) depth analysis
  pub ends : s ≡ ended_with analysis.ending
  pub reported : now ≡ said_more said (summary_text c stages analysis)

-- A part of it, in the order of the work: of the model; of the instructions, where the model is written; of the summary, where
-- both are.
pub data MakesInPart (c : Case) (stages depth : ℕ) (model faults : Text) (before after : Told) (said now : Said) : Type 0 where
  part_of_model : WritesPrefix before after model (program_text c.program) → now ≡ said →
      MakesInPart c stages depth model faults before after said now
  part_of_faults : WritesPrefix (told_with before model (program_text c.program)) after faults (instructions_text c.instructions) →
      now ≡ said → MakesInPart c stages depth model faults before after said now
  part_of_summary : (e : Formula) (a : Analysis) → IsTopWord c.program dead_word e → IsFound c e (length c.faults) depth a →
      after ≡ both_written c model faults before →
      SaysPrefix said now (summary_text c stages a) → MakesInPart c stages depth model faults before after said now

-- In memory.
-- the one line of a summary, of these numbers
abbrev pub summary_line : (stages variables faults bits sets : ℕ) → Ending → Text
summary_line stages variables faults bits sets ending =
    codes "stages " ++ (decimal stages
    ++ (codes " variables " ++ (decimal variables
    ++ (codes " faults " ++ (decimal faults
    ++ (codes " bits " ++ (decimal bits
    ++ (codes " sets " ++ (decimal sets
    ++ (codes " " ++ summary_ending ending))))))))))

-- the case of a generated model
abbrev pub made_case : Making → Case
made_case m = case_in m.made.loaded

-- the texts of a generated case, with the case
pub record IsMaking (m : Making) : Type 0 where
  pub event : IsEvent dead_word m.made.loaded
  pub model_text : m.made.program.items ≡ program_text (made_case m).program
  pub faults_text : m.made.instructions.items ≡ instructions_text (made_case m).instructions

-- what a search found of a generated case, as its summary tells it
pub record IsSummary (c : Case) (stages depth : ℕ) (s : Summary) : Type 0 where
  pub event : Formula
  pub is_event : IsTopWord c.program dead_word event
  pub analysis : Analysis
  pub found : IsFound c event (length c.faults) depth analysis
  pub ends : told_ending s.ending ≡ analysis.ending
  pub line : s.line ≡ summary_text c stages analysis
