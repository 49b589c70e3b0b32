-- What stands where the program ends with a number.
use Rattle.std.specs.Prelude.{◌≡◌, ℕ, pos, List, IfSome}
use Rattle.base_files.specs.Desk.{Rose}
use Rattle.smv_language.specs.ProgramTree.{Text}
use Rattle.verb_command_line.specs.declared.fault.WordFault.{WordFault}
use Rattle.verb_command_line.specs.Meaning.{BreaksFirst}
use Rattle.verb_command_line.specs.CommandView.{rule_of, place_of}
use Rattle.verb_loading.specs.declared.status.Status.{Status}
use Rattle.verb_loading.specs.declared.status.Status.TheVariants as status
use Rattle.verb_loading.specs.Statuses.{number_of}
use Rattle.verb_loading.specs.CaseAnswers.{Told, Said}
use Rattle.verb_run.specs.Requests.{RefusesWords}
use Rattle.verb_run.specs.Runs.{IsAnswer, HasAnswered}

-- a run with these words has ended with this status: the whole of what they and the files come to stands, words are refused as they
-- must be, and the desk's status comes only where its count of faults rose
pub record HasRun (words : List Text) (s : Status) (before after : Told) (said now : Said) (faults counted : ℕ) : Type 0 where
  pub answered : IsAnswer s → IfSome before (λ files. HasAnswered files words s before after said now)
  pub told : (rule place : ℕ) → IsAnswer s → BreaksFirst words rule place →
      (f : WordFault) × (rule_of f ≡ rule) × (place_of f ≡ place) × (s ≡ status.Words f)
  pub meant : (f : WordFault) → s ≡ status.Words f → RefusesWords words f
  pub failed : s ≡ status.Desk → Rose faults counted

-- the number is that of the status of such a run
pub record IsEnded (words : List Text) (number : ℕ) (before after : Told) (said now : Said) (faults counted : ℕ) : Type 0 where
  pub ending : Status
  pub is_number : pos number ≡ number_of ending
  pub has_run : HasRun words ending before after said now faults counted
