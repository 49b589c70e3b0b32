-- What stands where the program ends with a number.
use Rattle.std.specs.Prelude.{◌≡◌, ℕ, pos, List, IfSome}
use Rattle.base_files.specs.Desk.{Rose}
use Rattle.smv_language.specs.ProgramTree.{Text}
use Rattle.verb_loading.specs.declared.status.Status.{Status}
use Rattle.verb_loading.specs.declared.status.Status.TheVariants as status
use Rattle.verb_loading.specs.Statuses.{IsAnswer, number_of}
use Rattle.verb_loading.specs.CaseAnswers.{Told, Said}
use Rattle.verb_tops.specs.Each.{HasAnsweredEach}

-- a run with these words has ended with this status: the whole of what they and the files come to stands, and the desk's status comes
-- only where its count of faults rose
pub record HasRun (words : List Text) (s : Status) (before after : Told) (said now : Said) (faults counted : ℕ) : Type 0 where
  pub answered : IsAnswer s → IfSome before (λ files. HasAnsweredEach files words s before after said now)
  pub failed : s ≡ status.Desk → Rose faults counted

-- the number is that of the status of such a run
pub record IsEnded (words : List Text) (number : ℕ) (before after : Told) (said now : Said) (faults counted : ℕ) : Type 0 where
  pub ending : Status
  pub is_number : pos number ≡ number_of ending
  pub has_run : HasRun words ending before after said now faults counted
