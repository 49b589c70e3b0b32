-- How a command that was carried out may end, whatever the files hold.
use Rattle.std.proofs.Common.{◌≡◌, ◌⊎◌, inl, inr, ℕ, List, [], ◌∷◌, length, map, Option, Some, None, Result, Ok, Err, IfOk, refl, sym, ap, subst, ◌∙◌}
use Rattle.base_files.specs.declared.desk.WriteStop.{WriteStop}
use Rattle.base_files.specs.declared.desk.WriteStop.TheVariants as write_stop
use Rattle.smv_language.specs.ProgramTree.{Text, Formula}
use Rattle.cut_text_laws.specs.Analysis.{Ending, complete, bounded}
use Rattle.cut_report_laws.specs.ExtendedTraces.{Analysis}
use Rattle.verb_command_line.specs.declared.fault.WordFault.{WordFault}
use Rattle.verb_command_line.specs.Commands.{Command}
use Rattle.verb_command_line.specs.Meaning.{Means as WordsMean, BreaksFirst}
use Rattle.verb_command_line.specs.CommandView.{rule_of, place_of}
use Rattle.verb_command_line.proofs.ReadingLaws.{one_command, one_fault}
use Rattle.verb_loading.specs.declared.status.Refusal.{Refusal}
use Rattle.verb_loading.specs.declared.status.Refusal.TheVariants as refusal
use Rattle.verb_loading.specs.declared.status.Status.{Status}
use Rattle.verb_loading.specs.declared.status.Status.TheVariants as status
use Rattle.verb_loading.specs.declared.input.Stop.{Stop}
use Rattle.verb_loading.specs.declared.input.Stop.TheVariants as stopped
use Rattle.verb_loading.specs.Statuses.{status_of, ended_with, IsFinished, IsBoundedAt, IsAnswer}
use Rattle.verb_loading.specs.CaseAnswers.{Told, Said}
use Rattle.verb_loading.specs.Cases.{Case}
use Rattle.cut_model_search.specs.CaseAnalysis.{EndsBy}
use Rattle.verb_run.specs.Requests.{depth_of, RefusesWords}
use Rattle.verb_run.specs.RunEndings.{Stopped, Concluded}
use Rattle.verb_run.specs.Findings.{finished_as}
use Rattle.verb_run.specs.Tables.{ended_with_all, AreFound}
use Rattle.verb_run.specs.BoundedAnswers.{IsOfCommand}
use Rattle.verb_run.proofs.OutcomeLemmas.{no_answer}

module _ (c : Command) where
  -- a refusal of what words name
  of_refusal : (r : Refusal) → IsOfCommand c (status_of r)
  of_refusal (refusal.Model fault) = tt
  of_refusal (refusal.Faults fault) = tt
  of_refusal (refusal.Top fault) = tt
  of_refusal (refusal.NotAccepted o) = tt
  of_refusal (refusal.Causes fault) = tt
  of_refusal (refusal.Set fault) = tt

  module _ (s : Status) where
    either_of : (r : Refusal) → (s ≡ status_of r) ⊎ ((s ≡ status.Desk) ⊎ (s ≡ status.Memory)) → IsOfCommand c s
    either_of r (inl is) = subst (IsOfCommand c) (sym is) (of_refusal r)
    either_of r (inr (inl is)) = subst (IsOfCommand c) (sym is) tt
    either_of r (inr (inr is)) = subst (IsOfCommand c) (sym is) tt

    pub stopped_of : (stop : Stop) (before after : Told) (said now : Said) → Stopped stop s before after said now → IsOfCommand c s
    stopped_of (stopped.Refused r) before after said now e = either_of r e.ends
    stopped_of stopped.Desk before after said now e = subst (IsOfCommand c) (sym e.ends) tt
    stopped_of stopped.Memory before after said now e = subst (IsOfCommand c) (sym e.ends) tt

    -- work that another crate has done
    pub concluded_of : (done : Result Status Stop) (before after : Told) (said now : Said) → IfOk done (IsOfCommand c) → Concluded done s before after said now → IsOfCommand c s
    concluded_of (Ok t) before after said now of e = subst (IsOfCommand c) (sym e.ends) of
    concluded_of (Err stop) before after said now of e = stopped_of stop before after said now e

    -- work that ends with its own status
    pub finished_of : (done : Result Status WriteStop) → s ≡ finished_as done → IfOk done (IsOfCommand c) → IsOfCommand c s
    finished_of (Ok t) is of = subst (IsOfCommand c) (sym is) of
    finished_of (Err write_stop.Failed) is of = subst (IsOfCommand c) (sym is) tt
    finished_of (Err write_stop.OutOfMemory) is of = subst (IsOfCommand c) (sym is) tt

  -- work that is done where there is an answer
  pub answered_of : (s : Status) → (IsAnswer s → s ≡ status.Done) → IsOfCommand c s
  answered_of status.Done so = tt
  answered_of (status.Bounded k) so = let bad : status.Bounded k ≡ status.Done = so tt in cc
  answered_of (status.Words f) so = let bad : status.Words f ≡ status.Done = so tt in cc
  answered_of (status.Model f) so = tt
  answered_of (status.Faults f) so = tt
  answered_of (status.Top f) so = tt
  answered_of (status.NotAccepted o) so = tt
  answered_of status.Desk so = tt
  answered_of status.Memory so = tt
  answered_of (status.Causes f) so = tt
  answered_of (status.Set f) so = tt

  pub done_of : (done : Result Status Stop) → IfOk done (λ s. s ≡ status.Done) → IfOk done (IsOfCommand c)
  done_of (Ok s) is = subst (IsOfCommand c) (sym is) tt
  done_of (Err stop) is = tt

  module _ (depth : ℕ) (known : depth_of c ≡ Some depth) where
    bounded_of : (s : Status) → IsFinished s → IsBoundedAt depth s → IsOfCommand c s
    bounded_of status.Done finished at = tt
    bounded_of (status.Bounded k) finished at = known ∙ ap (λ n. Some n) (sym (at k refl))
    bounded_of (status.Words f) finished at = finished
    bounded_of (status.Model f) finished at = tt
    bounded_of (status.Faults f) finished at = tt
    bounded_of (status.Top f) finished at = tt
    bounded_of (status.NotAccepted o) finished at = tt
    bounded_of status.Desk finished at = tt
    bounded_of status.Memory finished at = tt
    bounded_of (status.Causes f) finished at = tt
    bounded_of (status.Set f) finished at = tt

    pub work_of : (done : Result Status Stop) → IfOk done IsFinished → IfOk done (IsBoundedAt depth) → IfOk done (IsOfCommand c)
    work_of (Ok s) finished at = bounded_of s finished at
    work_of (Err stop) finished at = tt

    -- an analysis, and the columns of a table
    pub analysed_of : (case : Case) (event : Formula) (size : ℕ) (sets : List (List ℕ)) (ending : Ending) (s : Status) → s ≡ ended_with ending → EndsBy case event size depth sets ending → IsOfCommand c s
    analysed_of case event size sets complete s is ends = subst (IsOfCommand c) (sym is) tt
    analysed_of case event size sets (bounded k) s is ends = subst (IsOfCommand c) (sym is) (known ∙ ap (λ n. Some n) (sym ends.0))

    pub columns_of : (case : Case) (events : List Formula) (columns : List Analysis) (s : Status) → AreFound case depth events columns → s ≡ ended_with_all (map (λ a. a.ending) columns) → IsOfCommand c s
    columns_of case [] [] s found is = subst (IsOfCommand c) (sym is) tt
    columns_of case [] (a ∷ rest) s found is = absurd found
    columns_of case (e ∷ es) [] s found is = absurd found
    columns_of case (e ∷ es) (a ∷ rest) s found is = by_ending (columns_of case es rest s found.1) a.ending refl is
      where
        by_ending : (s ≡ ended_with_all (map (λ b. b.ending) rest) → IsOfCommand c s) → (ending : Ending) → a.ending ≡ ending → s ≡ ended_with_all (ending ∷ map (λ b. b.ending) rest) → IsOfCommand c s
        by_ending others complete same ends = others ends
        by_ending others (bounded k) same ends = analysed_of case e (length case.faults) a.sets (bounded k) s ends (subst (EndsBy case e (length case.faults) depth a.sets) same found.0.ends)

-- so a run whose words mean a command is bounded by its depth alone, and is not refused for its words
pub depth_asked : (words : List Text) (c d : Command) (s : Status) (k : ℕ) → WordsMean words c → WordsMean words d → IsOfCommand c s → s ≡ status.Bounded k → depth_of d ≡ Some k
depth_asked words c d s k m n of is = subst (λ e. depth_of e ≡ Some k) (one_command words c d m n) (subst (IsOfCommand c) is of)

pub never_words : {P : Type 0} (c : Command) (s : Status) (f : WordFault) → IsOfCommand c s → s ≡ status.Words f → P
never_words c s f of is = absurd (subst (IsOfCommand c) is of)

-- and one whose words mean none is refused by the rule that they break first
module _ (words : List Text) (f : WordFault) (s : Status) (refused : RefusesWords words f) (ends : (s ≡ status.Words f) ⊎ ((s ≡ status.Desk) ⊎ (s ≡ status.Memory))) where
  pub words_told : (rule place : ℕ) → IsAnswer s → BreaksFirst words rule place → (g : WordFault) × (rule_of g ≡ rule) × (place_of g ≡ place) × (s ≡ status.Words g)
  words_told rule place answer broken = by_end ends
    where
      by_end : (s ≡ status.Words f) ⊎ ((s ≡ status.Desk) ⊎ (s ≡ status.Memory)) → (g : WordFault) × (rule_of g ≡ rule) × (place_of g ≡ place) × (s ≡ status.Words g)
      by_end (inl is) = let one = one_fault words (rule_of f) (place_of f) rule place refused broken in (f, one.0, one.1, is)
      by_end (inr other) = no_answer other answer

  pub words_meant : (g : WordFault) → s ≡ status.Words g → RefusesWords words g
  words_meant g is = by_end ends
    where
      same : status.Words f ≡ status.Words g → f ≡ g
      same e = cc

      by_end : (s ≡ status.Words f) ⊎ ((s ≡ status.Desk) ⊎ (s ≡ status.Memory)) → RefusesWords words g
      by_end (inl told) = subst (RefusesWords words) (same (sym told ∙ is)) refused
      by_end (inr (inl told)) = let bad : status.Desk ≡ status.Words g = sym told ∙ is in cc
      by_end (inr (inr told)) = let bad : status.Memory ≡ status.Words g = sym told ∙ is in cc

  pub words_unbounded : {P : Type 0} (k : ℕ) → s ≡ status.Bounded k → P
  words_unbounded k is = by_end ends
    where
      by_end : {P : Type 0} → (s ≡ status.Words f) ⊎ ((s ≡ status.Desk) ⊎ (s ≡ status.Memory)) → P
      by_end (inl told) = let bad : status.Words f ≡ status.Bounded k = sym told ∙ is in cc
      by_end (inr (inl told)) = let bad : status.Desk ≡ status.Bounded k = sym told ∙ is in cc
      by_end (inr (inr told)) = let bad : status.Memory ≡ status.Bounded k = sym told ∙ is in cc
