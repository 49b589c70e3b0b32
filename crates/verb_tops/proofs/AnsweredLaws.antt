-- From the parts of a run to what it came to.
use Rattle.std.proofs.Common.{◌≡◌, ◌⊎◌, inl, inr, ℕ, List, Option, Some, None, IfSome, length, refl, ap, subst, ◌∙◌}
use Rattle.base_files.specs.Desk.{said_more}
use Rattle.smv_language.specs.ProgramTree.{Text, Formula}
use Rattle.cut_model_search.specs.CaseAnalysis.{size_for}
use Rattle.verb_command_line.specs.declared.fault.WordFault.{WordFault}
use Rattle.verb_loading.specs.declared.input.Stop.{Stop}
use Rattle.verb_loading.specs.declared.input.Stop.TheVariants as stops
use Rattle.verb_loading.specs.declared.status.Refusal.{Refusal}
use Rattle.verb_loading.specs.declared.status.Status.{Status}
use Rattle.verb_loading.specs.declared.status.Status.TheVariants as status
use Rattle.verb_loading.specs.Statuses.{IsAnswer, status_of, refusal_text, words_text}
use Rattle.verb_loading.specs.Cases.{Case, HoldsCase, HoldsTops}
use Rattle.verb_loading.specs.CaseAnswers.{Told, Said}
use Rattle.verb_run.specs.Requests.{AsksToAnalyse}
use Rattle.verb_run.specs.RunEndings.{Stopped}
use Rattle.verb_run.specs.Tables.{RefusesTable}
use Rattle.verb_run.proofs.OutcomeLemmas.{no_answer}
use Rattle.verb_tops.specs.Each.{HasAnalysedEach, AnswersEach, is_refused, are_analysed, HasAnsweredEach, refuses_words, answers}

module _ (model faults tops : Text) (depth : ℕ) (extended stem : Text) (size : Option ℕ) (told mid after : Told) (said mid_said now : Said) (same : mid ≡ told) (same_said : mid_said ≡ said) (s : Status) where
  -- the events were analysed
  pub each_answered : (c : Case) (events : List Formula) → IfSome told (λ files. HoldsCase files model faults c) → IfSome told (λ files. HoldsTops files tops c.program events) →
      HasAnalysedEach c events depth (size_for size (length c.faults)) extended stem s mid after mid_said now →
      IfSome told (λ files. AnswersEach files model faults tops depth extended stem size s told after said now)
  each_answered c events holds are did =
      at_told told holds are (subst (λ t. HasAnalysedEach c events depth (size_for size (length c.faults)) extended stem s t after said now) same
      (subst (λ t. HasAnalysedEach c events depth (size_for size (length c.faults)) extended stem s mid after t now) same_said did)) where
        at_told : (t : Told) → IfSome t (λ files. HoldsCase files model faults c) → IfSome t (λ files. HoldsTops files tops c.program events) →
            HasAnalysedEach c events depth (size_for size (length c.faults)) extended stem s told after said now →
            IfSome t (λ files. AnswersEach files model faults tops depth extended stem size s told after said now)
        at_told None holds are did = tt
        at_told (Some files) holds are did = are_analysed c events holds are did

  refusal_answered : (r : Refusal) → IfSome told (λ files. RefusesTable files model faults tops r) → s ≡ status_of r → after ≡ mid → now ≡ said_more mid_said (refusal_text r) →
      IfSome told (λ files. AnswersEach files model faults tops depth extended stem size s told after said now)
  refusal_answered r refused is kept line = at_told told refused where
    at_told : (t : Told) → IfSome t (λ files. RefusesTable files model faults tops r) → IfSome t (λ files. AnswersEach files model faults tops depth extended stem size s told after said now)
    at_told None refused = tt
    at_told (Some files) refused = is_refused r refused is (kept ∙ same) (line ∙ ap (λ t. said_more t (refusal_text r)) same_said)

  -- or something was refused
  pub stop_answered : (stop : Stop) → ((r : Refusal) → stop ≡ stops.Refused r → IfSome told (λ files. RefusesTable files model faults tops r)) → Stopped stop s mid after mid_said now → IsAnswer s →
      IfSome told (λ files. AnswersEach files model faults tops depth extended stem size s told after said now)
  stop_answered (stops.Refused r) refused ended answer = by_end ended.ends where
    by_end : (s ≡ status_of r) ⊎ ((s ≡ status.Desk) ⊎ (s ≡ status.Memory)) → IfSome told (λ files. AnswersEach files model faults tops depth extended stem size s told after said now)
    by_end (inl is) = refusal_answered r (refused r refl) is ended.kept (ended.line is)
    by_end (inr other) = no_answer other answer
  stop_answered stops.Desk refused ended answer = no_answer (inl ended.ends) answer
  stop_answered stops.Memory refused ended answer = no_answer (inr ended.ends) answer

module _ (words : List Text) (told after : Told) (said now : Said) (s : Status) where
  -- the words of an analysis were carried out
  pub words_answered : (model faults tops extended stem : Text) (depth : ℕ) (size : Option ℕ) → AsksToAnalyse words model faults tops depth extended stem size →
      IfSome told (λ files. AnswersEach files model faults tops depth extended stem size s told after said now) → IfSome told (λ files. HasAnsweredEach files words s told after said now)
  words_answered model faults tops extended stem depth size asks did = at_told told did where
    at_told : (t : Told) → IfSome t (λ files. AnswersEach files model faults tops depth extended stem size s told after said now) → IfSome t (λ files. HasAnsweredEach files words s told after said now)
    at_told None did = tt
    at_told (Some files) did = answers model faults tops extended stem depth size asks did

  -- or refused
  pub words_refused : (f : WordFault) → (s ≡ status.Words f) ⊎ ((s ≡ status.Desk) ⊎ (s ≡ status.Memory)) → (s ≡ status.Words f → now ≡ said_more said (words_text f)) → after ≡ told → IsAnswer s →
      IfSome told (λ files. HasAnsweredEach files words s told after said now)
  words_refused f (inl is) line kept answer = at_told told where
    at_told : (t : Told) → IfSome t (λ files. HasAnsweredEach files words s told after said now)
    at_told None = tt
    at_told (Some files) = refuses_words f is kept (line is)
  words_refused f (inr other) line kept answer = no_answer other answer
