-- From what the crate of a verb has done, refused or left to what the run comes to.
use Rattle.std.proofs.Common.{◌≡◌, ◌⊎◌, ◌≤◌, inl, inr, ℕ, List, Option, Some, None, IfSome, Result, Ok, Err, IfOk, IsErrOf, refl, sym, ap, subst, ◌∙◌, arith}
use Rattle.base_files.specs.declared.files.NamedFile.{NamedFile}
use Rattle.base_files.specs.Desk.{Rose}
use Rattle.smv_language.specs.ProgramTree.{Text}
use Rattle.verb_command_line.specs.Commands.{Command}
use Rattle.verb_command_line.specs.Meaning.{Means as WordsMean}
use Rattle.verb_command_line.proofs.ReadingLaws.{one_command}
use Rattle.verb_loading.specs.declared.status.Refusal.{Refusal}
use Rattle.verb_loading.specs.declared.status.Status.{Status}
use Rattle.verb_loading.specs.declared.status.Status.TheVariants as status
use Rattle.verb_loading.specs.declared.input.Stop.{Stop}
use Rattle.verb_loading.specs.declared.input.Stop.TheVariants as stopped
use Rattle.verb_loading.specs.CaseAnswers.{Told, Said}
use Rattle.verb_run.specs.RunEndings.{Concluded}
use Rattle.verb_run.specs.Runs.{Outcome, refuses, RefusedOr, is_refused, is_done, CommandComesTo, Means, refuses_words, asked, IsAnswer, IsFinished, IsDelivered, IsDeliveredInPart, Stands, StandsInPart, HasAnswered}
use Rattle.verb_run.proofs.ExtensionLemmas.{refused_not_asked}
use Rattle.verb_run.proofs.OutcomeLemmas.{no_answer, answers_stop, leaves_stop}
use Rattle.verb_run.proofs.TabulatedLaws.{never_finished, finished_answers}

-- what is so of files that are told, by what else is
pub some_told : (told : Told) (P Q : List NamedFile → Type 0) → ((files : List NamedFile) → P files → Q files) → IfSome told P → IfSome told Q
some_told None P Q so h = tt
some_told (Some files) P Q so h = so files h

pub done_told : (done : Result Status Stop) (told : Told) (P Q : List NamedFile → Status → Type 0) → ((files : List NamedFile) (s : Status) → P files s → Q files s) →
    IfOk done (λ s. IfSome told (λ files. P files s)) → IfOk done (λ s. IfSome told (λ files. Q files s))
done_told (Ok s) told P Q so h = some_told told (λ files. P files s) (λ files. Q files s) (λ files. so files s) h
done_told (Err e) told P Q so h = tt

pub left_told : (told : Told) (nothing : Type 0) (P Q : List NamedFile → Type 0) → ((files : List NamedFile) → P files → Q files) → nothing ⊎ IfSome told P → nothing ⊎ IfSome told Q
left_told told nothing P Q so (inl h) = inl h
left_told told nothing P Q so (inr h) = inr (some_told told P Q so h)

-- the same where something else is so of how it ends
pub done_also : (done : Result Status Stop) (told : Told) (P : List NamedFile → Status → Type 0) (R : Status → Type 0) (Q : List NamedFile → Status → Type 0) →
    ((files : List NamedFile) (s : Status) → P files s → R s → Q files s) → IfOk done (λ s. IfSome told (λ files. P files s)) → IfOk done R → IfOk done (λ s. IfSome told (λ files. Q files s))
done_also (Ok s) told P R Q so h end = some_told told (λ files. P files s) (λ files. Q files s) (λ files p. so files s p end) h
done_also (Err e) told P R Q so h end = tt

-- what is so where something is given is so
pub given_done : (done : Result Status Stop) (A : Type 0) (P : Status → Type 0) → IfOk done (λ s. A → P s) → A → IfOk done P
given_done (Ok s) A P h a = h a
given_done (Err e) A P h a = tt

pub given_left : (nothing A P : Type 0) → nothing ⊎ (A → P) → A → nothing ⊎ P
given_left nothing A P (inl h) a = inl h
given_left nothing A P (inr h) a = inr (h a)

-- a beginning of a line was said, where something is given
pub line_left : (told : Told) (silent says A same : Type 0) (P Q : List NamedFile → Type 0) → ((files : List NamedFile) → says → P files → Q files) → same → silent ⊎ (says × (A → IfSome told P)) → A →
    (same × silent) ⊎ IfSome told Q
line_left told silent says A same P Q so kept (inl h) a = inl (kept, h)
line_left told silent says A same P Q so kept (inr h) a = inr (some_told told P Q (λ files. so files h.0) (h.1 a))

-- a count that rose before a later one rose
pub rose_before : (a b c : ℕ) → Rose a b → b ≤ c → Rose a c
rose_before a b c rose later = omega (arith, rose, later)

-- the same where no file was changed
pub left_said : (told : Told) (silent same : Type 0) (P Q : List NamedFile → Type 0) → ((files : List NamedFile) → P files → Q files) → same → silent ⊎ IfSome told P → (same × silent) ⊎ IfSome told Q
left_said told silent same P Q so kept (inl h) = inl (kept, h)
left_said told silent same P Q so kept (inr h) = inr (some_told told P Q so h)

-- what is finished was not refused
pub finished_or : (Refuses : Refusal → Type 0) (Holds : Type 0) (work o : Outcome) (s : Status) (before after : Told) (said now : Said) → IsFinished s → RefusedOr Refuses Holds work o →
    IsDelivered o s before after said now → IsDelivered work s before after said now
finished_or Refuses Holds work o s before after said now finished (is_refused r bad) stands = absurd (never_finished r s finished stands.0)
finished_or Refuses Holds work o s before after said now finished (is_done holds) stands = stands

module _ (Comes : List NamedFile → Outcome → Type 0) (told mid after : Told) (said then now : Said) where
  -- what stands of work that was done, or of its refusal
  pub answers_work : (done : Result Status Stop) (s : Status) → IfOk done (λ t. IfSome told (λ files. Stands (Comes files) t told mid said then)) →
      ((r : Refusal) → IsErrOf done (stopped.Refused r) → IfSome told (λ files. Comes files (refuses r))) →
      ((r : Refusal) → IsErrOf done (stopped.Refused r) → (mid ≡ told) × (then ≡ said)) → Concluded done s mid after then now → IsAnswer s →
      IfSome told (λ files. Stands (Comes files) s told after said now)
  answers_work (Ok t) s stands refused kept ends answer =
      subst (λ x. IfSome told (λ files. Stands (Comes files) x told after said now)) (sym ends.ends)
      (subst (λ x. IfSome told (λ files. Stands (Comes files) t told x said now)) (sym ends.kept)
      (subst (λ x. IfSome told (λ files. Stands (Comes files) t told mid said x)) (sym ends.silent) stands))
  answers_work (Err (stopped.Refused r)) s stands refused kept ends answer =
      let same = kept r refl in
      answers_stop Comes told mid after said then now same.0 same.1 (stopped.Refused r) s (λ q is. refused q (ap (λ e. Err e) is)) ends answer
  answers_work (Err stopped.Desk) s stands refused kept ends answer = no_answer (inl ends.ends) answer
  answers_work (Err stopped.Memory) s stands refused kept ends answer = no_answer (inr ends.ends) answer

  -- what was left is left
  stays : ((mid ≡ told) × (then ≡ said)) ⊎ IfSome told (λ files. StandsInPart (Comes files) told mid said then) → after ≡ mid → now ≡ then →
      ((after ≡ told) × (now ≡ said)) ⊎ IfSome told (λ files. StandsInPart (Comes files) told after said now)
  stays (inl none) kept silent = inl (kept ∙ none.0, silent ∙ none.1)
  stays (inr part) kept silent =
      inr (subst (λ x. IfSome told (λ files. StandsInPart (Comes files) told x said now)) (sym kept)
      (subst (λ x. IfSome told (λ files. StandsInPart (Comes files) told mid said x)) (sym silent) part))

  pub leaves_work : (done : Result Status Stop) (s : Status) →
      ((mid ≡ told) × (then ≡ said)) ⊎ IfSome told (λ files. StandsInPart (Comes files) told mid said then) →
      ((r : Refusal) → IsErrOf done (stopped.Refused r) → IfSome told (λ files. Comes files (refuses r))) →
      ((r : Refusal) → IsErrOf done (stopped.Refused r) → (mid ≡ told) × (then ≡ said)) → Concluded done s mid after then now →
      ((after ≡ told) × (now ≡ said)) ⊎ IfSome told (λ files. StandsInPart (Comes files) told after said now)
  leaves_work (Ok t) s left refused kept ends = stays left ends.kept ends.silent
  leaves_work (Err (stopped.Refused r)) s left refused kept ends =
      let same = kept r refl in
      leaves_stop Comes told mid after said then now same.0 same.1 (stopped.Refused r) s (λ q is. refused q (ap (λ e. Err e) is)) ends
  leaves_work (Err stopped.Desk) s left refused kept ends = stays left ends.kept ends.silent
  leaves_work (Err stopped.Memory) s left refused kept ends = stays left ends.kept ends.silent

-- a run that has finished has done what the words ask for
pub finished_work : (told after : Told) (said now : Said) (words : List Text) (s : Status) (c : Command) (P : List NamedFile → Type 0) →
    (IsAnswer s → IfSome told (λ files. HasAnswered files words s told after said now)) → IsFinished s → WordsMean words c →
    ((files : List NamedFile) (o : Outcome) → CommandComesTo files c o → IsDelivered o s told after said now → P files) → IfSome told P
finished_work told after said now words s c P answered finished means so = by_told told (answered (finished_answers s finished))
  where
    by_means : (files : List NamedFile) (o : Outcome) → Means files words o → IsDelivered o s told after said now → P files
    by_means files o (refuses_words f refused) stands = absurd (refused_not_asked words f c refused means)
    by_means files o (asked d q named comes) stands = so files q (subst (λ e. CommandComesTo files e q) (one_command words d c named means) comes) stands

    by_told : (t : Told) → IfSome t (λ files. HasAnswered files words s told after said now) → IfSome t P
    by_told None h = tt
    by_told (Some files) h = by_means files h.outcome h.means h.delivered
