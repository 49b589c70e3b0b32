-- From an answered run to the analysis that it has done.
use Rattle.std.proofs.Common.{◌≡◌, inl, inr, ℕ, List, [], ◌∷◌, Option, Some, None, IfSome, IsSomeAnd, length, refl, sym, ap, subst, ◌∙◌}
use Rattle.std.specs.Prelude.{codes}
use Rattle.base_files.specs.declared.files.NamedFile.{NamedFile}
use Rattle.base_files.specs.Files.{with_file}
use Rattle.smv_language.specs.ProgramTree.{Text}
use Rattle.verb_command_line.specs.declared.choice.OptionKind.TheVariants as kind
use Rattle.verb_command_line.specs.declared.verb.Verb.TheVariants as verb
use Rattle.verb_command_line.specs.Commands.{Given, analyse}
use Rattle.verb_command_line.specs.Table.{Choice, options_of, kind_in}
use Rattle.verb_command_line.specs.Meaning.{Each, Gives, SameFile, AreDifferent, Makes, analyses as makes_analysis}
use Rattle.verb_command_line.proofs.ReadingLaws.{one_command}
use Rattle.verb_loading.specs.declared.status.Refusal.{Refusal}
use Rattle.verb_loading.specs.declared.status.Refusal.TheVariants as refusal
use Rattle.verb_loading.specs.declared.status.Status.{Status}
use Rattle.verb_loading.specs.declared.status.Status.TheVariants as status
use Rattle.verb_loading.specs.Statuses.{status_of}
use Rattle.verb_run.specs.Requests.{AsksToAnalyse}
use Rattle.verb_loading.specs.Cases.{Case, HoldsCase}
use Rattle.verb_run.specs.AnswerTexts.{extension_text}
use Rattle.cut_model_search.specs.CaseAnalysis.{size_for}
use Rattle.verb_run.specs.Analyses.{AreWritten, HasAnalysed}
use Rattle.cut_report_laws.specs.ExtendedTraces.{Ending, complete, bounded}
use Rattle.verb_run.specs.Headline.{IsComplete, IsBounded}
use Rattle.verb_run.specs.Runs.{Outcome, AnalysisComesTo, refuses_event, is_analysed, CommandComesTo, Means, refuses_words, asked, IsAnswer, IsDelivered, HasAnswered}
use Rattle.verb_run.proofs.ExtensionLemmas.{never_done, refused_not_asked}
use Rattle.verb_run.proofs.HeadlineLaws.{answers_are_the_headline}

-- Two files of different options have different names.
picked : (P : Given → Type 0) (pairs : List Given) (o v : Text) → Each P pairs → Gives pairs o v → (p : Given) × (p.option ≡ o) × (p.value ≡ v) × P p
picked P [] o v each given = absurd given
picked P (p ∷ ps) o v each (inl is) = (p, is.0, is.1, each.0)
picked P (p ∷ ps) o v each (inr more) = picked P ps o v each.1 more

module _ (options : List Choice) (a b : Text) (differ : a ≡ b → ⊥) (first : kind_in options a ≡ Some kind.File) (second : kind_in options b ≡ Some kind.File) where
  pub apart : (pairs : List Given) (x y : Text) → x ≡ y → AreDifferent options pairs → Gives pairs a x → Gives pairs b y → ⊥
  apart [] x y same different h g = h
  apart (p ∷ ps) x y same different (inl h) (inl g) = differ (sym h.0 ∙ g.0)
  apart (p ∷ ps) x y same different (inl h) (inr g) =
      let q = picked (λ q. SameFile options p q → ⊥) ps b y different.0 g in
      q.3 (record { first = ap (kind_in options) h.0 ∙ first; second = ap (kind_in options) q.1 ∙ second; same = h.1 ∙ same ∙ sym q.2 })
  apart (p ∷ ps) x y same different (inr h) (inl g) =
      let q = picked (λ q. SameFile options p q → ⊥) ps a x different.0 h in
      q.3 (record { first = ap (kind_in options) g.0 ∙ second; second = ap (kind_in options) q.1 ∙ first; same = g.1 ∙ sym same ∙ sym q.2 })
  apart (p ∷ ps) x y same different (inr h) (inr g) = apart ps x y same different.1 h g

options_differ : codes "--extended" ≡ codes "--cert" → ⊥
options_differ e = cc

files_differ : (words : List Text) (model faults top : Text) (depth : ℕ) (extended cert : Text) (size : Option ℕ) → AsksToAnalyse words model faults top depth extended cert size → extended ≡ cert → ⊥
files_differ words model faults top depth extended cert size asks same = by_verb asks.verb asks.makes asks.different
  where
    by_verb : (v : _) → Makes asks.pairs v (analyse model faults top depth extended cert size) → AreDifferent (options_of v) asks.pairs → ⊥
    by_verb v (makes_analysis _ _ _ _ _ _ _ m f t d e c s) different = apart (options_of verb.Analyse) (codes "--extended") (codes "--cert") options_differ refl refl asks.pairs extended cert same different e c

-- no refusal ends as bounded
pub never_bounded : (r : Refusal) (k : ℕ) → status.Bounded k ≡ status_of r → ⊥
never_bounded (refusal.Model fault) k e = cc
never_bounded (refusal.Faults fault) k e = cc
never_bounded (refusal.Top fault) k e = cc
never_bounded (refusal.NotAccepted o) k e = cc
never_bounded (refusal.Causes fault) k e = cc
never_bounded (refusal.Set fault) k e = cc

-- the files that stand are told
written_told : (c : Case) (files : List NamedFile) (after : Option (List NamedFile)) (s : Status) (word : Text) (depth size : ℕ) (extended cert : Text) (said now : Option (List ℕ)) →
    HasAnalysed c word depth size extended cert s (Some files) after said now → (new : List NamedFile) × (after ≡ Some new)
written_told c files after s word depth size extended cert said now h = by_ending h.analysis.ending h.written
  where
    by_ending : (ending : Ending) → AreWritten c h.event size h.analysis extended cert (Some files) after ending → (new : List NamedFile) × (after ≡ Some new)
    by_ending complete w = (with_file (with_file files extended (extension_text c)) cert w.0, w.2)
    by_ending (bounded k) w = (with_file files extended (extension_text c), w)

module _ (files : List NamedFile) (after : Option (List NamedFile)) (said now : Option (List ℕ)) (words : List Text) (model faults top : Text) (depth : ℕ) (extended cert : Text) (size : Option ℕ)
    (asks : AsksToAnalyse words model faults top depth extended cert size) where
  -- what an analysis comes to, where it is not refused
  comes_analysed : (s : Status) (o : Outcome) → ((r : Refusal) → s ≡ status_of r → ⊥) → AnalysisComesTo files model faults top depth extended cert size o → IsDelivered o s (Some files) after said now →
      (c : Case) × HoldsCase files model faults c × HasAnalysed c top depth (size_for size (length c.faults)) extended cert s (Some files) after said now
  comes_analysed s o never (refuses_event r bad) stands = absurd (never r stands.0)
  comes_analysed s o never (is_analysed c e holds word) stands = (c, holds, stands)

  means_analysed : (s : Status) (o : Outcome) → ((r : Refusal) → s ≡ status_of r → ⊥) → Means files words o → IsDelivered o s (Some files) after said now →
      (c : Case) × HoldsCase files model faults c × HasAnalysed c top depth (size_for size (length c.faults)) extended cert s (Some files) after said now
  means_analysed s o never (refuses_words f refused) stands = absurd (refused_not_asked words f (analyse model faults top depth extended cert size) refused asks)
  means_analysed s o never (asked d o' named comes) stands =
      comes_analysed s o' never (subst (λ e. CommandComesTo files e o') (one_command words d (analyse model faults top depth extended cert size) named asks) comes) stands

  complete_run : HasAnswered files words status.Done (Some files) after said now → IsSomeAnd after (λ new. IsComplete files new said now model faults top extended cert size)
  complete_run answer =
      let did = means_analysed status.Done answer.outcome never_done answer.means answer.delivered in
      let new = written_told did.0 files after status.Done top depth (size_for size (length did.0.faults)) extended cert said now did.2 in
      subst (λ t. IsSomeAnd t (λ fs. IsComplete files fs said now model faults top extended cert size)) (sym new.1)
      ((answers_are_the_headline files new.0 said now model faults top extended cert depth size did.0 did.1 (files_differ words model faults top depth extended cert size asks)).0
      (subst (λ t. HasAnalysed did.0 top depth (size_for size (length did.0.faults)) extended cert status.Done (Some files) t said now) new.1 did.2))

  bounded_run : (k : ℕ) → HasAnswered files words (status.Bounded k) (Some files) after said now →
      IsSomeAnd after (λ new. (k ≡ depth) × IsBounded files new said now model faults top extended cert depth size)
  bounded_run k answer =
      let did = means_analysed (status.Bounded k) answer.outcome (λ r. never_bounded r k) answer.means answer.delivered in
      let new = written_told did.0 files after (status.Bounded k) top depth (size_for size (length did.0.faults)) extended cert said now did.2 in
      subst (λ t. IsSomeAnd t (λ fs. (k ≡ depth) × IsBounded files fs said now model faults top extended cert depth size)) (sym new.1)
      ((answers_are_the_headline files new.0 said now model faults top extended cert depth size did.0 did.1 (files_differ words model faults top depth extended cert size asks)).1 k
      (subst (λ t. HasAnalysed did.0 top depth (size_for size (length did.0.faults)) extended cert (status.Bounded k) (Some files) t said now) new.1 did.2))

-- a run that answers that it is done has analysed all extended traces
pub done_analyses : (told after : Option (List NamedFile)) (said now : Option (List ℕ)) (words : List Text) (s : Status) (model faults top extended cert : Text) (depth : ℕ) (size : Option ℕ) →
    (IsAnswer s → IfSome told (λ files. HasAnswered files words s told after said now)) → s ≡ status.Done → AsksToAnalyse words model faults top depth extended cert size →
    IfSome told (λ before. IsSomeAnd after (λ new. IsComplete before new said now model faults top extended cert size))
done_analyses None after said now words s model faults top extended cert depth size answered done asks = tt
done_analyses (Some files) after said now words s model faults top extended cert depth size answered done asks =
    complete_run files after said now words model faults top depth extended cert size asks
    (subst (λ t. HasAnswered files words t (Some files) after said now) done (answered (subst IsAnswer (sym done) tt)))

-- and one that answers that it is bounded those of at most so many steps
pub bounded_analyses : (told after : Option (List NamedFile)) (said now : Option (List ℕ)) (words : List Text) (s : Status) (model faults top extended cert : Text) (depth : ℕ) (size : Option ℕ) (k : ℕ) →
    (IsAnswer s → IfSome told (λ files. HasAnswered files words s told after said now)) → s ≡ status.Bounded k → AsksToAnalyse words model faults top depth extended cert size →
    IfSome told (λ before. IsSomeAnd after (λ new. (k ≡ depth) × IsBounded before new said now model faults top extended cert depth size))
bounded_analyses None after said now words s model faults top extended cert depth size k answered done asks = tt
bounded_analyses (Some files) after said now words s model faults top extended cert depth size k answered done asks =
    bounded_run files after said now words model faults top depth extended cert size asks k
    (subst (λ t. HasAnswered files words t (Some files) after said now) done (answered (subst IsAnswer (sym done) tt)))
