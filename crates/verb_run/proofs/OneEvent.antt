-- What the files and the word of a top event come to is one, and so is what an analysis comes to.
use Rattle.std.proofs.Common.{◌≡◌, ℕ, List, Option, length, sym, ap, subst, ◌∙◌}
use Rattle.base_files.specs.declared.files.NamedFile.{NamedFile}
use Rattle.smv_language.specs.ProgramTree.{Text, Formula}
use Rattle.verb_loading.specs.declared.status.Refusal.{Refusal}
use Rattle.verb_loading.specs.declared.status.Refusal.TheVariants as refusal
use Rattle.verb_loading.specs.Inputs.{RefusesFaults}
use Rattle.verb_loading.specs.Cases.{Case, HoldsCase, IsTopWord, IsWrongWord}
use Rattle.verb_loading.specs.Events.{RefusesEvent, at_model, at_faults, at_top}
use Rattle.cut_model_search.specs.CaseAnalysis.{size_for}
use Rattle.verb_run.specs.Runs.{Outcome, refuses, analyses, AnalysisComesTo, refuses_event, is_analysed}
use Rattle.verb_loading.proofs.OneExtending.{one_refused_faults}
use Rattle.verb_loading.proofs.OneModelFault.{one_refused_model, held_not_refused, one_held_model}
use Rattle.verb_loading.proofs.OneCase.{case_not_refused, one_case}
use Rattle.verb_loading.proofs.OneTop.{one_wrong_word, word_not_wrong}

module _ (files : List NamedFile) (model faults top : Text) where
  pub one_refused_event : (r s : Refusal) → RefusesEvent files model faults top r → RefusesEvent files model faults top s → r ≡ s
  one_refused_event r s (at_model bad) (at_model also) = one_refused_model files model r s bad also
  one_refused_event r s (at_model bad) (at_faults p holds wrong) = absurd (held_not_refused files model p r holds bad)
  one_refused_event r s (at_model bad) (at_top c a holds is wrong) = absurd (held_not_refused files model c.program r holds.program bad)
  one_refused_event r s (at_faults p holds wrong) (at_model bad) = absurd (held_not_refused files model p s holds bad)
  one_refused_event r s (at_faults p holds wrong) (at_faults t other also) =
      one_refused_faults files faults p holds.flat holds.lawful r s wrong (subst (λ u. RefusesFaults files faults u s) (one_held_model files model p t holds other) also)
  one_refused_event r s (at_faults p holds wrong) (at_top c a held is bad) = absurd (case_not_refused files model faults c p r held (one_held_model files model p c.program holds held.program) wrong)
  one_refused_event r s (at_top c a held is bad) (at_model gone) = absurd (held_not_refused files model c.program s held.program gone)
  one_refused_event r s (at_top c a held is bad) (at_faults p holds wrong) = absurd (case_not_refused files model faults c p s held (one_held_model files model p c.program holds held.program) wrong)
  one_refused_event r s (at_top c a held is bad) (at_top d b other was also) =
      is
      ∙ ap (λ f. refusal.Top f)
      (one_wrong_word c.program held.program.lawful.accepted top a b bad (subst (λ p. IsWrongWord p top b) (one_held_model files model c.program d.program held.program other.program) also))
      ∙ sym was

  pub event_not_refused : (c : Case) (e : Formula) (r : Refusal) → HoldsCase files model faults c → IsTopWord c.program top e → RefusesEvent files model faults top r → ⊥
  event_not_refused c e r held word (at_model bad) = held_not_refused files model c.program r held.program bad
  event_not_refused c e r held word (at_faults p holds wrong) = case_not_refused files model faults c p r held (one_held_model files model p c.program holds held.program) wrong
  event_not_refused c e r held word (at_top d a other is bad) =
      word_not_wrong c.program held.program.lawful.accepted top e a word (subst (λ p. IsWrongWord p top a) (one_held_model files model c.program d.program held.program other.program) bad)

  pub analysis_comes_to_one : (depth : ℕ) (extended cert : Text) (size : Option ℕ) (o q : Outcome) → AnalysisComesTo files model faults top depth extended cert size o →
      AnalysisComesTo files model faults top depth extended cert size q → o ≡ q
  analysis_comes_to_one depth extended cert size o q (refuses_event r bad) (refuses_event s also) = ap refuses (one_refused_event r s bad also)
  analysis_comes_to_one depth extended cert size o q (refuses_event r bad) (is_analysed c e held word) = absurd (event_not_refused c e r held word bad)
  analysis_comes_to_one depth extended cert size o q (is_analysed c e held word) (refuses_event s bad) = absurd (event_not_refused c e s held word bad)
  analysis_comes_to_one depth extended cert size o q (is_analysed c e held word) (is_analysed d f other word') =
      ap (λ k. analyses k top depth (size_for size (length k.faults)) extended cert) (one_case files model faults c d held other)
