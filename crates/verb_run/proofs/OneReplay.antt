-- What the files and the top event of a replay come to is one.
use Rattle.std.proofs.Common.{◌≡◌, List, sym, ap, subst, ◌∙◌}
use Rattle.base_values.specs.declared.limits.TheConstants.{MOST_TRACE_BYTES}
use Rattle.base_files.specs.declared.files.NamedFile.{NamedFile}
use Rattle.smv_language.specs.Language.{Text, Tree, Value, FlatLeaf, FlatModel}
use Rattle.smv_evaluation.specs.Replay.{IsReaching}
use Rattle.smv_evaluation.proofs.StopLaws.{one_stop, reaching_does_not}
use Rattle.cut_text_laws.specs.TraceOfText.{IsPrintable, BytesGive}
use Rattle.cut_text_laws.specs.TraceFaults.{IsFirstFault}
use Rattle.cut_text_laws.proofs.OneTrace.{one_trace}
use Rattle.cut_text_laws.proofs.OneFault.{one_fault}
use Rattle.cut_text_laws.proofs.GivenHasNone.{given_has_none}
use Rattle.verb_loading.specs.declared.status.Why.{Why}
use Rattle.verb_loading.specs.declared.status.Why.TheVariants as why
use Rattle.verb_loading.specs.declared.status.Objection.TheVariants as objection
use Rattle.verb_loading.specs.declared.status.Refusal.{Refusal}
use Rattle.verb_loading.specs.declared.status.Refusal.TheVariants as refusal
use Rattle.verb_loading.specs.Cases.{Case, extension_of, IsWrongWord, IsTopWord}
use Rattle.verb_loading.specs.Tasks.{IsTopTree}
use Rattle.verb_run.specs.AnswerTexts.{replay_text}
use Rattle.verb_loading.specs.Inputs.{RefusesFaults}
use Rattle.verb_run.specs.Replays.{text_fault, RefusesTrace, trace_file, trace_bytes, HoldsTrace, reason_of, RefusesMoment, at_moment}
use Rattle.verb_run.specs.Runs.{Outcome, refuses, says, TraceComesTo, refuses_trace, refuses_moment, is_reached, ReplayComesTo, refuses_its_model, refuses_its_faults, refuses_its_top, reads_its_trace}
use Rattle.verb_loading.proofs.OneCase.{case_not_refused, case_printable, one_case}
use Rattle.verb_loading.proofs.OneExtending.{one_refused_faults}
use Rattle.verb_loading.proofs.OneModelFault.{one_refused_model, held_not_refused, one_held_model}
use Rattle.verb_loading.proofs.OneTop.{same_tree, one_wrong_word, word_not_wrong, one_top}
use Rattle.verb_loading.proofs.FilesWithin.{no_bytes_within, one_fault_above, same_bytes_within}

-- one reason for each reason
one_reason : (w u : Why) → reason_of w ≡ reason_of u → w ≡ u
one_reason why.First why.First e = cc
one_reason why.First why.Step e = cc
one_reason why.First why.Top e = cc
one_reason why.Step why.First e = cc
one_reason why.Step why.Step e = cc
one_reason why.Step why.Top e = cc
one_reason why.Top why.First e = cc
one_reason why.Top why.Step e = cc
one_reason why.Top why.Top e = cc

module _ (files : List NamedFile) (name : Text) (m : FlatModel) (printable : IsPrintable m) where
  one_refused_trace : (r s : Refusal) → RefusesTrace files name m r → RefusesTrace files name m s → r ≡ s
  one_refused_trace r s (trace_file a is refused) (trace_file b was also) =
      is ∙ ap (λ f. refusal.NotAccepted (objection.Trace f)) (one_fault_above MOST_TRACE_BYTES files name a b refused also) ∙ sym was
  one_refused_trace r s (trace_file a is refused) (trace_bytes bytes g was has bad) = absurd (no_bytes_within MOST_TRACE_BYTES files name a bytes refused has)
  one_refused_trace r s (trace_bytes bytes f is has bad) (trace_file b was refused) = absurd (no_bytes_within MOST_TRACE_BYTES files name b bytes refused has)
  one_refused_trace r s (trace_bytes bytes f is has bad) (trace_bytes others g was holds also) =
      is
      ∙ ap (λ h. refusal.NotAccepted (objection.Trace (text_fault h)))
      (one_fault m bytes f g bad (subst (λ t. IsFirstFault m t g) (same_bytes_within MOST_TRACE_BYTES files name others bytes holds has) also))
      ∙ sym was

  held_trace_not_refused : (trace : List (List Value)) (r : Refusal) → HoldsTrace files name m trace → RefusesTrace files name m r → ⊥
  held_trace_not_refused trace r h (trace_file a is refused) = no_bytes_within MOST_TRACE_BYTES files name a h.bytes refused h.has
  held_trace_not_refused trace r h (trace_bytes bytes f is has bad) =
      given_has_none m printable h.bytes trace f h.gives (subst (λ t. IsFirstFault m t f) (same_bytes_within MOST_TRACE_BYTES files name bytes h.bytes has h.has) bad)

  one_held_trace : (t u : List (List Value)) → HoldsTrace files name m t → HoldsTrace files name m u → t ≡ u
  one_held_trace t u h g = (one_trace m printable).1 h.bytes t u h.gives (subst (λ b. BytesGive m b u) (same_bytes_within MOST_TRACE_BYTES files name g.bytes h.bytes g.has h.has) g.gives)

one_refused_moment : (m : FlatModel) (top : Tree FlatLeaf) (trace : List (List Value)) (r s : Refusal) → RefusesMoment m top trace r → RefusesMoment m top trace s → r ≡ s
one_refused_moment m top trace r s (at_moment i w is stops) (at_moment j u was also) =
    let same = one_stop m top trace i j (reason_of w) (reason_of u) stops also in
    is ∙ ap (λ n. refusal.NotAccepted (objection.Moment n w)) same.0 ∙ ap (λ v. refusal.NotAccepted (objection.Moment j v)) (one_reason w u same.1) ∙ sym was

reaching_not_refused : (m : FlatModel) (top : Tree FlatLeaf) (trace : List (List Value)) (r : Refusal) → IsReaching m top trace → RefusesMoment m top trace r → ⊥
reaching_not_refused m top trace r reaching (at_moment i w is stops) = reaching_does_not m top trace i (reason_of w) stops reaching

module _ (files : List NamedFile) (c : Case) (tree : Tree FlatLeaf) (name : Text) (printable : IsPrintable c.flat) where
  trace_comes_to_one : (o q : Outcome) → TraceComesTo files c tree name o → TraceComesTo files c tree name q → o ≡ q
  trace_comes_to_one o q (refuses_trace r bad) (refuses_trace s also) = ap refuses (one_refused_trace files name c.flat printable r s bad also)
  trace_comes_to_one o q (refuses_trace r bad) (refuses_moment u s holds stops) = absurd (held_trace_not_refused files name c.flat printable u r holds bad)
  trace_comes_to_one o q (refuses_trace r bad) (is_reached u holds reaching) = absurd (held_trace_not_refused files name c.flat printable u r holds bad)
  trace_comes_to_one o q (refuses_moment t r holds stops) (refuses_trace s bad) = absurd (held_trace_not_refused files name c.flat printable t s holds bad)
  trace_comes_to_one o q (refuses_moment t r holds stops) (refuses_moment u s holds' also) =
      ap refuses (one_refused_moment c.flat tree t r s stops (subst (λ v. RefusesMoment c.flat tree v s) (one_held_trace files name c.flat printable u t holds' holds) also))
  trace_comes_to_one o q (refuses_moment t r holds stops) (is_reached u holds' reaching) =
      absurd (reaching_not_refused c.flat tree t r (subst (IsReaching c.flat tree) (one_held_trace files name c.flat printable u t holds' holds) reaching) stops)
  trace_comes_to_one o q (is_reached t holds reaching) (refuses_trace s bad) = absurd (held_trace_not_refused files name c.flat printable t s holds bad)
  trace_comes_to_one o q (is_reached t holds reaching) (refuses_moment u s holds' stops) =
      absurd (reaching_not_refused c.flat tree u s (subst (IsReaching c.flat tree) (one_held_trace files name c.flat printable t u holds holds') reaching) stops)
  trace_comes_to_one o q (is_reached t holds reaching) (is_reached u holds' reaching') = ap (λ v. says (replay_text c v)) (one_held_trace files name c.flat printable t u holds holds')

module _ (files : List NamedFile) (model faults trace top : Text) where
  pub replay_comes_to_one : (o q : Outcome) → ReplayComesTo files model faults trace top o → ReplayComesTo files model faults trace top q → o ≡ q
  replay_comes_to_one o q (refuses_its_model r bad) (refuses_its_model s also) = ap refuses (one_refused_model files model r s bad also)
  replay_comes_to_one o q (refuses_its_model r bad) (refuses_its_faults p s holds wrong) = absurd (held_not_refused files model p r holds bad)
  replay_comes_to_one o q (refuses_its_model r bad) (refuses_its_top c fault holds wrong) = absurd (held_not_refused files model c.program r holds.program bad)
  replay_comes_to_one o q (refuses_its_model r bad) (reads_its_trace c e tree q' holds word is comes) = absurd (held_not_refused files model c.program r holds.program bad)
  replay_comes_to_one o q (refuses_its_faults p r holds wrong) (refuses_its_model s bad) = absurd (held_not_refused files model p s holds bad)
  replay_comes_to_one o q (refuses_its_faults p r holds wrong) (refuses_its_faults t s other also) =
      ap refuses (one_refused_faults files faults p holds.flat holds.lawful r s wrong (subst (λ u. RefusesFaults files faults u s) (one_held_model files model p t holds other) also))
  replay_comes_to_one o q (refuses_its_faults p r holds wrong) (refuses_its_top c fault held bad) =
      absurd (case_not_refused files model faults c p r held (one_held_model files model p c.program holds held.program) wrong)
  replay_comes_to_one o q (refuses_its_faults p r holds wrong) (reads_its_trace c e tree q' held word is comes) =
      absurd (case_not_refused files model faults c p r held (one_held_model files model p c.program holds held.program) wrong)
  replay_comes_to_one o q (refuses_its_top c a held bad) (refuses_its_model s gone) = absurd (held_not_refused files model c.program s held.program gone)
  replay_comes_to_one o q (refuses_its_top c a held bad) (refuses_its_faults p s holds wrong) =
      absurd (case_not_refused files model faults c p s held (one_held_model files model p c.program holds held.program) wrong)
  replay_comes_to_one o q (refuses_its_top c a held bad) (refuses_its_top d b other also) =
      ap (λ f. refuses (refusal.Top f))
      (one_wrong_word c.program held.program.lawful.accepted top a b bad (subst (λ p. IsWrongWord p top b) (one_held_model files model c.program d.program held.program other.program) also))
  replay_comes_to_one o q (refuses_its_top c a held bad) (reads_its_trace d e tree q' other word is comes) =
      absurd (word_not_wrong c.program held.program.lawful.accepted top e a (subst (λ p. IsTopWord p top e) (one_held_model files model c.program d.program held.program other.program) word) bad)
  replay_comes_to_one o q (reads_its_trace c e tree o' held word is comes) (refuses_its_model s gone) = absurd (held_not_refused files model c.program s held.program gone)
  replay_comes_to_one o q (reads_its_trace c e tree o' held word is comes) (refuses_its_faults p s holds wrong) =
      absurd (case_not_refused files model faults c p s held (one_held_model files model p c.program holds held.program) wrong)
  replay_comes_to_one o q (reads_its_trace c e tree o' held word is comes) (refuses_its_top d b other bad) =
      absurd (word_not_wrong c.program held.program.lawful.accepted top e b word (subst (λ p. IsWrongWord p top b) (one_held_model files model c.program d.program held.program other.program) bad))
  replay_comes_to_one o q (reads_its_trace c e tree o' held word is comes) (reads_its_trace d f tree' q' other word' is' comes') =
      let cases : d ≡ c = one_case files model faults d c other held in
      let events : f ≡ e = one_top c.program held.program.lawful.accepted top f e (subst (λ k. IsTopWord k.program top f) cases word') word in
      let moved : IsTopTree c e tree' = subst (λ g. IsTopTree c g tree') events (subst (λ k. IsTopTree k f tree') cases is') in
      let trees : tree' ≡ tree = same_tree (extension_of c) c.flat held.is_case.within.accepted held.is_case.is_flat.is e tree' tree moved is in
      trace_comes_to_one files c tree trace (case_printable files model faults c held) o' q' comes (subst (λ t. TraceComesTo files c t trace q') trees (subst (λ k. TraceComesTo files k tree' trace q') cases comes'))
