use Rattle.std.proofs.Common.{length, map, subst, sym, ◌∙◌}
use Rattle.std.proofs.lemmas.List.{length-map}
use Rattle.smv_flat_laws.specs.FaultModes.{mode_of}
use Rattle.smv_language.specs.ModelTree.{flat_tree, name_of_fault}
use Rattle.smv_type_laws.specs.Costs.{state_bits}
use Rattle.cut_text_laws.specs.AnalysisText.{analysis_text}
use Rattle.cut_report.specs.FaultText.{faults_text}
use Rattle.cut_report_laws.proofs.Printed.{answers_printed}
use Rattle.cut_model_search.specs.Certifiable.{IsCertifiable}
use Rattle.cut_model_search.specs.FaultyModels.{faulty_of, AnswersSearch}
use Rattle.cut_model_search.specs.Reports.{IsReported}
use Rattle.cut_model_search.specs.Searches.{IsSearched}
use Rattle.cut_model_search.proofs.Certifying.{of_searched}
use Rattle.verb_causes.specs.Causes.{staged_in, events_in}
use Rattle.verb_causes.proofs.StagedLaws.{event_searched, event_right}
use Rattle.verb_causes.proofs.causes.search.Goals as goal

pub certificate-requires : goal.certificate-requires
certificate-requires g c =
    let l = c.args.staged.now in
    let a = c.in_ok-a.a in
    let answer = subst (λ v. AnswersSearch v c.args.depth c.in_ok-size.size a) c.in_ok-model.ensures.model c.in_ok-a.ensures in
    let searched = event_searched l c.requires c.in_ok-model.ensures.few c.args.depth c.in_ok-size.size a (c.in_ok-size.ensures.same ∙ c.len.ensures ∙ sym (length-map l.events mode_of)) answer in
    subst (λ v. IsCertifiable v a) (sym c.in_ok-model.ensures.model)
    (of_searched (faulty_of l.typed.model l.events l.loaded.top) c.args.depth a (subst (λ n. IsSearched (staged_in l) (events_in l) (flat_tree l.loaded.top) c.args.depth n a) (sym searched.answer.size_is) searched))

pub returns : goal.returns
returns g c =
    let l = c.args.staged.now in
    let a = c.in_ok-a.a in
    let few = c.in_ok-model.ensures.few in
    let found =
    subst (λ v. IsReported v c.args.depth c.in_ok-size.size a c.in_ok-cert.cert c.in_ok-report.report) c.in_ok-model.ensures.model
    (record { answer = c.in_ok-a.ensures; certified = c.in_ok-cert.ensures; reported = c.in_ok-report.ensures }) in
    let searched = event_searched l c.requires few c.args.depth c.in_ok-size.size a (c.in_ok-size.ensures.same ∙ c.len.ensures ∙ sym (length-map l.events mode_of)) found.answer in
    record {
      event = c.requires.event.event.top;
      is_event = c.requires.event.event.is_word;
      analysis = a;
      searched = searched;
      right = event_right l c.requires few c.args.depth (length (events_in l)) a searched;
      ends = c.told.ensures;
      certified = found.certified;
      reported = found.reported
          ∙ (λ j. analysis_text (faults_text (map name_of_fault l.events)) (staged_in l) (state_bits (sym c.requires.staged.full j)) (length l.events) a.size
          (sym (answers_printed l.typed.model.symbols a c.told.result c.told.ensures) j));
    }
