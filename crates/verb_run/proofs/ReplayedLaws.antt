-- From an answered run to the extended trace that it has replayed, and back.
use Rattle.std.proofs.Common.{◌≡◌, ◌↔◌, ℕ, List, [], map, Option, Some, None, IfSome, sym, subst, ◌∙◌}
use Rattle.base_files.specs.declared.files.NamedFile.{NamedFile}
use Rattle.base_files.specs.Desk.{said_more}
use Rattle.smv_language.specs.Language.{Tree, Text, Formula, Value, Valuation, IsTrace, FlatLeaf}
use Rattle.cut_right_laws.specs.Laws.{Correspond}
use Rattle.sat_encoding_laws.specs.FlatTraces.{ReachesTop, HasFailedNumber, failed_set}
use Rattle.sat_encoding_laws.proofs.HistoryFacts.{failed_exactly}
use Rattle.sat_encoding_laws.proofs.Numbers.{where_rising}
use Rattle.smv_flat_laws.specs.FlatTrace.{IsFlatTrace, stands_in_some}
use Rattle.smv_type_laws.specs.Laws.{values_by_number}
use Rattle.smv_type_laws.proofs.TraceLaws.{traces_are}
use Rattle.fault_weave.specs.ExtensionTraces.{Moment, IsExtended, Reaches}
use Rattle.fault_weave.proofs.WovenNominal.{woven_extends}
use Rattle.cert_laws.specs.ExtendedTraces.{HasFailedFault, IsExtensionModel, IsFlatCut}
use Rattle.cert_laws.proofs.Carried.{correspond, flat_traces_cut}
use Rattle.fault_woven_laws.specs.Tops.{IsReadAs}
use Rattle.fault_woven_laws.proofs.Meanings.{tops_of_extensions}
use Rattle.fault_woven_laws.proofs.Resolving.{woven_resolves}
use Rattle.smv_evaluation.specs.Replay.{IsReaching}
use Rattle.verb_command_line.specs.Commands.{replay}
use Rattle.verb_command_line.proofs.ReadingLaws.{one_command}
use Rattle.verb_loading.specs.declared.status.Refusal.TheVariants as refusal
use Rattle.verb_loading.specs.declared.status.Status.{Status}
use Rattle.verb_loading.specs.declared.status.Status.TheVariants as status
use Rattle.verb_run.specs.Requests.{AsksToReplay}
use Rattle.verb_loading.specs.Cases.{Case, extension_of, HoldsCase, IsTopWord}
use Rattle.verb_loading.specs.Tasks.{IsTopTree}
use Rattle.verb_run.specs.AnswerTexts.{replay_text}
use Rattle.verb_run.specs.Replays.{HoldsTrace}
use Rattle.verb_run.specs.Runs.{Outcome, says, TraceComesTo, refuses_trace, refuses_moment, is_reached, ReplayComesTo, refuses_its_model, refuses_its_faults, refuses_its_top, reads_its_trace, CommandComesTo, Means, refuses_words, asked, IsAnswer, IsDelivered, HasAnswered}
use Rattle.verb_run.specs.ReplayFindings.{HoldsReaching, IsReplayed}
use Rattle.verb_run.proofs.ExtensionLemmas.{never_done, refused_not_asked}
use Rattle.verb_run.proofs.OneOutcome.{one_outcome}
use Rattle.verb_loading.proofs.TopLaws.{have_models}

module _ (files : List NamedFile) (model faults : Text) (c : Case) (holds : HoldsCase files model faults c) (word : Text) (e : Formula) (event : IsTopWord c.program word e) where
  -- the event has an expression over the extension
  event_tree : (tree : Tree FlatLeaf) × IsTopTree c e tree
  event_tree =
      let top = event.is_top in
      let read : (tree : Tree FlatLeaf) × IsReadAs c.program top.flat c.instructions c.flat [] e top.tree tree =
      woven_resolves c.program top.flat c.instructions c.flat (have_models c holds.is_case holds.program.flat holds.program.lawful e top) [] e top.tree top.resolved in
      (read.0, read.1.after)

  pub extension_model : (tree : Tree FlatLeaf) → IsTopTree c e tree → IsExtensionModel c.program c.instructions c.faults e c.flat c.modes tree
  extension_model tree resolved =
      let top = event.is_top in
      tops_of_extensions c.program top.flat c.instructions c.flat (have_models c holds.is_case holds.program.flat holds.program.lawful e top) holds.is_case.within.accepted c.faults c.modes
      holds.is_case.are_faults holds.is_case.are_modes e top.tree tree (record { before = top.resolved; after = resolved })

  same_traces : (tree : Tree FlatLeaf) → IsTopTree c e tree →
      Correspond (List (List Value)) (List Moment) (IsFlatTrace c.flat) (ReachesTop c.flat tree) (HasFailedNumber c.flat c.modes) (IsExtended c.program c.instructions) (Reaches c.program e) (HasFailedFault c.faults)
      (IsFlatCut c.program c.instructions c.flat)
  same_traces tree resolved = correspond c.program c.instructions c.faults e c.flat c.modes tree (extension_model tree resolved)

  -- values that are a trace of the extension and reach the event are cut to an extended trace that does
  values_replayed : (name : Text) (tree : Tree FlatLeaf) (values : List (List Value)) (said now : Option (List ℕ)) → IsTopTree c e tree → HoldsTrace files name c.flat values → IsReaching c.flat tree values →
      now ≡ said_more said (replay_text c values) → IsReplayed files said now model faults name word
  values_replayed name tree values said now resolved held reaching line =
      let cut : (moments : List Moment) × IsFlatCut c.program c.instructions c.flat values moments =
      flat_traces_cut c.program c.instructions c.faults e c.flat c.modes tree (extension_model tree resolved) values reaching.is_trace in
      let same = same_traces tree resolved in
      record {
        c = c;
        event = e;
        moments = cut.0;
        failed = failed_set c.flat c.modes values;
        given = record { holds = holds; is_event = event; values = values; has_trace = held; cut = cut.1 };
        shows = record {
          is_one = same.traces values cut.0 cut.1 reaching.is_trace;
          reaching = (same.reaching values cut.0 cut.1).0 reaching.reaches;
          exactly = λ i.
              let both : HasFailedNumber c.flat c.modes values i ↔ HasFailedFault c.faults cut.0 i = same.failed values cut.0 cut.1 i in
              let flat = failed_exactly c.flat c.modes values i in
              ((λ h. flat.0 (both.1 h)), (λ h. both.0 (flat.1 h)));
        };
        rises = where_rising (λ f. stands_in_some c.flat f values) 1 c.modes;
        has_said = line;
      }

  -- and values that are cut to an extended trace which reaches the event are one of the extension that does
  moments_reach : (tree : Tree FlatLeaf) (values : List (List Value)) (moments : List Moment) → IsTopTree c e tree → IsFlatCut c.program c.instructions c.flat values moments →
      IsExtended c.program c.instructions moments → Reaches c.program e moments → IsReaching c.flat tree values
  moments_reach tree values moments resolved cut is_trace reaches =
      let vs : List Valuation = cut.0 in
      let woven_trace : IsTrace (extension_of c) vs = ((woven_extends c.program c.instructions holds.is_case.taken.weavable).traces vs moments cut.2).1 is_trace in
      let flat : IsFlatTrace c.flat (map (values_by_number c.flat) vs) = (traces_are (extension_of c) c.flat holds.is_case.within.accepted holds.is_case.is_flat.is vs).0 woven_trace in
      record { is_trace = subst (IsFlatTrace c.flat) cut.1 flat; reaches = ((same_traces tree resolved).reaching values moments cut).1 reaches }

-- what a replay that is done came to
module _ (files : List NamedFile) (model faults name word : Text) (s : Status) (after : Option (List NamedFile)) (said now : Option (List ℕ)) (done : s ≡ status.Done) where
  trace_replayed : (c : Case) (e : Formula) (tree : Tree FlatLeaf) (o : Outcome) → HoldsCase files model faults c → IsTopWord c.program word e → IsTopTree c e tree → TraceComesTo files c tree name o →
      IsDelivered o s (Some files) after said now → IsReplayed files said now model faults name word × (after ≡ Some files)
  trace_replayed c e tree o holds event resolved (refuses_trace r bad) stands = absurd (never_done r (sym done ∙ stands.0))
  trace_replayed c e tree o holds event resolved (refuses_moment moments r held bad) stands = absurd (never_done r (sym done ∙ stands.0))
  trace_replayed c e tree o holds event resolved (is_reached values held reaching) stands =
      (values_replayed files model faults c holds word e event name tree values said now resolved held reaching stands.2, stands.1)

  comes_replayed : (o : Outcome) → ReplayComesTo files model faults name word o → IsDelivered o s (Some files) after said now → IsReplayed files said now model faults name word × (after ≡ Some files)
  comes_replayed o (refuses_its_model r bad) stands = absurd (never_done r (sym done ∙ stands.0))
  comes_replayed o (refuses_its_faults p r holds bad) stands = absurd (never_done r (sym done ∙ stands.0))
  comes_replayed o (refuses_its_top c fault holds bad) stands = absurd (never_done (refusal.Top fault) (sym done ∙ stands.0))
  comes_replayed o (reads_its_trace c e tree o' holds event resolved comes) stands = trace_replayed c e tree o' holds event resolved comes stands

  means_replayed : (words : List Text) (o : Outcome) → Means files words o → AsksToReplay words model faults name word → IsDelivered o s (Some files) after said now →
      IsReplayed files said now model faults name word × (after ≡ Some files)
  means_replayed words o (refuses_words f refused) asks stands = absurd (refused_not_asked words f (replay model faults name word) refused asks)
  means_replayed words o (asked c o' named comes) asks stands =
      comes_replayed o' (subst (λ d. CommandComesTo files d o') (one_command words c (replay model faults name word) named asks) comes) stands

-- a run that answers that it is done has replayed the trace
pub done_replays : (told after : Option (List NamedFile)) (said now : Option (List ℕ)) (words : List Text) (s : Status) (model faults trace top : Text) →
    (IsAnswer s → IfSome told (λ files. HasAnswered files words s told after said now)) → s ≡ status.Done → AsksToReplay words model faults trace top →
    IfSome told (λ files. IsReplayed files said now model faults trace top × (after ≡ told))
done_replays None after said now words s model faults trace top answered done asks = tt
done_replays (Some files) after said now words s model faults trace top answered done asks =
    let answer = answered (subst IsAnswer (sym done) tt) in
    means_replayed files model faults trace top s after said now done words answer.outcome answer.means asks answer.delivered

-- what the words and files of a trace that reaches come to
means_reaching : (files : List NamedFile) (words : List Text) (model faults trace top : Text) → AsksToReplay words model faults trace top → HoldsReaching files model faults trace top →
    (text : Text) × Means files words (says text)
means_reaching files words model faults trace top asks given =
    let c = given.c in
    let has = given.given in
    let tree : (tree : Tree FlatLeaf) × IsTopTree c given.event tree = event_tree files model faults c has.holds top given.event has.is_event in
    let reaching : IsReaching c.flat tree.0 has.values =
    moments_reach files model faults c has.holds top given.event has.is_event tree.0 has.values given.moments tree.1 has.cut given.is_trace given.reaches in (
      replay_text c has.values,
      asked (replay model faults trace top) (says (replay_text c has.values)) asks
          (reads_its_trace c given.event tree.0 (says (replay_text c has.values)) has.holds has.is_event tree.1 (is_reached has.values has.has_trace reaching)),
    )

-- a trace that reaches the event is refused for nothing
pub reaching_is_done : (told after : Option (List NamedFile)) (said now : Option (List ℕ)) (words : List Text) (s : Status) (model faults trace top : Text) →
    (IsAnswer s → IfSome told (λ files. HasAnswered files words s told after said now)) → IsAnswer s → AsksToReplay words model faults trace top →
    IfSome told (λ files. HoldsReaching files model faults trace top → s ≡ status.Done)
reaching_is_done None after said now words s model faults trace top answered answer asks = tt
reaching_is_done (Some files) after said now words s model faults trace top answered answer asks = λ given.
    let has = answered answer in
    let means : (text : Text) × Means files words (says text) = means_reaching files words model faults trace top asks given in
    (subst (λ o. IsDelivered o s (Some files) after said now) (one_outcome files words has.outcome (says means.0) has.means means.1) has.delivered).0
