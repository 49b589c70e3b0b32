-- From what is in memory to what a replay comes to.
use Rattle.std.proofs.Common.{◌≡◌, ℕ, ◌++◌, List, Option, Some, None, IfSome, sym, subst, ◌∙◌}
use Rattle.std.specs.Prelude.{codes, length, map}
use Rattle.std.proofs.lemmas.List.{length-map}
use Rattle.base_files.specs.declared.files.NamedFile.{NamedFile}
use Rattle.smv_language.specs.Language.{Text, ProgramTree, Tree, Value, model_tree, FlatLeaf, FlatModel, told_trace, told_moment}
use Rattle.base_values.specs.declared.value.Value.{Value as Numbered}
use Rattle.base_values.specs.declared.limits.TheConstants.{MOST_TRACE_BYTES}
use Rattle.smv_flat_laws.specs.FaultModes.{mode_of}
use Rattle.smv_flat_laws.specs.FlatTrace.{stands_in_some}
use Rattle.smv_evaluation.specs.Replay.{IsReaching}
use Rattle.smv_evaluation.specs.Stops.{Stops}
use Rattle.fault_extend.specs.WovenFaults.{fault_tree}
use Rattle.fault_extend.specs.NumberedFaults.{AreNumbered}
use Rattle.cut_report.specs.Faults.{IsFaultOf}
use Rattle.cut_report.specs.declared.fault.TraceFault as read
use Rattle.cut_report.specs.declared.fault.TraceFault.TheVariants as fault
use Rattle.cut_text_laws.specs.TraceOfText.{BytesGive}
use Rattle.cut_text_laws.specs.TraceFaults.{TraceFault, wrong_line, missing_value, bad_line, unknown_name, outside, twice, IsFirstFault}
use Rattle.verb_loading.specs.declared.loaded.LoadedCase.{LoadedCase}
use Rattle.verb_loading.specs.declared.status.InputFault.{InputFault}
use Rattle.verb_loading.specs.declared.status.Why.{Why}
use Rattle.verb_loading.specs.declared.status.Objection.TheVariants as objection
use Rattle.verb_loading.specs.declared.status.Refusal.{Refusal}
use Rattle.verb_loading.specs.declared.status.Refusal.TheVariants as refusal
use Rattle.verb_loading.specs.declared.input.Stop.TheVariants as stop
use Rattle.verb_loading.specs.Inputs.{IsRefusedAbove, HasAtMost}
use Rattle.verb_run.specs.AnswerTexts.{replay_text}
use Rattle.verb_loading.specs.LoadedCases.{case_of}
use Rattle.verb_run.specs.Replays.{text_fault, stop_at_text, RefusesTrace, trace_file, trace_bytes, HoldsTrace, reason_of, RefusesMoment, at_moment, names_where}
use Rattle.verb_run.specs.Runs.{refuses, says, TraceComesTo, refuses_trace, refuses_moment, is_reached}
use Rattle.verb_run.proofs.FailedLaws.{said_of_replay}
use Rattle.verb_loading.proofs.LoadedLaws.{same_counts}

-- The file of a trace.
pub refuses_trace_file : (told : Option (List NamedFile)) (name : Text) (m : FlatModel) (r : Refusal) (a : InputFault) → r ≡ refusal.NotAccepted (objection.Trace a) →
    IfSome told (λ files. IsRefusedAbove MOST_TRACE_BYTES files name a) → IfSome told (λ files. RefusesTrace files name m r)
refuses_trace_file None name m r a is refused = tt
refuses_trace_file (Some files) name m r a is refused = trace_file a is refused

module _ (told : Option (List NamedFile)) (name : Text) (m : FlatModel) (bytes : List ℕ) (has : IfSome told (λ files. HasAtMost MOST_TRACE_BYTES files name bytes)) where
  at_first_fault : (f : TraceFault) (r : Refusal) → r ≡ refusal.NotAccepted (objection.Trace (text_fault f)) → IsFirstFault m bytes f → IfSome told (λ files. RefusesTrace files name m r)
  at_first_fault f r is first = at_told told has
    where
      at_told : (t : Option (List NamedFile)) → IfSome t (λ files. HasAtMost MOST_TRACE_BYTES files name bytes) → IfSome t (λ files. RefusesTrace files name m r)
      at_told None has = tt
      at_told (Some files) has = trace_bytes bytes f is has first

  pub refuses_trace_text : (f : read.TraceFault) (r : Refusal) → stop.Refused r ≡ stop_at_text f → IsFaultOf m bytes f → IfSome told (λ files. RefusesTrace files name m r)
  refuses_trace_text (fault.BadLine n) r is first = let same : r ≡ refusal.NotAccepted (objection.Trace (text_fault (wrong_line bad_line n))) = cc in at_first_fault (wrong_line bad_line n) r same first
  refuses_trace_text (fault.UnknownName n) r is first = let same : r ≡ refusal.NotAccepted (objection.Trace (text_fault (wrong_line unknown_name n))) = cc in at_first_fault (wrong_line unknown_name n) r same first
  refuses_trace_text (fault.Outside n) r is first = let same : r ≡ refusal.NotAccepted (objection.Trace (text_fault (wrong_line outside n))) = cc in at_first_fault (wrong_line outside n) r same first
  refuses_trace_text (fault.MissingValue k) r is first = let same : r ≡ refusal.NotAccepted (objection.Trace (text_fault (missing_value k))) = cc in at_first_fault (missing_value k) r same first
  refuses_trace_text (fault.Twice n) r is first = let same : r ≡ refusal.NotAccepted (objection.Trace (text_fault (wrong_line twice n))) = cc in at_first_fault (wrong_line twice n) r same first
  refuses_trace_text fault.OutOfMemory r is first = cc

-- text that gives a trace
pub holds_trace : (told : Option (List NamedFile)) (name : Text) (m : FlatModel) (bytes : List ℕ) (trace : List (List Value)) → IfSome told (λ files. HasAtMost MOST_TRACE_BYTES files name bytes) →
    BytesGive m bytes trace → IfSome told (λ files. HoldsTrace files name m trace)
holds_trace None name m bytes trace has gives = tt
holds_trace (Some files) name m bytes trace has gives = record { bytes = bytes; has = has; gives = gives }

-- A trace that was read.
module _ (told : Option (List NamedFile)) (p : ProgramTree) (l : LoadedCase) (tree : Tree FlatLeaf) (name : Text) where
  pub trace_refused : (r : Refusal) → IfSome told (λ files. RefusesTrace files name (model_tree l.limited.typed.model) r) → IfSome told (λ files. TraceComesTo files (case_of p l) tree name (refuses r))
  trace_refused r bad = at_told told bad
    where
      at_told : (t : Option (List NamedFile)) → IfSome t (λ files. RefusesTrace files name (model_tree l.limited.typed.model) r) → IfSome t (λ files. TraceComesTo files (case_of p l) tree name (refuses r))
      at_told None bad = tt
      at_told (Some files) bad = refuses_trace r bad

  module _ (trace : List (List Numbered)) (holds : IfSome told (λ files. HoldsTrace files name (model_tree l.limited.typed.model) (told_trace l.limited.typed.model.symbols trace))) where
    pub moment_refused : (r : Refusal) → RefusesMoment (model_tree l.limited.typed.model) tree (told_trace l.limited.typed.model.symbols trace) r →
        IfSome told (λ files. TraceComesTo files (case_of p l) tree name (refuses r))
    moment_refused r bad = at_told told holds
      where
        at_told : (t : Option (List NamedFile)) → IfSome t (λ files. HoldsTrace files name (model_tree l.limited.typed.model) (told_trace l.limited.typed.model.symbols trace)) →
            IfSome t (λ files. TraceComesTo files (case_of p l) tree name (refuses r))
        at_told None h = tt
        at_told (Some files) h = refuses_moment (told_trace l.limited.typed.model.symbols trace) r h bad

    pub trace_reaches : (text : Text) → AreNumbered l.limited.typed.model l.limited.woven.faults l.limited.faults →
        IsReaching (model_tree l.limited.typed.model) tree (told_trace l.limited.typed.model.symbols trace) →
        text ≡ codes "reaches\nfailed" ++ (names_where (λ f. stands_in_some (model_tree l.limited.typed.model) f (told_trace l.limited.typed.model.symbols trace)) (map fault_tree l.limited.woven.faults) (map mode_of l.limited.faults) ++ codes "\n") →
        IfSome told (λ files. TraceComesTo files (case_of p l) tree name (says text))
    trace_reaches text numbered reaching is = at_told told holds
      where
        counts : length (map fault_tree l.limited.woven.faults) ≡ length (map mode_of l.limited.faults)
        counts = length-map l.limited.woven.faults fault_tree ∙ same_counts l.limited.typed.model l.limited.woven.faults l.limited.faults numbered ∙ sym (length-map l.limited.faults mode_of)

        whole : text ≡ replay_text (case_of p l) (told_trace l.limited.typed.model.symbols trace)
        whole = is ∙ said_of_replay (case_of p l) (told_trace l.limited.typed.model.symbols trace) counts

        at_told : (t : Option (List NamedFile)) → IfSome t (λ files. HoldsTrace files name (model_tree l.limited.typed.model) (told_trace l.limited.typed.model.symbols trace)) →
            IfSome t (λ files. TraceComesTo files (case_of p l) tree name (says text))
        at_told None h = tt
        at_told (Some files) h =
            subst (λ said. TraceComesTo files (case_of p l) tree name (says said)) (sym whole) (is_reached (told_trace l.limited.typed.model.symbols trace) h reaching)

-- A moment that is not accepted.
pub moment_told : (m : FlatModel) (top : Tree FlatLeaf) (trace : List (List Value)) (i : ℕ) (w : Why) (r : Refusal) → stop.Refused r ≡ stop.Refused (refusal.NotAccepted (objection.Moment i w)) →
    Stops m top trace i (reason_of w) → RefusesMoment m top trace r
moment_told m top trace i w r is stops = let same : r ≡ refusal.NotAccepted (objection.Moment i w) = cc in at_moment i w same stops

-- so many moments, named or not
pub as_many : (symbols : List Text) (trace : List (List Numbered)) → length (told_trace symbols trace) ≡ length trace
as_many symbols trace = length-map trace (told_moment symbols)
