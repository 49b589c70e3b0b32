-- What the file of a trace comes to, and what a replay of it does.
use Rattle.std.specs.Prelude.{◌≡◌, ℕ, ◌++◌, List, [], ◌∷◌, Bool, if◌then◌else◌, codes, map}
use Rattle.base_files.specs.declared.files.NamedFile.{NamedFile}
use Rattle.smv_language.specs.Language.{Text, Tree, Value, FlatLeaf, FlatModel, model_tree, told_trace}
use Rattle.base_values.specs.declared.value.Value.{Value as Numbered}
use Rattle.base_values.specs.declared.limits.TheConstants.{MOST_TRACE_BYTES}
use Rattle.smv_flat_laws.specs.History.{Mode}
use Rattle.smv_evaluation.specs.Stops as stops
use Rattle.cut_text_laws.specs.TraceOfText.{BytesGive}
use Rattle.cut_text_laws.specs.TraceFaults.{TraceFault, wrong_line, missing_value, number_of, IsFirstFault}
use Rattle.cut_report.specs.declared.fault.TraceFault as read
use Rattle.cut_report.specs.declared.fault.TraceFault.TheVariants as fault
use Rattle.fault_weave.specs.Faults.{Fault}
use Rattle.verb_loading.specs.declared.status.InputFault.{InputFault}
use Rattle.verb_loading.specs.declared.status.Part.TheVariants as part
use Rattle.verb_loading.specs.declared.status.Why.{Why}
use Rattle.verb_loading.specs.declared.status.Why.TheVariants as why
use Rattle.verb_loading.specs.declared.status.Objection.TheVariants as objection
use Rattle.verb_loading.specs.declared.status.Refusal.{Refusal}
use Rattle.verb_loading.specs.declared.status.Refusal.TheVariants as refusal
use Rattle.verb_loading.specs.declared.input.Stop.{Stop}
use Rattle.verb_loading.specs.declared.input.Stop.TheVariants as stop
use Rattle.verb_loading.specs.Reports.{name_text}
use Rattle.verb_loading.specs.Inputs.{IsRefusedAbove, HasAtMost}
use Rattle.smv_language.specs.declared.model.FlatModel.{FlatModel as Model}
use Rattle.smv_language.specs.declared.model.Fault.{Fault as Numbering}
use Rattle.smv_flat_laws.specs.FaultModes.{mode_of}
use Rattle.smv_flat_laws.specs.FlatTrace.{stands_in_some}
use Rattle.fault_extend.specs.declared.faults.WovenFault.{WovenFault}
use Rattle.fault_extend.specs.WovenFaults.{fault_tree}

-- what is wrong first with the text of a trace, as it is told: its number, and the line from 1, or the moment from 0
abbrev pub text_fault : TraceFault → InputFault
text_fault (wrong_line f n) = record { part = part.Read; number = number_of f; place = n }
text_fault (missing_value k) = record { part = part.Read; number = 4; place = k }

-- the file of a trace is refused, or its text
pub data RefusesTrace (files : List NamedFile) (name : Text) (m : FlatModel) (r : Refusal) : Type 0 where
  trace_file : (fault : InputFault) → r ≡ refusal.NotAccepted (objection.Trace fault) → IsRefusedAbove MOST_TRACE_BYTES files name fault →
      RefusesTrace files name m r
  trace_bytes : (bytes : List ℕ) (f : TraceFault) → r ≡ refusal.NotAccepted (objection.Trace (text_fault f)) →
      HasAtMost MOST_TRACE_BYTES files name bytes → IsFirstFault m bytes f →
      RefusesTrace files name m r

-- the file holds a text that gives this trace
pub record HoldsTrace (files : List NamedFile) (name : Text) (m : FlatModel) (trace : List (List Value)) : Type 0 where
  pub bytes : List ℕ
  pub has : HasAtMost MOST_TRACE_BYTES files name bytes
  pub gives : BytesGive m bytes trace

-- the end of the work where this is wrong with the text of a trace, at a place
abbrev pub read_wrong : ℕ → ℕ → Stop
read_wrong number place = stop.Refused (refusal.NotAccepted (objection.Trace (record { part = part.Read; number = number; place = place })))

-- why the work can't go on where this is wrong with the text of a trace
abbrev pub stop_at_text : read.TraceFault → Stop
stop_at_text (fault.BadLine n) = read_wrong 1 n
stop_at_text (fault.UnknownName n) = read_wrong 2 n
stop_at_text (fault.Outside n) = read_wrong 3 n
stop_at_text (fault.MissingValue k) = read_wrong 4 k
stop_at_text (fault.Twice n) = read_wrong 5 n
stop_at_text fault.OutOfMemory = stop.Memory

-- why a moment is not accepted
abbrev pub reason_of : Why → stops.Why
reason_of why.First = stops.at_first
reason_of why.Step = stops.at_step
reason_of why.Top = stops.at_top

-- the moment of a number is the first that stops the trace from reaching the event
pub data RefusesMoment (m : FlatModel) (top : Tree FlatLeaf) (trace : List (List Value)) (r : Refusal) : Type 0 where
  at_moment : (i : ℕ) (w : Why) → r ≡ refusal.NotAccepted (objection.Moment i w) → stops.Stops m top trace i (reason_of w) →
      RefusesMoment m top trace r

-- the names of the faults whose modes pass the test, each after a space
abbrev pub names_where : (Mode → Bool) → List Fault → List Mode → Text
names_where test [] modes = []
names_where test (f ∷ faults) [] = []
names_where test (f ∷ faults) (mode ∷ modes) =
    if test mode then codes " " ++ (name_text f ++ names_where test faults modes) else names_where test faults modes

-- the names of the faults that a trace of a model in memory has failed, each after a space
abbrev pub failed_in : Model → List WovenFault → List Numbering → List (List Numbered) → Text
failed_in m woven faults trace =
    names_where (λ f. stands_in_some (model_tree m) f (told_trace m.symbols trace)) (map fault_tree woven) (map mode_of faults)
