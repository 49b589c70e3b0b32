-- What is refused where causes are searched or checked, in the order of the work.
use Rattle.std.specs.Prelude.{◌≡◌, ◌⊎◌, ◌<◌, ℕ, List, None, length}
use Rattle.base_values.specs.declared.limits.TheConstants.{MOST_FILE_BYTES}
use Rattle.base_files.specs.declared.files.NamedFile.{NamedFile}
use Rattle.smv_language.specs.Language.{Tree, Text, Formula, ProgramTree, Value, FlatLeaf, FlatModel}
use Rattle.smv_flat_laws.specs.FlatTrace.{IsFlatTrace}
use Rattle.smv_flat_laws.specs.History.{Mode, with_history}
use Rattle.sat_encoding_laws.specs.FlatTraces.{ReachesTop, HasFailedNumber}
use Rattle.smv_type_laws.specs.ExpressionKinds.{too_large}
use Rattle.smv_type_laws.specs.Models.{IsTyped, IsFault}
use Rattle.smv_expression_reader.specs.declared.fault.ParseFault.{ParseFault}
use Rattle.smv_expression_reader.specs.Stops.{FaultMeans}
use Rattle.fault_weave.specs.Faults.{Fault}
use Rattle.cut_text_laws.specs.TraceOfText.{GivesTrace}
use Rattle.cert_laws.specs.Certificate.{Certificate}
use Rattle.cert_laws.specs.Acceptance.{Rule, number_of, IsObjection}
use Rattle.cert_laws.specs.Subject.{subject_of}
use Rattle.fault_cause_laws.specs.Causes.{CommonCause}
use Rattle.fault_cause_laws.specs.CauseRules.{CauseRule, no_such_fault, double_cause, double_strike, empty_window, too_wide, too_many}
use Rattle.fault_cause_laws.specs.CauseRules.{name_taken}
use Rattle.fault_cause_laws.specs.StagedModel.{with_causes, events_of}
use Rattle.fault_causes_reader.specs.declared.fault.CauseFault.{CauseFault}
use Rattle.fault_causes_reader.specs.declared.fault.CauseFault.TheVariants as cause_fault
use Rattle.fault_causes_reader.specs.BrokenRules.{rule_of}
use Rattle.fault_causes_reader.specs.CauseStages.{IsCauses}
use Rattle.fault_causes_reader.specs.CausesFile.{AreRead, BreakRule}
use Rattle.verb_loading.specs.declared.status.InputFault.{InputFault}
use Rattle.verb_loading.specs.declared.status.Objection.TheVariants as objection
use Rattle.verb_loading.specs.declared.status.Refusal.{Refusal}
use Rattle.verb_loading.specs.declared.status.Refusal.TheVariants as refusal
use Rattle.verb_loading.specs.declared.wrong.Wrong.TheVariants as wrong
use Rattle.verb_loading.specs.Wrongs.{parse_wrong, kinds_fault}
use Rattle.verb_loading.specs.declared.input.Input.TheVariants as input
use Rattle.verb_loading.specs.Inputs.{stop_at, IsRefusedFile, RefusesModel, HoldsModel, RefusesFaults}
use Rattle.verb_loading.specs.Cases.{Case, extension_of, HoldsCase, IsTopWord, IsWrongWord}
use Rattle.verb_loading.specs.Inputs.{HasAtMost}
use Rattle.verb_loading.specs.Tasks.{IsTopTree}
use Rattle.cert_file.specs.CertificateFiles.{RefusesCertificate, HoldsCertificate}
use Rattle.verb_loading.specs.declared.status.Part.TheVariants as part
use Rattle.verb_loading.specs.declared.input.Stop.{Stop}
use Rattle.verb_loading.specs.declared.input.Stop.TheVariants as stop
use Rattle.verb_causes.specs.Causes.{HasCauses}

-- the rules of causes, by their numbers
abbrev pub cause_number : CauseRule → ℕ
cause_number no_such_fault = 1
cause_number double_cause = 2
cause_number double_strike = 3
cause_number empty_window = 4
cause_number too_wide = 5
cause_number too_many = 6
cause_number name_taken = 7

-- a rule of causes is broken at the cause of this number, or for 0 after all of them
abbrev pub broken_cause : CauseRule → ℕ → InputFault
broken_cause rule number = record { part = part.Cause; number = cause_number rule; place = number }

-- the end of the work where bytes are no causes
abbrev pub stop_of_causes : CauseFault → Stop
stop_of_causes (cause_fault.Parse fault) = stop_at input.Causes (parse_wrong fault)
stop_of_causes (cause_fault.Broken rule number) = stop.Refused (refusal.Causes (broken_cause (rule_of rule) number))
stop_of_causes cause_fault.OutOfMemory = stop.Memory

-- the staged model passes no limit, with the history of its events and without
pub record KeepsLimits (m : FlatModel) (fs : List Mode) (cs : List CommonCause) : Type 0 where
  pub whole : IsTyped (with_history (with_causes m fs cs) (events_of m fs cs))
  pub typed : IsTyped (with_causes m fs cs)

-- It passes that of size with the history of its events, or else without. No other rule of kinds can be broken where the model breaks
-- none, so that the limit's rule is told, at place 0.
pub data BreaksStaged (m : FlatModel) (fs : List Mode) (cs : List CommonCause) (fault : InputFault) : Type 0 where
  whole_breaks : IsFault (with_history (with_causes m fs cs) (events_of m fs cs)) too_large 0 → fault ≡ kinds_fault too_large 0 →
      BreaksStaged m fs cs fault
  model_breaks : IsTyped (with_history (with_causes m fs cs) (events_of m fs cs)) → IsFault (with_causes m fs cs) too_large 0 →
      fault ≡ kinds_fault too_large 0 → BreaksStaged m fs cs fault

-- What is wrong with the bytes of causes, for faults of an extension and its program, and for its flat model with the modes of its
-- faults: they spell no causes; or the first rule is told that a cause breaks, with the cause's number; or the staged model passes a
-- limit.
pub data IsWrongCauses (faults : List Fault) (w : ProgramTree) (m : FlatModel) (fs : List Mode) (bytes : List ℕ) (told : InputFault) : Type
    0 where
  not_spelled : (f : ParseFault) (fault : InputFault) → FaultMeans IsCauses ⊥ bytes f → wrong.Refused fault ≡ parse_wrong f →
      told ≡ fault → IsWrongCauses faults w m fs bytes told
  rule_broken : (rule : CauseRule) (number : ℕ) → BreakRule faults w bytes rule number → told ≡ broken_cause rule number →
      IsWrongCauses faults w m fs bytes told
  past_limit : (cs : List CommonCause) (fault : InputFault) → AreRead faults w bytes cs → BreaksStaged m fs cs fault → told ≡ fault →
      IsWrongCauses faults w m fs bytes told

-- the bytes of causes are refused for what is wrong with them
abbrev pub RefusesBytes : List Fault → ProgramTree → FlatModel → List Mode → List ℕ → Refusal → Type 0
RefusesBytes faults w m fs bytes r = (told : InputFault) × (r ≡ refusal.Causes told) × IsWrongCauses faults w m fs bytes told

-- the file of causes is refused, or its bytes
pub data RefusesCauses (files : List NamedFile) (name : Text) (faults : List Fault) (w : ProgramTree) (m : FlatModel) (fs : List Mode)
    (r : Refusal) : Type 0 where
  causes_file : (told : InputFault) → r ≡ refusal.Causes told → IsRefusedFile files name told →
      RefusesCauses files name faults w m fs r
  causes_bytes : (bytes : List ℕ) → HasAtMost MOST_FILE_BYTES files name bytes → RefusesBytes faults w m fs bytes r →
      RefusesCauses files name faults w m fs r

-- The model is refused; or it holds, and the instructions are; or these hold too, and the causes are; or the causes hold and their
-- staged model passes no limit, and the top event is refused.
pub data RefusesStaged (files : List NamedFile) (model faults causes top : Text) (r : Refusal) : Type 0 where
  at_model : RefusesModel files model r → RefusesStaged files model faults causes top r
  at_faults : (p : ProgramTree) → HoldsModel files model p → RefusesFaults files faults p r → RefusesStaged files model faults causes top r
  at_causes : (c : Case) → HoldsCase files model faults c → RefusesCauses files causes c.faults (extension_of c) c.flat c.modes r →
      RefusesStaged files model faults causes top r
  at_top : (c : Case) (cs : List CommonCause) (fault : InputFault) → r ≡ (refusal.Top fault) → HoldsCase files model faults c →
      HasCauses files causes c cs →
      KeepsLimits c.flat c.modes cs → IsWrongWord c.program top fault → RefusesStaged files model faults causes top r

-- the files hold a case and causes of it whose staged model passes no limit, and the word spells an event of the case: nothing is to
-- be refused
pub record HoldsCaused (files : List NamedFile) (model faults causes top : Text) : Type 0 where
  pub c : Case
  pub cs : List CommonCause
  pub event : Formula
  pub holds : HoldsCase files model faults c
  pub has_causes : HasCauses files causes c cs
  pub keeps : KeepsLimits c.flat c.modes cs
  pub is_event : IsTopWord c.program top event

-- the certificate breaks a rule over a model with its events and a top event: the first line where one is broken, and the first rule
-- there, are told
pub data BreaksLine (m : FlatModel) (es : List Mode) (tree : Tree FlatLeaf) (a : Certificate) (r : Refusal) : Type 0 where
  at_line : (line : ℕ) (rule : Rule) → r ≡ (refusal.NotAccepted (objection.Line line (number_of rule))) →
      IsObjection (List (List Value)) (GivesTrace m) (IsFlatTrace m) (ReachesTop m tree) (HasFailedNumber m es)
      (subject_of (with_history m es) m es tree) a line rule → BreaksLine m es tree a r

-- the file of a certificate is refused, its text, or a line
pub data RefusesJudged (files : List NamedFile) (m : FlatModel) (es : List Mode) (tree : Tree FlatLeaf) (name : Text) (r : Refusal) : Type
    0 where
  no_certificate : RefusesCertificate files name r → RefusesJudged files m es tree name r
  not_accepted : (a : Certificate) → HoldsCertificate files name a → BreaksLine m es tree a r → RefusesJudged files m es tree name r

-- The model, the instructions, the causes or the top event is refused; or these hold and the staged model passes no limit, and the
-- certificate is refused.
pub data RefusesCauseCheck (files : List NamedFile) (model faults causes top cert : Text) (r : Refusal) : Type 0 where
  at_staged : RefusesStaged files model faults causes top r → RefusesCauseCheck files model faults causes top cert r
  at_certificate : (c : Case) (cs : List CommonCause) (e : Formula) (tree : Tree FlatLeaf) → HoldsCase files model faults c →
      HasCauses files causes c cs → KeepsLimits c.flat c.modes cs →
      IsTopWord c.program top e → IsTopTree c e tree →
      RefusesJudged files (with_causes c.flat c.modes cs) (events_of c.flat c.modes cs) tree cert r →
      RefusesCauseCheck files model faults causes top cert r
