-- What common causes come to: a case with causes in memory, and what its search and its certificates are about.
use Rattle.std.specs.Prelude.{◌≡◌, ◌⊎◌, ◌++◌, ℕ, List, [], ◌∷◌, IfSome, codes, map, length}
use Rattle.base_values.specs.declared.limits.TheConstants.{MOST_FILE_BYTES}
use Rattle.base_files.specs.declared.files.NamedFile.{NamedFile}
use Rattle.base_files.specs.Desk.{said_more, SaysPrefix}
use Rattle.smv_language.specs.Language.{Tree, Text, Path, Formula, ProgramTree, program_tree, Value, model_tree, flat_tree, name_of_fault}
use Rattle.smv_language.specs.Language.{FlatLeaf, FlatModel}
use Rattle.smv_flat_laws.specs.FaultModes.{mode_of}
use Rattle.smv_flat_laws.specs.FlatTrace.{IsFlatTrace}
use Rattle.smv_flat_laws.specs.History.{Mode, with_history}
use Rattle.smv_language.specs.declared.model.Fault.{Fault as Event}
use Rattle.sat_encoding_laws.specs.FlatTraces.{ReachesTop, HasFailedNumber}
use Rattle.smv_type_laws.specs.Models.{IsTyped}
use Rattle.fault_weave.specs.Faults.{Fault}
use Rattle.fault_extend.specs.WovenFaults.{fault_tree}
use Rattle.cut_text_laws.specs.TraceOfText.{GivesTrace}
use Rattle.cert_laws.specs.Certificate.{Certificate}
use Rattle.cert_laws.specs.Acceptance.{Rule, IsObjection}
use Rattle.cert_laws.specs.Subject.{subject_of}
use Rattle.cut_search.specs.declared.answer.Analysis.{Analysis as Searched}
use Rattle.cut_report_laws.specs.SearchAnswer.{ending_of}
use Rattle.cut_text_laws.specs.AnalysisText.{size_line, analysis_text}
use Rattle.cut_report.specs.AnalysisView.{told_analysis}
use Rattle.cut_text_laws.specs.Analysis.{told_ending}
use Rattle.cut_report.specs.FaultText.{faults_text}
use Rattle.smv_type_laws.specs.Costs.{state_bits}
use Rattle.fault_cause_laws.specs.Causes.{CommonCause}
use Rattle.fault_cause_laws.specs.CauseRules.{fault_path}
use Rattle.fault_cause_laws.specs.StagedModel.{with_causes, events_of}
use Rattle.fault_staging.specs.CauseOf.{cause_of}
use Rattle.fault_causes_reader.specs.CausesFile.{AreRead}
use Rattle.cut_reach_laws.specs.CausedLaws.{AreNamed}
use Rattle.cut_reach_laws.specs.CausedAnalyses.{CertifiesCauses, IsCausedAnalysis}
use Rattle.verb_loading.specs.declared.loaded.LoadedCase.{LoadedCase}
use Rattle.verb_loading.specs.Cases.{Case, extension_of, HoldsCase, IsTopWord}
use Rattle.verb_loading.specs.Inputs.{HasAtMost}
use Rattle.verb_loading.specs.LoadedCases.{IsLoaded}
use Rattle.verb_loading.specs.Models.{IsLawful}
use Rattle.verb_loading.specs.LoadedEvents.{case_in, IsEvent}
use Rattle.cut_model_search.specs.Searches.{IsSearched, HasCertificate}
use Rattle.verb_loading.specs.CaseAnswers.{told_maybe, Told, Said}
use Rattle.cert_file.specs.CertificateFiles.{HoldsCertificate}
use Rattle.verb_loading.specs.declared.status.Part.TheVariants as part
use Rattle.verb_causes.specs.declared.staged.CausesCase.{CausesCase}
use Rattle.verb_causes.specs.declared.staged.StagedEvent.{StagedEvent}
use Rattle.cert_file.specs.declared.conclusion.Conclusion.{Conclusion}
use Rattle.cert_file.specs.Conclusions.{ConcludesInPart}
use Rattle.verb_loading.specs.declared.status.Status.{Status}
use Rattle.verb_loading.specs.Statuses.{ended_with}

-- the faults of what was loaded, as modes of its flat model
abbrev pub modes_in : LoadedCase → List Mode
modes_in case = map mode_of case.limited.faults

-- the flat model of what was loaded
abbrev pub flat_in : LoadedCase → FlatModel
flat_in case = model_tree case.limited.typed.model

-- the faults of what was loaded
abbrev pub faults_in : LoadedCase → List Fault
faults_in case = map fault_tree case.limited.woven.faults

-- the woven program of what was loaded
abbrev pub extension_in : LoadedCase → ProgramTree
extension_in case = program_tree case.limited.woven.program

-- some lawful program has this extension
abbrev pub IsSomeCase : LoadedCase → Type 0
IsSomeCase case = (p : ProgramTree) × IsLoaded p case × ((flat : FlatModel) × IsLawful p flat)

-- the bytes spell causes that break no rule of the extension, and these are they
abbrev pub AreCausesOf : LoadedCase → List ℕ → List CommonCause → Type 0
AreCausesOf case bytes causes = AreRead (faults_in case) (extension_in case) bytes causes

-- the file has bytes that spell causes which break no rule of these faults of a woven program, and these are they
pub record HoldsCauses (files : List NamedFile) (name : Text) (faults : List Fault) (w : ProgramTree) (causes : List CommonCause) : Type 0
  where
    pub bytes : List ℕ
    pub has : HasAtMost MOST_FILE_BYTES files name bytes
    pub are : AreRead faults w bytes causes

-- the file has causes of the case
abbrev pub HasCauses : List NamedFile → Text → Case → List CommonCause → Type 0
HasCauses files name c causes = HoldsCauses files name c.faults (extension_of c) causes

-- The model with the causes of what was loaded, which keeps its names apart, and with the history of its events: both are typed.
pub record IsStagedOf (case : LoadedCase) (causes : List CommonCause) (staged kept : FlatModel) (es : List Mode) : Type 0 where
  pub names : AreNamed (flat_in case) (modes_in case) causes
  pub model : staged ≡ with_causes (flat_in case) (modes_in case) causes
  pub events : es ≡ events_of (flat_in case) (modes_in case) causes
  pub full : kept ≡ with_history staged es
  pub typed : IsTyped staged
  pub whole : IsTyped kept

-- the name by which a cause is told
abbrev pub cause_path : CommonCause → Path
cause_path c = c.name ∷ []

-- events are told by the names of the faults, in their order, and then by those of the causes
abbrev pub AreToldEvents : List Fault → List CommonCause → List Event → Type 0
AreToldEvents faults causes events = map name_of_fault events ≡ map fault_path faults ++ map cause_path causes

-- the extension in memory with its causes, and its events by their names
pub record IsStagedCase (case : LoadedCase) (l : CausesCase) : Type 0 where
  pub staged : IsStagedOf case (map cause_of l.causes) (model_tree l.typed.model) (model_tree l.full.model) (map mode_of l.events)
  pub told : AreToldEvents (faults_in case) (map cause_of l.causes) l.events

-- the causes of what was loaded
abbrev pub causes_in : StagedEvent → List CommonCause
causes_in l = map cause_of l.causes

-- the staged model of what was loaded
abbrev pub staged_in : StagedEvent → FlatModel
staged_in l = model_tree l.typed.model

-- the events of the staged model
abbrev pub events_in : StagedEvent → List Mode
events_in l = map mode_of l.events

-- what was loaded is a case with a top event that its word spells, and is staged for its causes
pub record IsStagedEvent (l : StagedEvent) : Type 0 where
  pub event : IsEvent l.word.now l.loaded
  pub staged : IsStagedOf l.loaded.case (causes_in l) (staged_in l) (model_tree l.full.model) (events_in l)
  pub told : AreToldEvents (faults_in l.loaded.case) (causes_in l) l.events

-- no line of the certificate breaks a rule over a model with its events and a top event
abbrev pub BreaksNoLine : FlatModel → List Mode → Tree FlatLeaf → Certificate → Type 0
BreaksNoLine m es tree a =
    (line : ℕ) (rule : Rule) →
    IsObjection (List (List Value)) (GivesTrace m) (IsFlatTrace m) (ReachesTop m tree) (HasFailedNumber m es)
    (subject_of (with_history m es) m es tree) a line rule → ⊥

-- The certificate shows its sets of events for all caused traces of the case, for the top event that the word spells, and no line of
-- it breaks a rule.
pub record CertifiesStaged (l : StagedEvent) (certificate : Certificate) : Type 0 where
  pub event : Formula
  pub is_event : IsTopWord (case_in l.loaded).program l.word.now event
  pub shows : CertifiesCauses (case_in l.loaded).program (case_in l.loaded).instructions (case_in l.loaded).faults event
      (case_in l.loaded).flat (case_in l.loaded).modes (causes_in l) certificate
  pub unbroken : BreaksNoLine (staged_in l) (events_in l) (flat_tree l.loaded.top) certificate

-- the file holds a certificate that shows its sets for all caused traces, and this says that it is accepted
pub record AcceptsStaged (files : List NamedFile) (l : StagedEvent) (name report : Text) : Type 0 where
  pub certificate : Certificate
  pub has_certificate : HoldsCertificate files name certificate
  pub certifies : CertifiesStaged l certificate
  pub is : report ≡ codes "accepted\n" ++ size_line certificate.size (length (events_in l))

-- the files hold a case and causes of it, the word spells a top event, and these were loaded
pub record HoldsStaged (files : List NamedFile) (model faults causes top : Text) (l : StagedEvent) : Type 0 where
  pub holds : HoldsCase files model faults (case_in l.loaded)
  pub has_causes : HasCauses files causes (case_in l.loaded) (causes_in l)
  pub is_word : l.word.now ≡ top
  pub staged : IsStagedEvent l

-- What is to be said of the files of a check: they hold a case, causes of it and a certificate, and the word spells a top event. The
-- certificate shows its sets of events for all caused traces.
pub record AcceptsCauses (files : List NamedFile) (model faults causes top cert report : Text) : Type 0 where
  pub loaded : StagedEvent
  pub holds : HoldsStaged files model faults causes top loaded
  pub accepts : AcceptsStaged files loaded cert report

-- so it was said
pub record HasCheckedCauses (files : List NamedFile) (model faults causes top cert : Text) (said now : Said) : Type 0 where
  pub report : Text
  pub accepts : AcceptsCauses files model faults causes top cert report
  pub reported : now ≡ said_more said report

-- or a part of it
pub record ChecksCausesInPart (files : List NamedFile) (model faults causes top cert : Text) (said now : Said) : Type 0 where
  pub report : Text
  pub accepts : AcceptsCauses files model faults causes top cert report
  pub in_part : SaysPrefix said now report

-- however a check ended, nothing was said, or that
abbrev pub LeavesCheck : Text → Text → Text → Text → Text → Told → Said → Said → Type 0
LeavesCheck model faults causes top cert before said now = (now ≡ said)
    ⊎ IfSome before (λ files. ChecksCausesInPart files model faults causes top cert said now)

-- What a search of the staged model found: an answer with as many events in a set as there are, which is right for caused traces; its
-- report; and for a complete one a certificate.
pub record IsCausesFinding (l : StagedEvent) (depth : ℕ) (f : Conclusion) : Type 0 where
  pub event : Formula
  pub is_event : IsTopWord (case_in l.loaded).program l.word.now event
  pub analysis : Searched
  pub searched : IsSearched (staged_in l) (events_in l) (flat_tree l.loaded.top) depth (length (events_in l)) analysis
  pub right : IsCausedAnalysis (case_in l.loaded).program (case_in l.loaded).instructions (case_in l.loaded).faults event
      (case_in l.loaded).flat (case_in l.loaded).modes (causes_in l) (length (events_in l)) analysis
  pub ends : told_ending f.ending ≡ ending_of analysis.end
  pub certified : HasCertificate (staged_in l) (events_in l) (flat_tree l.loaded.top) l.typed.model.symbols analysis analysis.end f.cert
  pub reported : f.report ≡
      analysis_text (faults_text (map name_of_fault l.events)) (staged_in l) (state_bits (model_tree l.full.model)) (length l.events)
      analysis.size
      (told_analysis l.typed.model.symbols analysis.sets analysis.traces analysis.first f.ending)

-- The files hold a case and causes of it, and the word spells a top event: this was found of them.
pub record FindsCauses (files : List NamedFile) (model faults causes top : Text) (depth : ℕ) (f : Conclusion) : Type 0 where
  pub loaded : StagedEvent
  pub holds : HoldsStaged files model faults causes top loaded
  pub finding : IsCausesFinding loaded depth f

-- It was written and said.
pub record HasFoundCauses (files : List NamedFile) (model faults causes top cert : Text) (depth : ℕ) (s : Status) (before after : Told)
    (said now : Said) : Type 0 where
  pub found : Conclusion
  pub finds : FindsCauses files model faults causes top depth found
  pub ends : s ≡ ended_with (told_ending found.ending)
  pub written : after ≡ told_maybe before cert found.cert
  pub reported : now ≡ said_more said found.report

-- a part of the certificate was written and nothing said, or the whole, and a part of the report said
pub record FindsCausesInPart (files : List NamedFile) (model faults causes top cert : Text) (depth : ℕ) (before after : Told)
    (said now : Said) : Type 0 where
  pub found : Conclusion
  pub finds : FindsCauses files model faults causes top depth found
  pub in_part : ConcludesInPart cert found before after said now

-- and however a run ended, nothing was done, or that stands
abbrev pub LeavesCauses : Text → Text → Text → Text → Text → ℕ → Told → Told → Said → Said → Type 0
LeavesCauses model faults causes top cert depth before after said now =
    ((after ≡ before) × (now ≡ said))
    ⊎ IfSome before (λ files. FindsCausesInPart files model faults causes top cert depth before after said now)
