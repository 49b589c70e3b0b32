-- What a certificate comes to over a case, and what it shows where it is accepted.
use Rattle.std.specs.Prelude.{◌≡◌, ◌↔◌, ℕ, List}
use Rattle.base_files.specs.declared.files.NamedFile.{NamedFile}
use Rattle.base_files.specs.Desk.{said_more}
use Rattle.smv_language.specs.Language.{Tree, Text, Formula, Value, FlatLeaf}
use Rattle.smv_flat_laws.specs.FlatTrace.{IsFlatTrace}
use Rattle.sat_encoding_laws.specs.FlatTraces.{ReachesTop, HasFailedNumber}
use Rattle.fault_weave.specs.ExtensionTraces.{Moment, IsExtended, Reaches}
use Rattle.cut_right_laws.specs.Laws.{AreBoth}
use Rattle.cut_right_laws.specs.Right.{HasAtMost as HasFew, IsMinimalCutSet, IsListed}
use Rattle.cert_laws.specs.ExtendedTraces.{HasFailedFault, IsRightExtended}
use Rattle.cut_text_laws.specs.TraceOfText.{GivesTrace}
use Rattle.cert_laws.specs.Certificate.{Certificate}
use Rattle.cert_laws.specs.Acceptance.{Subject, Rule, number_of, IsObjection}
use Rattle.cert_laws.specs.Certification.{IsSubjectOf, IsCertified}
use Rattle.cert_laws.specs.Completeness.{GivesExtended}
use Rattle.cert_laws.specs.Subject.{subject_of}
use Rattle.verb_loading.specs.declared.event.LoadedEvent.{LoadedEvent}
use Rattle.verb_loading.specs.declared.status.Objection.TheVariants as objection
use Rattle.verb_loading.specs.declared.status.Refusal.{Refusal}
use Rattle.verb_loading.specs.declared.status.Refusal.TheVariants as refusal
use Rattle.verb_loading.specs.Cases.{Case, whole_of, HoldsCase, IsTopWord}
use Rattle.verb_loading.specs.Tasks.{IsTopTree}
use Rattle.verb_loading.specs.CaseAnswers.{Said}
use Rattle.verb_run.specs.AnswerTexts.{check_text}
use Rattle.verb_loading.specs.Events.{RefusesEvent}
use Rattle.verb_loading.specs.LoadedEvents.{IsEvent}
use Rattle.cert_file.specs.CertificateFiles.{RefusesCertificate, HoldsCertificate}

-- what is judged is about the case: the clause lists of its flat model with history, and those of its bad states for the event
abbrev pub subject_in : Case → Tree FlatLeaf → Subject
subject_in c tree = subject_of (whole_of c) c.flat c.modes tree

-- the certificate breaks a rule: the first line where one is broken, and the first rule there, are told
pub data RefusesLine (c : Case) (tree : Tree FlatLeaf) (a : Certificate) (r : Refusal) : Type 0 where
  at_line : (line : ℕ) (rule : Rule) → r ≡ refusal.NotAccepted (objection.Line line (number_of rule)) →
      IsObjection (List (List Value)) (GivesTrace c.flat) (IsFlatTrace c.flat) (ReachesTop c.flat tree) (HasFailedNumber c.flat c.modes)
      (subject_in c tree) a line rule → RefusesLine c tree a r

-- It is accepted, and the clause lists are those of the case: they encode the flat model with history, and its bad states.
pub record IsAcceptedFor (c : Case) (tree : Tree FlatLeaf) (a : Certificate) : Type 0 where
  pub is_subject : IsSubjectOf c.flat c.modes tree (subject_in c tree)
  pub certified : IsCertified c.flat c.modes tree (GivesTrace c.flat) (subject_in c tree) a

-- what the file of a certificate comes to over the case, where the event is this expression there: it is refused, its text, or a line
pub data CertRefuses (files : List NamedFile) (c : Case) (tree : Tree FlatLeaf) (name : Text) (r : Refusal) : Type 0 where
  no_certificate : RefusesCertificate files name r → CertRefuses files c tree name r
  not_accepted : (a : Certificate) → HoldsCertificate files name a → RefusesLine c tree a r → CertRefuses files c tree name r

-- or it is accepted, which is said with its size
pub record CertSays (files : List NamedFile) (c : Case) (tree : Tree FlatLeaf) (name report : Text) : Type 0 where
  pub certificate : Certificate
  pub holds : HoldsCertificate files name certificate
  pub accepted : IsAcceptedFor c tree certificate
  pub is : report ≡ check_text c certificate.size

-- What the files and the word of a check come to, in the order of the work: the model, the instructions or the top event is
-- refused, or these hold and the certificate is,
pub data CheckRefuses (files : List NamedFile) (model faults top cert : Text) (r : Refusal) : Type 0 where
  no_event : RefusesEvent files model faults top r → CheckRefuses files model faults top cert r
  its_certificate : (c : Case) (e : Formula) (tree : Tree FlatLeaf) → HoldsCase files model faults c → IsTopWord c.program top e →
      IsTopTree c e tree → CertRefuses files c tree cert r →
      CheckRefuses files model faults top cert r

-- or the certificate is accepted.
pub record CheckSays (files : List NamedFile) (model faults top cert report : Text) : Type 0 where
  pub c : Case
  pub event : Formula
  pub tree : Tree FlatLeaf
  pub holds : HoldsCase files model faults c
  pub is_event : IsTopWord c.program top event
  pub is_tree : IsTopTree c event tree
  pub says : CertSays files c tree cert report

-- The files hold a model, instructions and a certificate, the word is a top event of the model, and the certificate shows its sets:
-- its texts give extended traces; with any that they give, its sets are right for all extended traces, of every length, with its size;
-- and these are exactly the minimal cut sets of at most so many faults. So it was said.
pub record IsChecked (files : List NamedFile) (said now : Said) (model faults top cert : Text) : Type 0 where
  pub c : Case
  pub event : Formula
  pub holds : HoldsCase files model faults c
  pub is_event : IsTopWord c.program top event
  pub certificate : Certificate
  pub has_certificate : HoldsCertificate files cert certificate
  pub gives : (traces : List (List Moment))
      × AreBoth (GivesExtended (GivesTrace c.flat) c.program c.instructions c.flat) certificate.traces traces
  pub right : (traces : List (List Moment)) →
      AreBoth (GivesExtended (GivesTrace c.flat) c.program c.instructions c.flat) certificate.traces traces →
      IsRightExtended c.program c.instructions c.faults event certificate.size (IsExtended c.program c.instructions) certificate.sets traces
  pub minimal : (set : List ℕ) →
      (IsListed (List Moment) (IsExtended c.program c.instructions) (Reaches c.program event) (HasFailedFault c.faults) certificate.sets set
      ↔ (IsMinimalCutSet (List Moment) (IsExtended c.program c.instructions) (Reaches c.program event) (HasFailedFault c.faults) set
      × HasFew certificate.size set))
  pub has_said : now ≡ said_more said (check_text c certificate.size)

-- the event in memory is one that some word spells
pub record IsSomeEvent (l : LoadedEvent) : Type 0 where
  pub word : Text
  pub is_event : IsEvent word l
