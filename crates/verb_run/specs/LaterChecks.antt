-- What a later run comes to that checks the certificate which an earlier one has written.
use Rattle.std.specs.Prelude.{◌≡◌, ℕ, ◌≤◌, List, Option, Some, length}
use Rattle.base_values.specs.declared.limits.TheConstants.{MOST_CERT_BYTES}
use Rattle.base_files.specs.declared.files.NamedFile.{NamedFile}
use Rattle.base_files.specs.Files.{file_of}
use Rattle.smv_language.specs.ProgramTree.{Text}
use Rattle.verb_command_line.specs.Sets.{numbers_of}
use Rattle.fault_orders.specs.declared.Relation.{Relation}
use Rattle.verb_loading.specs.declared.status.Status.{Status}
use Rattle.verb_loading.specs.declared.status.Status.TheVariants as status
use Rattle.verb_loading.specs.CaseAnswers.{Told, Said}
use Rattle.verb_causes.specs.Causes.{HasFoundCauses}
use Rattle.verb_orders.specs.Orders.{claimed, claim_word, HasOrder}
use Rattle.verb_run.specs.Requests.{AsksToCheck, AsksToCheckCauses, AsksToCheckOrder}
use Rattle.verb_run.specs.Headline.{IsComplete}
use Rattle.verb_run.specs.Runs.{HasAnswered}

-- The files hold the model and the instructions that an earlier run was given, and the certificate that it has left, which is not
-- longer than one may be.
pub record KeepsCertificate (before after files : List NamedFile) (model faults cert other_model other_faults other_cert : Text) : Type 0
  where
    pub model_kept : file_of files other_model ≡ file_of before model
    pub faults_kept : file_of files other_faults ≡ file_of before faults
    pub cert_kept : file_of files other_cert ≡ file_of after cert
    pub within : (bytes : List ℕ) → file_of files other_cert ≡ Some bytes → length bytes ≤ MOST_CERT_BYTES

-- the run that answers has accepted
abbrev pub IsAcceptedBy : List NamedFile → List Text → Type 0
IsAcceptedBy files words = (s : Status) (later : Told) (said now : Said) → HasAnswered files words s (Some files) later said now →
    s ≡ status.Done

-- the certificate of a complete analysis is accepted
abbrev pub AnalysesAreAccepted : Type 0
AnalysesAreAccepted =
    (before after files : List NamedFile) (said now : Said) (model faults top extended cert other_model other_faults other_cert : Text)
    (size : Option ℕ) (words : List Text) →
    IsComplete before after said now model faults top extended cert size →
    KeepsCertificate before after files model faults cert other_model other_faults other_cert →
    AsksToCheck words other_model other_faults top other_cert → IsAcceptedBy files words

-- so is that of a complete search with common causes, where the files hold the causes too
abbrev pub CausesAreAccepted : Type 0
CausesAreAccepted =
    (before after files : List NamedFile) (said now : Said)
    (model faults file top cert other_model other_faults other_file other_cert : Text) (depth : ℕ) (words : List Text) →
    HasFoundCauses before model faults file top cert depth status.Done (Some before) (Some after) said now →
    KeepsCertificate before after files model faults cert other_model other_faults other_cert →
    file_of files other_file ≡ file_of before file → AsksToCheckCauses words other_model other_faults other_file top other_cert →
    IsAcceptedBy files words

-- and that of what is claimed of two faults, for all traces, by the word of the claim
abbrev pub OrdersAreAccepted : Type 0
OrdersAreAccepted =
    (before after files : List NamedFile) (said now : Said) (model faults top set cert other_model other_faults other_cert : Text)
    (first second depth : ℕ) (claim : Option Relation) (words : List Text) →
    (h : HasOrder before model faults top (numbers_of set) first second depth cert status.Done (Some before) (Some after) said now) →
    h.found.order ≡ claimed claim →
    KeepsCertificate before after files model faults cert other_model other_faults other_cert →
    AsksToCheckOrder words other_model other_faults top set first second (claim_word claim) other_cert →
    IsAcceptedBy files words
