-- What the file of a certificate holds, and what is wrong with it.
use Rattle.std.specs.Prelude.{◌≡◌, ℕ, List}
use Rattle.base_values.specs.declared.limits.TheConstants.{MOST_CERT_BYTES}
use Rattle.base_files.specs.declared.files.NamedFile.{NamedFile}
use Rattle.smv_language.specs.ProgramTree.{Text}
use Rattle.cert_laws.specs.Certificate.{Certificate}
use Rattle.cert_laws.specs.CertificateText.{SpellsCertificate, IsBadLine, EndsBefore}
use Rattle.verb_loading.specs.declared.status.InputFault.{InputFault}
use Rattle.verb_loading.specs.declared.status.Part.TheVariants as part
use Rattle.verb_loading.specs.declared.status.Objection.TheVariants as objection
use Rattle.verb_loading.specs.declared.status.Refusal.{Refusal}
use Rattle.verb_loading.specs.declared.status.Refusal.TheVariants as refusal
use Rattle.verb_loading.specs.Inputs.{IsRefusedAbove, HasAtMost}

-- what is told of a line of a certificate, from 1
abbrev pub text_fault : ℕ → ℕ → InputFault
text_fault number line = record { part = part.Read; number = number; place = line }

-- what is wrong first with bytes that spell no certificate, as it is told: a line, from 1, that is wrong or that is missing
pub data IsWrongText (bytes : List ℕ) (fault : InputFault) : Type 0 where
  a_bad_line : (n : ℕ) → fault ≡ text_fault 1 n → IsBadLine bytes n → IsWrongText bytes fault
  a_missing_line : (n : ℕ) → fault ≡ text_fault 2 n → EndsBefore bytes n → IsWrongText bytes fault

-- the file of a certificate is refused, or its text
pub data RefusesCertificate (files : List NamedFile) (name : Text) (r : Refusal) : Type 0 where
  certificate_file : (fault : InputFault) → r ≡ refusal.NotAccepted (objection.Cert fault) →
      IsRefusedAbove MOST_CERT_BYTES files name fault →
      RefusesCertificate files name r
  certificate_bytes : (bytes : List ℕ) (fault : InputFault) → r ≡ refusal.NotAccepted (objection.Cert fault) →
      HasAtMost MOST_CERT_BYTES files name bytes → IsWrongText bytes fault →
      RefusesCertificate files name r

-- the file holds a text that spells this certificate
pub record HoldsCertificate (files : List NamedFile) (name : Text) (a : Certificate) : Type 0 where
  pub bytes : List ℕ
  pub has : HasAtMost MOST_CERT_BYTES files name bytes
  pub spells : SpellsCertificate bytes a
