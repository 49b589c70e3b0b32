-- From the bytes of the file of a certificate to what it holds, or its refusal.
use Rattle.std.proofs.Common.{arith, ◌≡◌, ◌<◌, ◌≤◌, ◌^◌, ℕ, List, Option, Some, None, IfSome, length}
use Rattle.base_values.specs.declared.limits.TheConstants.{MOST_CERT_BYTES}
use Rattle.base_files.specs.declared.files.NamedFile.{NamedFile}
use Rattle.smv_language.specs.ProgramTree.{Text}
use Rattle.cert_laws.specs.Certificate.{Certificate}
use Rattle.cert_laws.specs.CertificateText.{SpellsCertificate}
use Rattle.cert_check.specs.Fit.{IsCheckable, SpelledAreCheckable}
use Rattle.verb_loading.specs.declared.status.InputFault.{InputFault}
use Rattle.verb_loading.specs.declared.status.Objection.TheVariants as objection
use Rattle.verb_loading.specs.declared.status.Refusal.{Refusal}
use Rattle.verb_loading.specs.declared.status.Refusal.TheVariants as refusal
use Rattle.verb_loading.specs.Inputs.{IsRefusedAbove, HasAtMost}
use Rattle.cert_file.specs.CertificateFiles.{IsWrongText, RefusesCertificate, certificate_file, certificate_bytes, HoldsCertificate}

module _ (told : Option (List NamedFile)) (name : Text) where
  pub refuses_certificate_file : (r : Refusal) (a : InputFault) → r ≡ refusal.NotAccepted (objection.Cert a) → IfSome told (λ files. IsRefusedAbove MOST_CERT_BYTES files name a) →
      IfSome told (λ files. RefusesCertificate files name r)
  refuses_certificate_file r a is refused = at_told told refused
    where
      at_told : (t : Option (List NamedFile)) → IfSome t (λ files. IsRefusedAbove MOST_CERT_BYTES files name a) → IfSome t (λ files. RefusesCertificate files name r)
      at_told None refused = tt
      at_told (Some files) refused = certificate_file a is refused

  module _ (bytes : List ℕ) (has : IfSome told (λ files. HasAtMost MOST_CERT_BYTES files name bytes)) where
    pub refuses_certificate_text : (r : Refusal) (a : InputFault) → r ≡ refusal.NotAccepted (objection.Cert a) → IsWrongText bytes a → IfSome told (λ files. RefusesCertificate files name r)
    refuses_certificate_text r a is bad = at_told told has
      where
        at_told : (t : Option (List NamedFile)) → IfSome t (λ files. HasAtMost MOST_CERT_BYTES files name bytes) → IfSome t (λ files. RefusesCertificate files name r)
        at_told None has = tt
        at_told (Some files) has = certificate_bytes bytes a is has bad

    pub holds_certificate : (a : Certificate) → SpellsCertificate bytes a → IfSome told (λ files. HoldsCertificate files name a)
    holds_certificate a spells = at_told told has
      where
        at_told : (t : Option (List NamedFile)) → IfSome t (λ files. HasAtMost MOST_CERT_BYTES files name bytes) → IfSome t (λ files. HoldsCertificate files name a)
        at_told None has = tt
        at_told (Some files) has = record { bytes = bytes; has = has; spells = spells }

pub short_is_checkable : SpelledAreCheckable → (bytes : List ℕ) (a : Certificate) → length bytes ≤ MOST_CERT_BYTES → SpellsCertificate bytes a → IsCheckable a
short_is_checkable law bytes a short spells =
    let limit : MOST_CERT_BYTES < 2 ^ 32 = omega arith in
    law bytes a (omega (arith, short, limit)) spells
