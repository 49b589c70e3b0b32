-- What the file of a certificate holds is one, and so is what is wrong with it; and what is so over a case and an event is so over one.
use Rattle.std.proofs.Common.{◌≡◌, ℕ, List, sym, ap, subst, ◌∙◌}
use Rattle.base_values.specs.declared.limits.TheConstants.{MOST_CERT_BYTES}
use Rattle.base_files.specs.declared.files.NamedFile.{NamedFile}
use Rattle.smv_language.specs.Language.{Text, Formula, Tree, FlatLeaf}
use Rattle.cert_laws.specs.Certificate.{Certificate}
use Rattle.cert_laws.specs.CertificateText.{SpellsCertificate}
use Rattle.cert_laws.proofs.FirstWrong.{one_spelled, one_wrong_line, spelled_has_none}
use Rattle.verb_loading.specs.declared.status.InputFault.{InputFault}
use Rattle.verb_loading.specs.declared.status.Objection.TheVariants as objection
use Rattle.verb_loading.specs.declared.status.Refusal.{Refusal}
use Rattle.verb_loading.specs.declared.status.Refusal.TheVariants as refusal
use Rattle.verb_loading.specs.Cases.{Case, extension_of, HoldsCase, IsTopWord}
use Rattle.verb_loading.specs.Inputs.{HasAtMost}
use Rattle.verb_loading.specs.Tasks.{IsTopTree}
use Rattle.cert_file.specs.CertificateFiles.{text_fault, IsWrongText, a_bad_line, a_missing_line, RefusesCertificate, certificate_file, certificate_bytes, HoldsCertificate}
use Rattle.verb_loading.proofs.OneCase.{one_case}
use Rattle.verb_loading.proofs.FilesWithin.{no_bytes_within, one_fault_above, same_bytes_within}
use Rattle.verb_loading.proofs.OneTop.{same_tree, one_top}

-- Bytes have one first wrong line, and none where they spell a certificate.
one_wrong_text : (bytes : List ℕ) (a b : InputFault) → IsWrongText bytes a → IsWrongText bytes b → a ≡ b
one_wrong_text bytes a b (a_bad_line n is bad) (a_bad_line k was also) = is ∙ ap (text_fault 1) (one_wrong_line.0 bytes n k bad also) ∙ sym was
one_wrong_text bytes a b (a_bad_line n is bad) (a_missing_line k was ends) = absurd (one_wrong_line.2 bytes n k bad ends)
one_wrong_text bytes a b (a_missing_line n is ends) (a_bad_line k was bad) = absurd (one_wrong_line.2 bytes k n bad ends)
one_wrong_text bytes a b (a_missing_line n is ends) (a_missing_line k was also) = is ∙ ap (text_fault 2) (one_wrong_line.1 bytes n k ends also) ∙ sym was

spelled_not_wrong : (bytes : List ℕ) (c : Certificate) (fault : InputFault) → SpellsCertificate bytes c → IsWrongText bytes fault → ⊥
spelled_not_wrong bytes c fault spells (a_bad_line n is bad) = spelled_has_none.0 bytes c n spells bad
spelled_not_wrong bytes c fault spells (a_missing_line n is ends) = spelled_has_none.1 bytes c n spells ends

module _ (files : List NamedFile) (name : Text) where
  same_bytes : (a b : List ℕ) → HasAtMost MOST_CERT_BYTES files name a → HasAtMost MOST_CERT_BYTES files name b → a ≡ b
  same_bytes a b has holds = same_bytes_within MOST_CERT_BYTES files name a b has holds

  pub one_refused_certificate : (r s : Refusal) → RefusesCertificate files name r → RefusesCertificate files name s → r ≡ s
  one_refused_certificate r s (certificate_file a is refused) (certificate_file b was also) =
      is ∙ ap (λ f. refusal.NotAccepted (objection.Cert f)) (one_fault_above MOST_CERT_BYTES files name a b refused also) ∙ sym was
  one_refused_certificate r s (certificate_file a is refused) (certificate_bytes bytes b was has bad) = absurd (no_bytes_within MOST_CERT_BYTES files name a bytes refused has)
  one_refused_certificate r s (certificate_bytes bytes a is has bad) (certificate_file b was refused) = absurd (no_bytes_within MOST_CERT_BYTES files name b bytes refused has)
  one_refused_certificate r s (certificate_bytes bytes a is has bad) (certificate_bytes others b was holds also) =
      is
      ∙ ap (λ f. refusal.NotAccepted (objection.Cert f)) (one_wrong_text bytes a b bad (subst (λ t. IsWrongText t b) (same_bytes others bytes holds has) also))
      ∙ sym was

  pub held_certificate_not_refused : (a : Certificate) (r : Refusal) → HoldsCertificate files name a → RefusesCertificate files name r → ⊥
  held_certificate_not_refused a r h (certificate_file fault is refused) = no_bytes_within MOST_CERT_BYTES files name fault h.bytes refused h.has
  held_certificate_not_refused a r h (certificate_bytes bytes fault is has bad) =
      spelled_not_wrong h.bytes a fault h.spells (subst (λ t. IsWrongText t fault) (same_bytes bytes h.bytes has h.has) bad)

  pub one_held_certificate : (a b : Certificate) → HoldsCertificate files name a → HoldsCertificate files name b → a ≡ b
  one_held_certificate a b h g = one_spelled h.bytes a b h.spells (subst (λ t. SpellsCertificate t b) (same_bytes g.bytes h.bytes g.has h.has) g.spells)

module _ (files : List NamedFile) (model faults top cert : Text) where
  -- what is so over one case and expression of the event is so over another, since these are one
  pub moved : (P : Case → Tree FlatLeaf → Type 0) (c d : Case) (e f : Formula) (t u : Tree FlatLeaf) → HoldsCase files model faults c → IsTopWord c.program top e → IsTopTree c e t →
      HoldsCase files model faults d → IsTopWord d.program top f → IsTopTree d f u → P d u → P c t
  moved P c d e f t u held word is other word' is' h =
      let cases : d ≡ c = one_case files model faults d c other held in
      let events : f ≡ e = one_top c.program held.program.lawful.accepted top f e (subst (λ k. IsTopWord k.program top f) cases word') word in
      let there : IsTopTree c e u = subst (λ g. IsTopTree c g u) events (subst (λ k. IsTopTree k f u) cases is') in
      let trees : u ≡ t = same_tree (extension_of c) c.flat held.is_case.within.accepted held.is_case.is_flat.is e u t there is in
      subst (λ v. P c v) trees (subst (λ k. P k u) cases h)
