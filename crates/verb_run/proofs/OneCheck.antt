-- What a certificate comes to over a case is one, and so is what a check comes to.
use Rattle.std.proofs.Common.{◌≡◌, List, sym, ap, subst, ◌∙◌}
use Rattle.base_files.specs.declared.files.NamedFile.{NamedFile}
use Rattle.smv_language.specs.Language.{Text, Tree, Value, FlatLeaf}
use Rattle.smv_flat_laws.specs.FlatTrace.{IsFlatTrace}
use Rattle.sat_encoding_laws.specs.FlatTraces.{ReachesTop, HasFailedNumber}
use Rattle.cut_text_laws.specs.TraceOfText.{GivesTrace}
use Rattle.cert_laws.specs.Acceptance.{number_of}
use Rattle.cert_laws.specs.Certificate.{Certificate}
use Rattle.cert_laws.proofs.Objections.{one_objection, accepted_has_none}
use Rattle.verb_loading.specs.declared.status.Objection.TheVariants as objection
use Rattle.verb_loading.specs.declared.status.Refusal.{Refusal}
use Rattle.verb_loading.specs.declared.status.Refusal.TheVariants as refusal
use Rattle.verb_loading.specs.Cases.{Case}
use Rattle.verb_run.specs.AnswerTexts.{check_text}
use Rattle.verb_run.specs.Certificates.{subject_in, RefusesLine, at_line, IsAcceptedFor, CertRefuses, no_certificate, not_accepted, CertSays, CheckRefuses, no_event, its_certificate, CheckSays}
use Rattle.verb_run.specs.Runs.{Outcome, refuses, says, CheckComesTo, refuses_check, is_checked}
use Rattle.verb_run.proofs.OneEvent.{one_refused_event, event_not_refused}
use Rattle.cert_file.proofs.OneCertificate.{one_refused_certificate, held_certificate_not_refused, one_held_certificate, moved}

-- A certificate has one objection, and none where it is accepted.
module _ (c : Case) (tree : Tree FlatLeaf) (a : Certificate) where
  one_refused_line : (r s : Refusal) → RefusesLine c tree a r → RefusesLine c tree a s → r ≡ s
  one_refused_line r s (at_line line rule is bad) (at_line other second was also) =
      let same =
      one_objection (List (List Value)) (GivesTrace c.flat) (IsFlatTrace c.flat) (ReachesTop c.flat tree) (HasFailedNumber c.flat c.modes) (subject_in c tree) a line other rule second bad also in
      is
      ∙ ap (λ n. refusal.NotAccepted (objection.Line n (number_of rule))) same.0
      ∙ ap (λ q. refusal.NotAccepted (objection.Line other (number_of q))) same.1
      ∙ sym was

  accepted_not_refused : (r : Refusal) → IsAcceptedFor c tree a → RefusesLine c tree a r → ⊥
  accepted_not_refused r accepted (at_line line rule is bad) =
      accepted_has_none (List (List Value)) (GivesTrace c.flat) (IsFlatTrace c.flat) (ReachesTop c.flat tree) (HasFailedNumber c.flat c.modes) (subject_in c tree) a line rule accepted.certified.accepted bad

module _ (files : List NamedFile) (c : Case) (tree : Tree FlatLeaf) (name : Text) where
  one_cert_refusal : (r s : Refusal) → CertRefuses files c tree name r → CertRefuses files c tree name s → r ≡ s
  one_cert_refusal r s (no_certificate bad) (no_certificate also) = one_refused_certificate files name r s bad also
  one_cert_refusal r s (no_certificate bad) (not_accepted a holds line) = absurd (held_certificate_not_refused files name a r holds bad)
  one_cert_refusal r s (not_accepted a holds line) (no_certificate bad) = absurd (held_certificate_not_refused files name a s holds bad)
  one_cert_refusal r s (not_accepted a holds line) (not_accepted b have also) =
      one_refused_line c tree a r s line (subst (λ d. RefusesLine c tree d s) (one_held_certificate files name b a have holds) also)

  said_not_refused : (report : Text) (r : Refusal) → CertSays files c tree name report → CertRefuses files c tree name r → ⊥
  said_not_refused report r h (no_certificate bad) = held_certificate_not_refused files name h.certificate r h.holds bad
  said_not_refused report r h (not_accepted a holds line) =
      accepted_not_refused c tree h.certificate r h.accepted (subst (λ d. RefusesLine c tree d r) (one_held_certificate files name a h.certificate holds h.holds) line)

  one_cert_report : (report other : Text) → CertSays files c tree name report → CertSays files c tree name other → report ≡ other
  one_cert_report report other h g = h.is ∙ ap (λ d. check_text c d.size) (one_held_certificate files name h.certificate g.certificate h.holds g.holds) ∙ sym g.is

module _ (files : List NamedFile) (model faults top cert : Text) where
  pub one_check_refusal : (r s : Refusal) → CheckRefuses files model faults top cert r → CheckRefuses files model faults top cert s → r ≡ s
  one_check_refusal r s (no_event bad) (no_event also) = one_refused_event files model faults top r s bad also
  one_check_refusal r s (no_event bad) (its_certificate c e tree held word is line) = absurd (event_not_refused files model faults top c e r held word bad)
  one_check_refusal r s (its_certificate c e tree held word is line) (no_event bad) = absurd (event_not_refused files model faults top c e s held word bad)
  one_check_refusal r s (its_certificate c e t held word is bad) (its_certificate d f u other word' is' also) =
      one_cert_refusal files c t cert r s bad (moved files model faults top cert (λ k v. CertRefuses files k v cert s) c d e f t u held word is other word' is' also)

  pub check_not_refused : (report : Text) (r : Refusal) → CheckSays files model faults top cert report → CheckRefuses files model faults top cert r → ⊥
  check_not_refused report r h (no_event bad) = event_not_refused files model faults top h.c h.event r h.holds h.is_event bad
  check_not_refused report r h (its_certificate d f u other word is bad) =
      said_not_refused files h.c h.tree cert report r h.says (moved files model faults top cert (λ k v. CertRefuses files k v cert r) h.c d h.event f h.tree u h.holds h.is_event h.is_tree other word is bad)

  pub one_check_report : (report other : Text) → CheckSays files model faults top cert report → CheckSays files model faults top cert other → report ≡ other
  one_check_report report other h g =
      one_cert_report files h.c h.tree cert report other h.says
      (moved files model faults top cert (λ k v. CertSays files k v cert other) h.c g.c h.event g.event h.tree g.tree h.holds h.is_event h.is_tree g.holds g.is_event g.is_tree g.says)

  pub check_comes_to_one : (o q : Outcome) → CheckComesTo files model faults top cert o → CheckComesTo files model faults top cert q → o ≡ q
  check_comes_to_one o q (refuses_check r bad) (refuses_check s also) = ap refuses (one_check_refusal r s bad also)
  check_comes_to_one o q (refuses_check r bad) (is_checked report h) = absurd (check_not_refused report r h bad)
  check_comes_to_one o q (is_checked report h) (refuses_check s bad) = absurd (check_not_refused report s h bad)
  check_comes_to_one o q (is_checked report h) (is_checked other g) = ap says (one_check_report report other h g)
