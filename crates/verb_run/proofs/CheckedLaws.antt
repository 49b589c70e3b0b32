-- From what was loaded to what a check comes to, and from an answered run to the check that it has done.
use Rattle.std.proofs.Common.{◌≡◌, ℕ, List, Option, Some, None, IfSome, sym, subst, ◌∙◌}
use Rattle.base_files.specs.declared.files.NamedFile.{NamedFile}
use Rattle.smv_language.specs.Language.{Text, flat_tree}
use Rattle.verb_command_line.specs.Commands.{check}
use Rattle.verb_command_line.proofs.ReadingLaws.{one_command}
use Rattle.verb_loading.specs.declared.event.LoadedEvent.{LoadedEvent}
use Rattle.verb_loading.specs.declared.status.Refusal.{Refusal}
use Rattle.verb_loading.specs.declared.status.Status.{Status}
use Rattle.verb_loading.specs.declared.status.Status.TheVariants as status
use Rattle.verb_run.specs.Requests.{AsksToCheck}
use Rattle.verb_loading.specs.Cases.{HoldsCase}
use Rattle.verb_loading.specs.Events.{RefusesEvent}
use Rattle.verb_loading.specs.LoadedEvents.{case_in, IsEvent}
use Rattle.verb_run.specs.Certificates.{CertRefuses, CertSays, no_event, its_certificate, IsChecked}
use Rattle.verb_run.specs.Runs.{Outcome, refuses, says, CheckComesTo, refuses_check, is_checked, CommandComesTo, Means, refuses_words, asked, IsAnswer, IsDelivered, HasAnswered}
use Rattle.verb_run.proofs.ExtensionLemmas.{never_done, refused_not_asked}
use Rattle.verb_run.proofs.CertificateLaws.{checked_is_right}

module _ (model faults top cert : Text) where
  pub check_has_no_event : (told : Option (List NamedFile)) (r : Refusal) → IfSome told (λ files. RefusesEvent files model faults top r) → IfSome told (λ files. CheckComesTo files model faults top cert (refuses r))
  check_has_no_event None r bad = tt
  check_has_no_event (Some files) r bad = refuses_check r (no_event bad)

  pub check_refused : (told mid : Option (List NamedFile)) (l : LoadedEvent) (r : Refusal) → mid ≡ told → IfSome told (λ files. HoldsCase files model faults (case_in l)) → IsEvent top l →
      IfSome mid (λ files. CertRefuses files (case_in l) (flat_tree l.top) cert r) → IfSome told (λ files. CheckComesTo files model faults top cert (refuses r))
  check_refused told mid l r same holds event bad = at_told told holds (subst (λ t. IfSome t (λ files. CertRefuses files (case_in l) (flat_tree l.top) cert r)) same bad)
    where
      at_told : (t : Option (List NamedFile)) → IfSome t (λ files. HoldsCase files model faults (case_in l)) → IfSome t (λ files. CertRefuses files (case_in l) (flat_tree l.top) cert r) →
          IfSome t (λ files. CheckComesTo files model faults top cert (refuses r))
      at_told None holds bad = tt
      at_told (Some files) holds bad = refuses_check r (its_certificate (case_in l) event.event.top (flat_tree l.top) holds event.event.is_word event.event.is_tree bad)

  pub check_says : (told mid : Option (List NamedFile)) (l : LoadedEvent) (report : Text) → mid ≡ told → IfSome told (λ files. HoldsCase files model faults (case_in l)) → IsEvent top l →
      IfSome mid (λ files. CertSays files (case_in l) (flat_tree l.top) cert report) → IfSome told (λ files. CheckComesTo files model faults top cert (says report))
  check_says told mid l report same holds event said = at_told told holds (subst (λ t. IfSome t (λ files. CertSays files (case_in l) (flat_tree l.top) cert report)) same said)
    where
      at_told : (t : Option (List NamedFile)) → IfSome t (λ files. HoldsCase files model faults (case_in l)) → IfSome t (λ files. CertSays files (case_in l) (flat_tree l.top) cert report) →
          IfSome t (λ files. CheckComesTo files model faults top cert (says report))
      at_told None holds said = tt
      at_told (Some files) holds said =
          is_checked report (record { c = case_in l; event = event.event.top; tree = flat_tree l.top; holds = holds; is_event = event.event.is_word; is_tree = event.event.is_tree; says = said })

module _ (files : List NamedFile) (model faults top cert : Text) (s : Status) (after : Option (List NamedFile)) (said now : Option (List ℕ)) (done : s ≡ status.Done) where
  comes_checked : (o : Outcome) → CheckComesTo files model faults top cert o → IsDelivered o s (Some files) after said now → IsChecked files said now model faults top cert × (after ≡ Some files)
  comes_checked o (refuses_check r bad) stands = absurd (never_done r (sym done ∙ stands.0))
  comes_checked o (is_checked report h) stands = (checked_is_right files model faults top cert report h said now stands.2, stands.1)

  means_checked : (words : List Text) (o : Outcome) → Means files words o → AsksToCheck words model faults top cert → IsDelivered o s (Some files) after said now →
      IsChecked files said now model faults top cert × (after ≡ Some files)
  means_checked words o (refuses_words f refused) asks stands = absurd (refused_not_asked words f (check model faults top cert) refused asks)
  means_checked words o (asked c o' named comes) asks stands =
      comes_checked o' (subst (λ d. CommandComesTo files d o') (one_command words c (check model faults top cert) named asks) comes) stands

-- a run that answers that it is done has checked the certificate
pub done_checks : (told after : Option (List NamedFile)) (said now : Option (List ℕ)) (words : List Text) (s : Status) (model faults top cert : Text) →
    (IsAnswer s → IfSome told (λ files. HasAnswered files words s told after said now)) → s ≡ status.Done → AsksToCheck words model faults top cert →
    IfSome told (λ files. IsChecked files said now model faults top cert × (after ≡ told))
done_checks None after said now words s model faults top cert answered done asks = tt
done_checks (Some files) after said now words s model faults top cert answered done asks =
    let answer = answered (subst IsAnswer (sym done) tt) in
    means_checked files model faults top cert s after said now done words answer.outcome answer.means asks answer.delivered
