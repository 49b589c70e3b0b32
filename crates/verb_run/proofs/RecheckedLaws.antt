-- A later run that checks the certificate which an earlier one has written accepts it.
use Rattle.std.proofs.Common.{◌≡◌, ℕ, ◌≤◌, List, [], ◌∷◌, map, length, Option, Some, None, IsSomeAnd, refl, sym, ap, subst, ◌∙◌}
use Rattle.base_values.specs.declared.limits.TheConstants.{MOST_CERT_BYTES}
use Rattle.base_files.specs.declared.files.NamedFile.{NamedFile}
use Rattle.base_files.specs.Files.{file_of, with_file}
use Rattle.base_files.proofs.Writing.{file_of-with_file}
use Rattle.smv_language.specs.Language.{Tree, Text, Formula, Value, flat_tree, told_trace, FlatLeaf, FlatModel}
use Rattle.smv_flat_laws.specs.FlatTrace.{IsFlatTrace}
use Rattle.smv_flat_laws.specs.History.{Mode, with_history}
use Rattle.smv_flat_laws.proofs.HistoryLaws.{no_bits}
use Rattle.sat_encoding_laws.specs.FlatTraces.{ReachesTop, HasFailedNumber}
use Rattle.cut_text_laws.specs.TraceOfText.{GivesTrace}
use Rattle.cut_text_laws.specs.Analysis.{Ending, complete, bounded}
use Rattle.cut_search.specs.declared.answer.End.{End}
use Rattle.cut_search.specs.declared.answer.End.TheVariants.{Complete, Bounded}
use Rattle.cut_report_laws.specs.SearchAnswer.{ending_of}
use Rattle.cert_laws.specs.Certificate.{Certificate}
use Rattle.cert_laws.specs.Certification.{IsCertified}
use Rattle.cert_laws.specs.Subject.{subject_of}
use Rattle.cert_laws.proofs.Objections.{accepted_has_none}
use Rattle.cert_file.specs.CertificateFiles.{HoldsCertificate}
use Rattle.cert_file.proofs.OneCertificate.{held_certificate_not_refused, one_held_certificate, moved}
use Rattle.verb_command_line.specs.Commands.{Command, check, check_causes, check_orders}
use Rattle.verb_command_line.specs.Meaning.{Means as WordsMean}
use Rattle.verb_command_line.specs.Sets.{numbers_of}
use Rattle.verb_command_line.proofs.ReadingLaws.{one_command}
use Rattle.fault_orders.specs.declared.Relation.{Relation}
use Rattle.fault_orders.specs.declared.Relation.TheVariants.{Before, After, Together}
use Rattle.verb_loading.specs.declared.status.Refusal.{Refusal}
use Rattle.verb_loading.specs.declared.status.Status.{Status}
use Rattle.verb_loading.specs.declared.status.Status.TheVariants as status
use Rattle.verb_loading.specs.Statuses.{ended_with}
use Rattle.verb_loading.specs.CaseAnswers.{Told, Said, told_maybe}
use Rattle.verb_loading.specs.Cases.{Case, HoldsCase, IsTopWord}
use Rattle.verb_loading.specs.Tasks.{IsTopTree}
use Rattle.verb_loading.specs.LoadedEvents.{case_in}
use Rattle.cut_model_search.specs.CaseAnalysis.{size_for, IsCertificateFor}
use Rattle.cut_model_search.specs.Searches.{HasCertificate}
use Rattle.verb_causes.specs.declared.staged.StagedEvent.{StagedEvent}
use Rattle.verb_causes.specs.Causes.{staged_in, events_in, HoldsStaged, BreaksNoLine}
use Rattle.verb_causes.proofs.OneRefusal.{unbroken_cause_check}
use Rattle.verb_orders.specs.Pairs.{HoldsPair}
use Rattle.verb_orders.specs.Orders.{claimed, claim_word, claim_in, staged_of, against_of, CertifiesClaim, IsClaimWritten}
use Rattle.verb_orders.proofs.OneRefusal.{certified_check}
use Rattle.verb_run.specs.Analyses.{Certifies}
use Rattle.verb_run.specs.Certificates.{subject_in, RefusesLine, at_line, CertRefuses, no_certificate, not_accepted, CheckRefuses, no_event, its_certificate}
use Rattle.verb_run.specs.Runs.{Outcome, CheckComesTo, refuses_check, is_checked, is_refused, is_done, CommandComesTo, Means, refuses_words, asked, IsDelivered, HasAnswered}
use Rattle.verb_run.specs.LaterChecks.{AnalysesAreAccepted, CausesAreAccepted, OrdersAreAccepted}
use Rattle.verb_run.proofs.ExtensionLemmas.{refused_not_asked}
use Rattle.verb_run.proofs.OneEvent.{event_not_refused}
use Rattle.std.proofs.lemmas.Option.{same_Some}

-- ---- what both runs have

-- the files hold the case of the earlier run
kept_case : (before files : List NamedFile) (model faults other_model other_faults : Text) (c : Case) → file_of files other_model ≡ file_of before model → file_of files other_faults ≡ file_of before faults →
    HoldsCase before model faults c → HoldsCase files other_model other_faults c
kept_case before files model faults other_model other_faults c same_model same_faults h = record {
  program = record {
    bytes = h.program.bytes;
    has = record { held = same_model ∙ h.program.has.held; short = h.program.has.short };
    is_text = h.program.is_text;
    flat = h.program.flat;
    lawful = h.program.lawful;
  };
  bytes = h.bytes;
  has = record { held = same_faults ∙ h.has.held; short = h.has.short };
  is_text = h.is_text;
  is_case = h.is_case;
}

-- and its certificate
module _ (m : FlatModel) (fs : List Mode) (tree : Tree FlatLeaf) (size : ℕ) (sets : List (List ℕ)) (shown : List (List (List Value))) (bytes : List ℕ) (h : IsCertificateFor m fs tree size sets shown bytes) where
  kept_certificate : (files : List NamedFile) (name : Text) → file_of files name ≡ Some bytes → ((b : List ℕ) → file_of files name ≡ Some b → length b ≤ MOST_CERT_BYTES) → HoldsCertificate files name h.certificate
  kept_certificate files name held within = record { bytes = bytes; has = record { held = held; short = within bytes held }; spells = h.spells }

-- what a run answers whose words ask for something
answered_by : (files : List NamedFile) (words : List Text) (c : Command) (s : Status) (later : Told) (said now : Said) (P : Type 0) → WordsMean words c →
    ((o : Outcome) → CommandComesTo files c o → IsDelivered o s (Some files) later said now → P) → HasAnswered files words s (Some files) later said now → P
answered_by files words c s later said now P asks so has = by_means has.outcome has.means has.delivered
  where
    by_means : (o : Outcome) → Means files words o → IsDelivered o s (Some files) later said now → P
    by_means o (refuses_words f refused) stands = absurd (refused_not_asked words f c refused asks)
    by_means o (asked d q named comes) stands = so q (subst (λ e. CommandComesTo files e q) (one_command words d c named asks) comes) stands

-- ---- an analysis

module _ (files : List NamedFile) (model faults top cert : Text) (c : Case) (e : Formula) (tree : Tree FlatLeaf) (a : Certificate) (holds : HoldsCase files model faults c) (word : IsTopWord c.program top e)
    (resolved : IsTopTree c e tree) (has : HoldsCertificate files cert a) (certified : IsCertified c.flat c.modes tree (GivesTrace c.flat) (subject_in c tree) a) where
  line_not_refused : (r : Refusal) → RefusesLine c tree a r → ⊥
  line_not_refused r (at_line line rule is bad) =
      accepted_has_none (List (List Value)) (GivesTrace c.flat) (IsFlatTrace c.flat) (ReachesTop c.flat tree) (HasFailedNumber c.flat c.modes) (subject_in c tree) a line rule certified.accepted bad

  file_not_refused : (r : Refusal) → CertRefuses files c tree cert r → ⊥
  file_not_refused r (no_certificate gone) = held_certificate_not_refused files cert a r has gone
  file_not_refused r (not_accepted b have line) = line_not_refused r (subst (λ x. RefusesLine c tree x r) (one_held_certificate files cert b a have has) line)

  check_not_refused : (r : Refusal) → CheckRefuses files model faults top cert r → ⊥
  check_not_refused r (no_event bad) = event_not_refused files model faults top c e r holds word bad
  check_not_refused r (its_certificate d f u other word' is' bad) =
      file_not_refused r (moved files model faults top cert (λ k v. CertRefuses files k v cert r) c d e f tree u holds word resolved other word' is' bad)

  check_is_done : (s : Status) (later : Told) (said now : Said) (o : Outcome) → CheckComesTo files model faults top cert o → IsDelivered o s (Some files) later said now → s ≡ status.Done
  check_is_done s later said now o (refuses_check r bad) stands = absurd (check_not_refused r bad)
  check_is_done s later said now o (is_checked report h) stands = stands.0

some_there : {A : Type 0} (o : Option A) (P : A → Type 0) (Q : Type 0) → IsSomeAnd o P → ((x : A) → o ≡ Some x → P x → Q) → Q
some_there None P Q h so = absurd h
some_there (Some x) P Q h so = so x refl h

pub analyses_are_accepted : AnalysesAreAccepted
analyses_are_accepted before after files said now model faults top extended cert other_model other_faults other_cert size words h kept asks s later heard tells has =
    some_there (file_of after cert) (Certifies h.analysed.c h.analysed.event (size_for size (length h.analysed.c.faults)) h.analysed.analysis) (s ≡ status.Done) h.certified by_bytes
  where
    by_bytes : (bytes : List ℕ) → file_of after cert ≡ Some bytes → Certifies h.analysed.c h.analysed.event (size_for size (length h.analysed.c.faults)) h.analysed.analysis bytes → s ≡ status.Done
    by_bytes bytes there (tree, resolved, written) =
        let c = h.analysed.c in
        answered_by files words (check other_model other_faults top other_cert) s later heard tells (s ≡ status.Done) asks
        (check_is_done files other_model other_faults top other_cert c h.analysed.event tree written.certificate
        (kept_case before files model faults other_model other_faults c kept.model_kept kept.faults_kept h.analysed.holds) h.analysed.is_event resolved
        (kept_certificate c.flat c.modes tree _ _ _ bytes written files other_cert (kept.cert_kept ∙ there) kept.within) written.accepted s later heard tells)
        has

-- ---- common causes

not_bounded : {A : Type 0} (k : ℕ) → status.Done ≡ status.Bounded k → A
not_bounded k e = cc

-- the certificate of a search that is complete
module _ (m : FlatModel) (es : List Mode) (tree : Tree FlatLeaf) (a : Certificate) (certified : IsCertified m es tree (GivesTrace m) (subject_of (with_history m es) m es tree) a) where
  breaks_no_line : BreaksNoLine m es tree a
  breaks_no_line line rule bad =
      accepted_has_none (List (List Value)) (GivesTrace m) (IsFlatTrace m) (ReachesTop m tree) (HasFailedNumber m es) (subject_of (with_history m es) m es tree) a line rule certified.accepted bad

pub causes_are_accepted : CausesAreAccepted
causes_are_accepted before after files said now model faults file top cert other_model other_faults other_file other_cert depth words h kept same asks s later heard tells has =
    by_end h.finds.finding.analysis.end (h.ends ∙ ap ended_with h.finds.finding.ends) h.found.cert h.finds.finding.certified h.written
  where
    l : StagedEvent
    l = h.finds.loaded

    tree : Tree FlatLeaf
    tree = flat_tree l.loaded.top

    -- what was loaded is what these files hold
    holds : HoldsStaged files other_model other_faults other_file top l
    holds = record {
      holds = kept_case before files model faults other_model other_faults (case_in l.loaded) kept.model_kept kept.faults_kept h.finds.holds.holds;
      has_causes = record {
        bytes = h.finds.holds.has_causes.bytes;
        has = record { held = same ∙ h.finds.holds.has_causes.has.held; short = h.finds.holds.has_causes.has.short };
        are = h.finds.holds.has_causes.are;
      };
      is_word = h.finds.holds.is_word;
      staged = h.finds.holds.staged;
    }

    by_bytes : (bytes : List ℕ) → IsCertificateFor (staged_in l) (events_in l) tree h.finds.finding.analysis.size h.finds.finding.analysis.sets
        (map (told_trace l.typed.model.symbols) h.finds.finding.analysis.traces) bytes → file_of after cert ≡ Some bytes → s ≡ status.Done
    by_bytes bytes written there =
        answered_by files words (check_causes other_model other_faults other_file top other_cert) s later heard tells (s ≡ status.Done) asks by_comes has
      where
        by_comes : (o : Outcome) → CommandComesTo files (check_causes other_model other_faults other_file top other_cert) o → IsDelivered o s (Some files) later heard tells → s ≡ status.Done
        by_comes o (is_refused r bad) stands =
            absurd (unbroken_cause_check files other_model other_faults other_file top other_cert l written.certificate r holds
            (kept_certificate (staged_in l) (events_in l) tree _ _ _ bytes written files other_cert (kept.cert_kept ∙ there) kept.within)
            (breaks_no_line (staged_in l) (events_in l) tree written.certificate written.accepted) bad)
        by_comes o (is_done accepts) stands = stands.0

    by_end : (end : End) → status.Done ≡ ended_with (ending_of end) → (text : Option (List ℕ)) → HasCertificate (staged_in l) (events_in l) tree l.typed.model.symbols h.finds.finding.analysis end text →
        Some after ≡ told_maybe (Some before) cert text → s ≡ status.Done
    by_end (Bounded k) ends text certified written = not_bounded k ends
    by_end (Complete clauses) ends None certified written = absurd certified
    by_end (Complete clauses) ends (Some bytes) certified written =
        by_bytes bytes certified (ap (λ fs. file_of fs cert) (same_Some after (with_file before cert bytes) written) ∙ file_of-with_file before cert bytes)

-- ---- orders

-- the word of a claim claims it
claimed_by : (claim : Option Relation) → claim_in (claim_word claim) ≡ claim
claimed_by None = refl
claimed_by (Some Before) = refl
claimed_by (Some After) = refl
claimed_by (Some Together) = refl

pub orders_are_accepted : OrdersAreAccepted
orders_are_accepted before after files said now model faults top set cert other_model other_faults other_cert first second depth claim words h is kept asks s later heard tells has =
    by_ending h.found.ending h.ends (subst (λ o. IsClaimWritten h.c (numbers_of set) first second h.found.tree o h.found.ending cert (Some before) (Some after)) is h.written)
  where
    staged : FlatModel
    staged = staged_of h.c first second

    speaking : Option Relation → Tree FlatLeaf
    speaking r = against_of h.c (numbers_of set) first second h.found.tree r

    holds : HoldsPair files other_model other_faults (numbers_of set) first second h.c
    holds = record {
      holds = kept_case before files model faults other_model other_faults h.c kept.model_kept kept.faults_kept h.holds.holds;
      numbered = h.holds.numbered;
      typed = h.holds.typed;
    }

    by_bytes : (bytes : List ℕ) → CertifiesClaim h.c (numbers_of set) first second h.found.tree claim bytes → file_of after cert ≡ Some bytes → s ≡ status.Done
    by_bytes bytes written there =
        answered_by files words (check_orders other_model other_faults top set first second (claim_word claim) other_cert) s later heard tells (s ≡ status.Done) asks by_comes has
      where
        certified : IsCertified staged [] (speaking (claim_in (claim_word claim))) (GivesTrace staged) (subject_of staged staged [] (speaking (claim_in (claim_word claim)))) written.certificate
        certified =
            subst (λ r. IsCertified staged [] (speaking r) (GivesTrace staged) (subject_of staged staged [] (speaking r)) written.certificate) (sym (claimed_by claim))
            (subst (λ whole. IsCertified staged [] (speaking claim) (GivesTrace staged) (subject_of whole staged [] (speaking claim)) written.certificate) (no_bits staged) written.accepted)

        by_comes : (o : Outcome) → CommandComesTo files (check_orders other_model other_faults top set first second (claim_word claim) other_cert) o → IsDelivered o s (Some files) later heard tells → s ≡ status.Done
        by_comes o (is_refused r bad) stands =
            absurd (certified_check files other_model other_faults top (numbers_of set) first second (claim_word claim) other_cert h.c h.found.event h.found.tree written.certificate r holds h.found.is_event
            h.found.is_tree (kept_certificate staged [] (speaking claim) _ _ _ bytes written files other_cert (kept.cert_kept ∙ there) kept.within) certified written.has_sets bad)
        by_comes o (is_done accepts) stands = stands.0

    by_ending : (ending : Ending) → status.Done ≡ ended_with ending → IsClaimWritten h.c (numbers_of set) first second h.found.tree (claimed claim) ending cert (Some before) (Some after) → s ≡ status.Done
    by_ending (bounded k) ends written = not_bounded k ends
    by_ending complete ends (bytes, certifies, left) =
        by_bytes bytes certifies (ap (λ fs. file_of fs cert) (same_Some after (with_file before cert bytes) left) ∙ file_of-with_file before cert bytes)
