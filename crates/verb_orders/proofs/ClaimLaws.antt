-- What a judged certificate says of a claim.
use Rattle.std.proofs.Common.{◌≡◌, ℕ, true, List, [], Option, Some, None, Result, Ok, Err, IfOk, OnOk, IfSome, refl, sym, ap, subst, ◌∙◌}
use Rattle.std.specs.Prelude.{codes}
use Rattle.base_files.specs.declared.files.NamedFile.{NamedFile}
use Rattle.base_files.specs.Desk.{said_more}
use Rattle.base_values.specs.declared.memory.OutOfMemory.{OutOfMemory}
use Rattle.smv_language.specs.Language.{Tree, Text, model_tree, flat_tree, FlatLeaf, FlatModel}
use Rattle.smv_language.specs.declared.expr.Expr.{Expr}
use Rattle.smv_language.specs.declared.model.Flat.{Flat}
use Rattle.smv_language.specs.declared.model.FlatModel.{FlatModel as Model}
use Rattle.smv_language.specs.declared.model.Fault.{Fault as FaultOf}
use Rattle.smv_flat_laws.proofs.HistoryLaws.{no_bits}
use Rattle.cut_search_laws.specs.Searchable.{IsSearchable}
use Rattle.cert_text.specs.CertificateView.{seen}
use Rattle.cert_text.specs.declared.certificate.Certificate.{Certificate as Written}
use Rattle.cert_laws.specs.Certificate.{Certificate}
use Rattle.cert_laws.specs.Certification.{IsSubjectOf}
use Rattle.cert_laws.specs.Subject.{subject_of}
use Rattle.cert_laws.proofs.Subjects.{subjects_right}
use Rattle.cert_check.specs.Matter.{matter_of, IsAcceptedIn}
use Rattle.cert_check.specs.Fit.{IsCheckable}
use Rattle.cert_check.specs.SiteFindings.{IsJudgedUnlisted, IsObjectionUnlisted}
use Rattle.cert_check.specs.declared.judged.Judged.{Judged}
use Rattle.fault_orders.specs.declared.Relation.{Relation}
use Rattle.cut_reach_laws.proofs.Refuted.{accepted_refute}
use Rattle.cut_report_laws.specs.ExtendedTraces.{complete}
use Rattle.verb_loading.specs.declared.input.Stop.{Stop}
use Rattle.verb_loading.specs.declared.input.Stop.TheVariants as stop
use Rattle.verb_loading.specs.declared.status.Refusal.{Refusal}
use Rattle.verb_loading.specs.declared.status.Refusal.TheVariants as refusal
use Rattle.verb_loading.specs.declared.status.Objection.TheVariants as objection
use Rattle.verb_loading.specs.Cases.{HoldsCase, IsTopWord}
use Rattle.cert_file.specs.CertificateFiles.{RefusesCertificate, HoldsCertificate}
use Rattle.verb_loading.specs.CaseAnswers.{Said}
use Rattle.verb_loading.specs.LoadedEvents.{case_in}
use Rattle.verb_command_line.specs.Sets.{numbers_of}
use Rattle.verb_loading.specs.declared.status.Status.TheVariants as status
use Rattle.verb_orders.specs.declared.pair.PairWords.{PairWords}
use Rattle.verb_orders.specs.declared.pair.PairCase.{PairCase}
use Rattle.verb_orders.specs.Pairs.{IsAsked, IsStagedCase, RefusesPair}
use Rattle.verb_orders.specs.Orders.{IsClaimed, staged_of, against_of, staged_matter, claim_in, RefusesClaim, at_line, IsAcceptedClaim, RefusesFile, unread, unfit, AcceptsFile, RefusesCheck, no_pair, no_certificate, not_accepted, AcceptsOrder, HasCheckedOrder}
use Rattle.verb_orders.specs.ClaimSearch.{SpeaksFor, staged_in, against_in}
use Rattle.verb_orders.proofs.AskedLaws.{the_faults, are_faults, holds_pair, holds_asked, at_stage, claim_of_class}

-- a line that breaks a rule, as a refusal
pub line_refused : (line rule : ℕ) (t : Stop) (r : Refusal) → t ≡ stop.Refused (refusal.NotAccepted (objection.Line line rule)) → t ≡ stop.Refused r →
    r ≡ refusal.NotAccepted (objection.Line line rule)
line_refused line rule t r is e = let both : stop.Refused (refusal.NotAccepted (objection.Line line rule)) ≡ stop.Refused r = sym is ∙ e in sym (one_refusal _ r both)
  where
    one_refusal : (a b : Refusal) → stop.Refused a ≡ stop.Refused b → a ≡ b
    one_refusal a b e = cc

pub line_no_desk : (line rule : ℕ) (t : Stop) → t ≡ stop.Refused (refusal.NotAccepted (objection.Line line rule)) → t ≡ stop.Desk → ⊥
line_no_desk line rule t is e = let both : stop.Refused (refusal.NotAccepted (objection.Line line rule)) ≡ stop.Desk = sym is ∙ e in cc

-- what is found of a certificate for a model without faults
pub judged_alone : (m : Model) (e : Expr Flat) (x : Written) (faults : List FaultOf) → faults ≡ [] → (done : Result Judged OutOfMemory) → IfOk done (IsJudgedUnlisted (matter_of m m faults e (seen x))) →
    IfOk done (IsJudgedUnlisted (staged_matter (model_tree m) (flat_tree e) (seen x)))
judged_alone m e x faults none done h = subst (λ (fs : List FaultOf). IfOk done (IsJudgedUnlisted (matter_of m m fs e (seen x)))) none h

module _ (s : PairCase) (is : IsStagedCase s) (claim : Option Relation) (e : Tree FlatLeaf) (speaks : SpeaksFor s claim e) (searchable : IsSearchable (model_tree s.typed.model) [] e) (x : Written) where
  abbrev m : FlatModel
  m = model_tree s.typed.model

  subject_is : IsSubjectOf m [] e (subject_of m m [] e)
  subject_is = subst (λ whole. IsSubjectOf m [] e (subject_of whole m [] e)) (no_bits m) (subjects_right m [] e searchable.encodable searchable.fits)

  -- an accepted certificate, over the model staged of the case
  pub claim_accepted : IsCheckable (seen x) → IsAcceptedIn (staged_matter m e (seen x)) → (seen x).sets ≡ [] →
      IsAcceptedClaim (staged_of (case_in s.loaded) s.asked.first s.asked.second) (against_of (case_in s.loaded) s.set.items s.asked.first s.asked.second (flat_tree s.loaded.top) claim) (seen x)
  claim_accepted checkable accepted empty =
      at_stage s is (λ m e. IsAcceptedClaim m e (seen x)) claim e speaks
      (record { own = searchable.own; is_subject = subject_is; certified = record { one_each = checkable.one_each; accepted = accepted }; no_set = empty })

  -- or one that breaks a rule
  pub claim_refused : (line number : ℕ) (r : Refusal) → r ≡ (refusal.NotAccepted (objection.Line line number)) → IsObjectionUnlisted (staged_matter m e (seen x)) line number →
      RefusesClaim (staged_of (case_in s.loaded) s.asked.first s.asked.second) (against_of (case_in s.loaded) s.set.items s.asked.first s.asked.second (flat_tree s.loaded.top) claim) (seen x) r
  claim_refused line number r told bad = at_stage s is (λ m e. RefusesClaim m e (seen x) r) claim e speaks (at_line line number told bad)

-- an accepted certificate means that the claim holds
module _ (s : PairCase) (is : IsStagedCase s) (claim : Option Relation) (a : Certificate) where
  abbrev staged_model : FlatModel
  staged_model = staged_of (case_in s.loaded) s.asked.first s.asked.second

  abbrev speaking : Tree FlatLeaf
  speaking = against_of (case_in s.loaded) s.set.items s.asked.first s.asked.second (flat_tree s.loaded.top) claim

  pub claim_is_so : IsAcceptedClaim staged_model speaking a → IsClaimed (case_in s.loaded) is.event.event.top s.set.items (the_faults s is).one (the_faults s is).other complete claim
  claim_is_so accepted =
      claim_of_class s is claim (λ n. true) complete (λ trace of. refl)
      (accepted_refute staged_model speaking accepted.own (subject_of staged_model staged_model [] speaking) accepted.is_subject a accepted.certified accepted.no_set)

-- what the file of a certificate comes to
module _ (cert : Text) (m : FlatModel) (e : Tree FlatLeaf) where
  pub file_unread : (told : Option (List NamedFile)) (r : Refusal) → IfSome told (λ files. RefusesCertificate files cert r) →
      IfSome told (λ files. RefusesFile files cert m e r)
  file_unread None r bad = tt
  file_unread (Some files) r bad = unread bad

  pub file_unfit : (told : Option (List NamedFile)) (a : Certificate) (r : Refusal) → IfSome told (λ files. HoldsCertificate files cert a) → RefusesClaim m e a r → IfSome told (λ files. RefusesFile files cert m e r)
  file_unfit None a r has bad = tt
  file_unfit (Some files) a r has bad = unfit a has bad

  pub file_accepted : {A E : Type 0} (told : Option (List NamedFile)) (a : Certificate) (done : Result A E) → IfSome told (λ files. HoldsCertificate files cert a) → OnOk done (IsAcceptedClaim m e a) →
      OnOk done (IfSome told (λ files. AcceptsFile files cert m e))
  file_accepted None a (Ok x) has accepted = tt
  file_accepted (Some files) a (Ok x) has accepted = record { certificate = a; has_certificate = has; accepted = accepted }
  file_accepted told a (Err stop) has accepted = tt

module _ (w : PairWords) (claim cert : Text) where
  -- the pair is refused
  pub check_no_pair : (told : Option (List NamedFile)) (r : Refusal) → IfSome told (λ files. RefusesPair files w.model.now w.faults.now w.top.now (numbers_of w.set.now) w.first w.second r) →
      IfSome told (λ files. RefusesCheck files w.model.now w.faults.now w.top.now (numbers_of w.set.now) w.first w.second claim cert r)
  check_no_pair None r bad = tt
  check_no_pair (Some files) r bad = no_pair bad

  module _ (s : PairCase) (is : IsStagedCase s) (same : s.asked ≡ w) (numbers : s.set.items ≡ numbers_of w.set.now) where
    -- what is said of the model and the expression of the case is said of those of the words
    over_words : (P : FlatModel → Tree FlatLeaf → Type 0) → P (staged_in s) (against_in s (claim_in claim)) →
        P (staged_of (case_in s.loaded) w.first w.second) (against_of (case_in s.loaded) (numbers_of w.set.now) w.first w.second (flat_tree s.loaded.top) (claim_in claim))
    over_words P h =
        subst (λ (x : PairWords). P (staged_of (case_in s.loaded) x.first x.second) (against_of (case_in s.loaded) (numbers_of w.set.now) x.first x.second (flat_tree s.loaded.top) (claim_in claim))) same
        (subst (λ set. P (staged_of (case_in s.loaded) s.asked.first s.asked.second) (against_of (case_in s.loaded) set s.asked.first s.asked.second (flat_tree s.loaded.top) (claim_in claim))) numbers h)

    abbrev Refuses : List NamedFile → Refusal → Type 0
    Refuses files r = RefusesCheck files w.model.now w.faults.now w.top.now (numbers_of w.set.now) w.first w.second claim cert r

    word_spelled : IsTopWord (case_in s.loaded).program w.top.now is.event.event.top
    word_spelled = subst (λ (x : PairWords). IsTopWord (case_in s.loaded).program x.top.now is.event.event.top) same is.event.event.is_word

    file_refused : (files : List NamedFile) (r : Refusal) → HoldsCase files w.model.now w.faults.now (case_in s.loaded) →
        RefusesFile files cert (staged_of (case_in s.loaded) w.first w.second) (against_of (case_in s.loaded) (numbers_of w.set.now) w.first w.second (flat_tree s.loaded.top) (claim_in claim)) r → Refuses files r
    file_refused files r holds (unread bad) =
        no_certificate (case_in s.loaded) is.event.event.top (holds_asked s is files w (numbers_of w.set.now) same numbers holds) word_spelled bad
    file_refused files r holds (unfit a has bad) =
        not_accepted (case_in s.loaded) is.event.event.top (flat_tree s.loaded.top) a (holds_asked s is files w (numbers_of w.set.now) same numbers holds) word_spelled is.event.event.is_tree has bad

    -- its file is
    pub check_refused : (told mid : Option (List NamedFile)) (r : Refusal) → mid ≡ told → IfSome told (λ files. HoldsCase files w.model.now w.faults.now (case_in s.loaded)) →
        IfSome mid (λ files. RefusesFile files cert (staged_in s) (against_in s (claim_in claim)) r) → IfSome told (λ files. Refuses files r)
    check_refused told mid r kept holds bad = at_told told holds (subst (λ x. IfSome x (λ files. RefusesFile files cert (staged_in s) (against_in s (claim_in claim)) r)) kept bad)
      where
        at_told : (x : Option (List NamedFile)) → IfSome x (λ files. HoldsCase files w.model.now w.faults.now (case_in s.loaded)) →
            IfSome x (λ files. RefusesFile files cert (staged_in s) (against_in s (claim_in claim)) r) → IfSome x (λ files. Refuses files r)
        at_told None holds bad = tt
        at_told (Some files) holds bad = file_refused files r holds (over_words (λ m e. RefusesFile files cert m e r) bad)

    abbrev Accepts : List NamedFile → Type 0
    Accepts files = AcceptsOrder files w.model.now w.faults.now w.top.now (numbers_of w.set.now) w.first w.second claim cert

    file_accepts : (files : List NamedFile) → HoldsCase files w.model.now w.faults.now (case_in s.loaded) → AcceptsFile files cert (staged_in s) (against_in s (claim_in claim)) → Accepts files
    file_accepts files holds accepts =
        subst (λ (x : PairWords). AcceptsOrder files x.model.now x.faults.now x.top.now (numbers_of w.set.now) x.first x.second claim cert) same
        (subst (λ set. AcceptsOrder files s.asked.model.now s.asked.faults.now s.asked.top.now set s.asked.first s.asked.second claim cert) numbers
        (record {
          c = case_in s.loaded;
          holds = holds_pair s is files s.asked.model.now s.asked.faults.now (subst (λ (x : PairWords). HoldsCase files x.model.now x.faults.now (case_in s.loaded)) (sym same) holds);
          event = is.event.event.top;
          is_event = is.event.event.is_word;
          tree = flat_tree s.loaded.top;
          is_tree = is.event.event.is_tree;
          one = (the_faults s is).one;
          other = (the_faults s is).other;
          are = are_faults s is;
          accepts = accepts;
          right = claim_is_so s is (claim_in claim) accepts.certificate accepts.accepted;
        }))

    -- or it is accepted
    pub check_accepts : (told mid : Option (List NamedFile)) → mid ≡ told → IfSome told (λ files. HoldsCase files w.model.now w.faults.now (case_in s.loaded)) →
        IfSome mid (λ files. AcceptsFile files cert (staged_in s) (against_in s (claim_in claim))) → IfSome told Accepts
    check_accepts told mid kept holds accepts = at_told told holds (subst (λ x. IfSome x (λ files. AcceptsFile files cert (staged_in s) (against_in s (claim_in claim)))) kept accepts)
      where
        at_told : (x : Option (List NamedFile)) → IfSome x (λ files. HoldsCase files w.model.now w.faults.now (case_in s.loaded)) →
            IfSome x (λ files. AcceptsFile files cert (staged_in s) (against_in s (claim_in claim))) → IfSome x Accepts
        at_told None holds accepts = tt
        at_told (Some files) holds accepts = file_accepts files holds accepts

-- so it is, where the judgement is done
pub check_done : {A E : Type 0} (w : PairWords) (claim cert : Text) (s : PairCase) → IsStagedCase s → s.asked ≡ w → (IsAsked w → s.set.items ≡ numbers_of w.set.now) → (told mid : Option (List NamedFile)) → mid ≡ told →
    IfSome told (λ files. HoldsCase files w.model.now w.faults.now (case_in s.loaded)) → (done : Result A E) → OnOk done (IfSome mid (λ files. AcceptsFile files cert (staged_in s) (against_in s (claim_in claim)))) →
    OnOk done (IsAsked w → IfSome told (λ files. AcceptsOrder files w.model.now w.faults.now w.top.now (numbers_of w.set.now) w.first w.second claim cert))
check_done w claim cert s is same numbers told mid kept holds (Ok x) accepts = λ asked. check_accepts w claim cert s is same (numbers asked) told mid kept holds accepts
check_done w claim cert s is same numbers told mid kept holds (Err stop) accepts = tt

module _ (model faults top : Text) (set : List ℕ) (first second : ℕ) (claim cert : Text) where
  -- an accepted claim was said
  pub check_said : (told : Option (List NamedFile)) (said mid now : Said) → mid ≡ said → IfSome told (λ files. AcceptsOrder files model faults top set first second claim cert) → now ≡ said_more mid (codes "accepted\n") →
      IfSome told (λ files. HasCheckedOrder files model faults top set first second claim cert status.Done said now)
  check_said None said mid now silent accepts says = tt
  check_said (Some files) said mid now silent accepts says = record { accepts = accepts; ends = refl; reported = says ∙ ap (λ t. said_more t (codes "accepted\n")) silent }
