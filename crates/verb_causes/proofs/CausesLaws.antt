-- From the parts of the work on common causes to what it comes to.
use Rattle.std.proofs.Common.{◌≡◌, inr, ℕ, List, Option, Some, None, Result, OnOk, OnErr, IfSome, length, ◌++◌, refl, sym, subst, ap, ◌∙◌}
use Rattle.std.specs.Prelude.{codes}
use Rattle.base_values.specs.declared.limits.TheConstants.{MOST_FILE_BYTES}
use Rattle.base_files.specs.declared.files.NamedFile.{NamedFile}
use Rattle.base_files.specs.Desk.{said_more, SaysPrefix}
use Rattle.smv_language.specs.Language.{Tree, Text, ProgramTree, Each, FlatLeaf, FlatModel, flat_tree}
use Rattle.smv_flat_laws.specs.History.{Mode, with_history}
use Rattle.smv_type_laws.specs.Models.{IsTyped}
use Rattle.fault_weave.specs.Faults.{Fault}
use Rattle.cut_text_laws.specs.AnalysisText.{size_line}
use Rattle.cut_text_laws.specs.Analysis.{told_ending}
use Rattle.cut_search_laws.specs.Problem.{problem_of}
use Rattle.cut_search.specs.Answer.{IsEnd}
use Rattle.cut_search.specs.declared.answer.End.{End}
use Rattle.cut_search.specs.declared.answer.End.TheVariants.{Complete, Bounded}
use Rattle.cut_report_laws.specs.SearchAnswer.{ending_of}
use Rattle.cert_laws.specs.Certificate.{Certificate}
use Rattle.fault_cause_laws.specs.Causes.{CommonCause}
use Rattle.fault_cause_laws.specs.StagedModel.{with_causes, events_of}
use Rattle.fault_cause_laws.specs.KindLaws.{AreOfKinds, IsShortCause}
use Rattle.fault_cause_laws.proofs.StagedKinds.{staged_size_alone}
use Rattle.fault_causes_reader.specs.declared.fault.CauseFault.{CauseFault}
use Rattle.fault_causes_reader.specs.declared.fault.CauseFault.TheVariants as cause_fault
use Rattle.fault_causes_reader.specs.BrokenRules.{rule_of}
use Rattle.fault_causes_reader.specs.CausesFile.{AreRead, FaultSays}
use Rattle.verb_loading.specs.declared.loaded.LoadedCase.{LoadedCase}
use Rattle.verb_loading.specs.declared.status.InputFault.{InputFault}
use Rattle.verb_loading.specs.declared.status.Refusal.{Refusal}
use Rattle.verb_loading.specs.declared.status.Refusal.TheVariants as refusal
use Rattle.verb_loading.specs.declared.input.Stop.TheVariants as stop
use Rattle.verb_loading.specs.declared.wrong.Wrong.{Wrong}
use Rattle.verb_loading.specs.declared.wrong.Wrong.TheVariants as wrong
use Rattle.verb_loading.specs.Wrongs.{parse_wrong, IfRefused}
use Rattle.verb_loading.specs.Wholes.{BreaksKinds}
use Rattle.verb_loading.specs.declared.input.Input.TheVariants as input
use Rattle.verb_loading.specs.Inputs.{stop_at, IsRefusedFile, RefusesModel, HoldsModel, RefusesFaults}
use Rattle.verb_loading.specs.Cases.{Case, extension_of, HoldsCase, IsTopWord, IsWrongWord}
use Rattle.verb_loading.specs.Inputs.{HasAtMost}
use Rattle.verb_loading.specs.LoadedCases.{case_of, IsLoaded}
use Rattle.verb_loading.specs.LoadedEvents.{case_in}
use Rattle.verb_loading.specs.CaseAnswers.{told_maybe, Told, Said}
use Rattle.cert_file.specs.CertificateFiles.{RefusesCertificate, HoldsCertificate}
use Rattle.verb_loading.proofs.SaidLaws.{says_in_part}
use Rattle.cut_model_search.proofs.CaseKinds.{case_kinds, size_told}
use Rattle.verb_loading.specs.declared.status.Status.{Status}
use Rattle.verb_loading.specs.declared.status.Status.TheVariants as status
use Rattle.verb_loading.specs.Statuses.{ended_with, IsBoundedAt}
use Rattle.verb_causes.specs.declared.staged.StagedEvent.{StagedEvent}
use Rattle.cert_file.specs.declared.conclusion.Conclusion.{Conclusion}
use Rattle.cert_file.specs.Conclusions.{ConcludesInPart}
use Rattle.verb_causes.specs.Causes.{flat_in, modes_in, faults_in, extension_in, AreCausesOf, HoldsCauses, HasCauses, IsStagedOf, causes_in, staged_in, events_in, IsStagedEvent, CertifiesStaged, AcceptsStaged, HoldsStaged, AcceptsCauses, HasCheckedCauses, ChecksCausesInPart, LeavesCheck, IsCausesFinding, FindsCauses, HasFoundCauses, FindsCausesInPart, LeavesCauses, IsSomeCase}
use Rattle.verb_causes.specs.Refusals.{broken_cause, stop_of_causes, KeepsLimits, BreaksStaged, whole_breaks, model_breaks, not_spelled, rule_broken, past_limit, RefusesBytes, RefusesCauses, causes_file, causes_bytes, RefusesStaged, at_model, at_faults, at_causes, at_top, BreaksLine, RefusesJudged, no_certificate, not_accepted, RefusesCauseCheck, at_staged, at_certificate}

-- ---- why the work can't go on

-- a stop at the one refusal is a stop at no other
pub one_refusal : {x r : Refusal} → stop.Refused r ≡ stop.Refused x → r ≡ x
one_refusal e = cc

-- what was said whole, or up to a failure, is a part of the text
pub says_part : {A E : Type 0} (done : Result A E) (before mid now : Said) (bytes text : List ℕ) → mid ≡ before → bytes ≡ text → OnOk done (now ≡ said_more mid bytes) → OnErr done (SaysPrefix mid now bytes) →
    SaysPrefix before now text
says_part done before mid now bytes text silent same whole part = subst (λ t. SaysPrefix t now text) silent (says_in_part done mid now bytes text same whole part)

-- what is wrong with the causes is no end of the desk
pub no_desk_at_causes : (w : Wrong) → stop.Desk ≡ stop_at input.Causes w → ⊥
no_desk_at_causes (wrong.Refused fault) e = cc
no_desk_at_causes wrong.Memory e = cc

pub no_desk_of_causes : (f : CauseFault) → stop.Desk ≡ stop_of_causes f → ⊥
no_desk_of_causes (cause_fault.Parse fault) e = no_desk_at_causes (parse_wrong fault) e
no_desk_of_causes (cause_fault.Broken rule number) e = cc
no_desk_of_causes cause_fault.OutOfMemory e = cc

-- something that may be wrong with other files too is refused
record IsTold (w : Wrong) (r : Refusal) : Type 0 where
  fault : InputFault
  is : wrong.Refused fault ≡ w
  told : r ≡ refusal.Causes fault

told_at_causes : (w : Wrong) (r : Refusal) → stop.Refused r ≡ stop_at input.Causes w → IsTold w r
told_at_causes (wrong.Refused fault) r e = record { fault = fault; is = refl; told = one_refusal e }
told_at_causes wrong.Memory r e = cc

-- ---- the bytes of causes, and their file

module _ (faults : List Fault) (w : ProgramTree) (m : FlatModel) (fs : List Mode) where
  pub refuses_bytes : (bytes : List ℕ) (f : CauseFault) (r : Refusal) → stop.Refused r ≡ stop_of_causes f → FaultSays faults w bytes f → RefusesBytes faults w m fs bytes r
  refuses_bytes bytes (cause_fault.Parse f) r e says =
      let is = told_at_causes (parse_wrong f) r e in (is.fault, is.told, not_spelled f is.fault says is.is refl)
  refuses_bytes bytes (cause_fault.Broken rule number) r e says = (broken_cause (rule_of rule) number, one_refusal e, rule_broken (rule_of rule) number says refl)
  refuses_bytes bytes cause_fault.OutOfMemory r e says = cc

  pub refuses_limit : (bytes : List ℕ) (cs : List CommonCause) → AreRead faults w bytes cs → (wr : Wrong) (r : Refusal) → stop.Refused r ≡ stop_at input.Causes wr → IfRefused (BreaksStaged m fs cs) wr →
      RefusesBytes faults w m fs bytes r
  refuses_limit bytes cs are (wrong.Refused fault) r e bad = (fault, one_refusal e, past_limit cs fault are bad refl)
  refuses_limit bytes cs are wrong.Memory r e bad = cc

  pub file_refused : (told : Option (List NamedFile)) (name : Text) (r : Refusal) →
      (fault : InputFault) × (r ≡ refusal.Causes fault) × IfSome told (λ files. IsRefusedFile files name fault) → IfSome told (λ files. RefusesCauses files name faults w m fs r)
  file_refused None name r bad = tt
  file_refused (Some files) name r bad = causes_file bad.0 bad.1 bad.2

  pub bytes_refused : (told : Option (List NamedFile)) (name : Text) (bytes : List ℕ) (r : Refusal) → IfSome told (λ files. HasAtMost MOST_FILE_BYTES files name bytes) → RefusesBytes faults w m fs bytes r →
      IfSome told (λ files. RefusesCauses files name faults w m fs r)
  bytes_refused None name bytes r has bad = tt
  bytes_refused (Some files) name bytes r has bad = causes_bytes bytes has bad

-- the file holds causes that were read
pub holds_causes : (told : Option (List NamedFile)) (name : Text) (case : LoadedCase) (causes : List CommonCause) (bytes : List ℕ) → IfSome told (λ files. HasAtMost MOST_FILE_BYTES files name bytes) →
    AreCausesOf case bytes causes → IfSome told (λ files. HoldsCauses files name (faults_in case) (extension_in case) causes)
holds_causes None name case causes bytes has are = tt
holds_causes (Some files) name case causes bytes has are = record { bytes = bytes; has = has; are = are }

-- they are those of the case
pub has_causes : (told mid : Option (List NamedFile)) (p : ProgramTree) (l : LoadedCase) (name : Text) (cs : List CommonCause) → IsLoaded p l → mid ≡ told →
    IfSome mid (λ files. HoldsCauses files name (faults_in l) (extension_in l) cs) → IfSome told (λ files. HasCauses files name (case_of p l) cs)
has_causes told mid p l name cs is same has =
    subst (λ w. IfSome told (λ files. HoldsCauses files name (faults_in l) w cs)) is.program
    (subst (λ t. IfSome t (λ files. HoldsCauses files name (faults_in l) (extension_in l) cs)) same has)

-- ---- the limits of the staged model

-- the faults of what was loaded are modes of its flat model, which breaks no rule of kinds
pub loaded_kinds : (case : LoadedCase) → IsSomeCase case → AreOfKinds (flat_in case) (modes_in case)
loaded_kinds case is =
    let h = case_kinds (case_of is.0 case) is.2.0 is.2.1 is.1.is_case in
    record { closed = h.closed; no_breach = h.no_breach; modes = h.modes; symbols = h.symbols }

module _ (m : FlatModel) (fs : List Mode) (cs : List CommonCause) (n whole : FlatModel) (es : List Mode) (model : n ≡ with_causes m fs cs) (events : es ≡ events_of m fs cs) (full : whole ≡ with_history n es) where
  whole_is : whole ≡ with_history (with_causes m fs cs) (events_of m fs cs)
  whole_is = full ∙ (λ j. with_history (model j) (events j))

  module _ (are : AreOfKinds m fs) (short : Each (IsShortCause (length fs)) cs) where
    pub whole_past_limit : (wr : Wrong) → IfRefused (BreaksKinds whole) wr → IfRefused (BreaksStaged m fs cs) wr
    whole_past_limit (wrong.Refused fault) bad =
        let told = size_told (with_history (with_causes m fs cs) (events_of m fs cs)) fault (subst (λ k. BreaksKinds k fault) whole_is bad) (λ rule item. (staged_size_alone m fs cs are short rule item).1) in
        whole_breaks told.0 told.1
    whole_past_limit wrong.Memory bad = tt

    pub model_past_limit : IsTyped whole → (wr : Wrong) → IfRefused (BreaksKinds n) wr → IfRefused (BreaksStaged m fs cs) wr
    model_past_limit typed (wrong.Refused fault) bad =
        let told = size_told (with_causes m fs cs) fault (subst (λ k. BreaksKinds k fault) model bad) (λ rule item. (staged_size_alone m fs cs are short rule item).0) in
        model_breaks (subst IsTyped whole_is typed) told.0 told.1
    model_past_limit typed wrong.Memory bad = tt

pub keeps_limits : (case : LoadedCase) (cs : List CommonCause) (n whole : FlatModel) (es : List Mode) → IsStagedOf case cs n whole es → KeepsLimits (flat_in case) (modes_in case) cs
keeps_limits case cs n whole es is =
    record { whole = subst IsTyped (whole_is (flat_in case) (modes_in case) cs n whole es is.model is.events is.full) is.whole; typed = subst IsTyped is.model is.typed }

-- ---- what the three files and the word come to

module _ (model faults causes top : Text) where
  pub staged_no_model : (told : Option (List NamedFile)) (r : Refusal) → IfSome told (λ files. RefusesModel files model r) →
      IfSome told (λ files. RefusesStaged files model faults causes top r)
  staged_no_model None r bad = tt
  staged_no_model (Some files) r bad = at_model bad

  pub staged_no_faults : (told mid : Option (List NamedFile)) (p : ProgramTree) (r : Refusal) → mid ≡ told → IfSome told (λ files. HoldsModel files model p) →
      IfSome mid (λ files. RefusesFaults files faults p r) → IfSome told (λ files. RefusesStaged files model faults causes top r)
  staged_no_faults told mid p r same holds bad = at_told told holds (subst (λ t. IfSome t (λ files. RefusesFaults files faults p r)) same bad) where
    at_told : (t : Option (List NamedFile)) → IfSome t (λ files. HoldsModel files model p) → IfSome t (λ files. RefusesFaults files faults p r) →
        IfSome t (λ files. RefusesStaged files model faults causes top r)
    at_told None holds bad = tt
    at_told (Some files) holds bad = at_faults p holds bad

  pub staged_no_causes : (told mid : Option (List NamedFile)) (p : ProgramTree) (l : LoadedCase) (r : Refusal) → IsLoaded p l → mid ≡ told → IfSome told (λ files. HoldsCase files model faults (case_of p l)) →
      IfSome mid (λ files. RefusesCauses files causes (faults_in l) (extension_in l) (flat_in l) (modes_in l) r) → IfSome told (λ files. RefusesStaged files model faults causes top r)
  staged_no_causes told mid p l r is same holds bad =
      at_told told holds
      (subst (λ w. IfSome told (λ files. RefusesCauses files causes (faults_in l) w (flat_in l) (modes_in l) r)) is.program
      (subst (λ t. IfSome t (λ files. RefusesCauses files causes (faults_in l) (extension_in l) (flat_in l) (modes_in l) r)) same bad))
    where
      at_told : (t : Option (List NamedFile)) → IfSome t (λ files. HoldsCase files model faults (case_of p l)) →
          IfSome t (λ files. RefusesCauses files causes (case_of p l).faults (extension_of (case_of p l)) (flat_in l) (modes_in l) r) → IfSome t (λ files. RefusesStaged files model faults causes top r)
      at_told None holds bad = tt
      at_told (Some files) holds bad = at_causes (case_of p l) holds bad

  pub staged_no_top : (told : Option (List NamedFile)) (c : Case) (cs : List CommonCause) (r : Refusal) → IfSome told (λ files. HoldsCase files model faults c) →
      IfSome told (λ files. HasCauses files causes c cs) → KeepsLimits c.flat c.modes cs → (fault : InputFault) × (r ≡ refusal.Top fault) × IsWrongWord c.program top fault →
      IfSome told (λ files. RefusesStaged files model faults causes top r)
  staged_no_top None c cs r holds has keeps bad = tt
  staged_no_top (Some files) c cs r holds has keeps bad = at_top c cs bad.0 bad.1 holds has keeps bad.2

  -- what is told of a case is told of the files that hold it
  pub staged_no_rest : (told mid : Option (List NamedFile)) (c : Case) (r : Refusal) → mid ≡ told → IfSome told (λ files. HoldsCase files model faults c) →
      (IfSome mid (λ files. HoldsCase files model faults c) → IfSome mid (λ files. RefusesStaged files model faults causes top r)) → IfSome told (λ files. RefusesStaged files model faults causes top r)
  staged_no_rest told mid c r same holds bad =
      subst (λ t. IfSome t (λ files. RefusesStaged files model faults causes top r)) same (bad (subst (λ t. IfSome t (λ files. HoldsCase files model faults c)) (sym same) holds))

  -- they hold what was loaded
  pub holds_staged : (told : Option (List NamedFile)) (l : StagedEvent) → IfSome told (λ files. HoldsCase files model faults (case_in l.loaded)) →
      IfSome told (λ files. HasCauses files causes (case_in l.loaded) (causes_in l)) → l.word.now ≡ top → IsStagedEvent l → IfSome told (λ files. HoldsStaged files model faults causes top l)
  holds_staged None l holds has word staged = tt
  holds_staged (Some files) l holds has word staged = record { holds = holds; has_causes = has; is_word = word; staged = staged }

  -- ---- a search

  pub finds_causes : (told : Option (List NamedFile)) (depth : ℕ) (l : StagedEvent) (f : Conclusion) → IfSome told (λ files. HoldsStaged files model faults causes top l) → IsCausesFinding l depth f →
      IfSome told (λ files. FindsCauses files model faults causes top depth f)
  finds_causes None depth l f holds finding = tt
  finds_causes (Some files) depth l f holds finding = record { loaded = l; holds = holds; finding = finding }

  module _ (cert : Text) (depth : ℕ) (told : Option (List NamedFile)) (f : Conclusion) (finds : IfSome told (λ files. FindsCauses files model faults causes top depth f)) where
    -- what was found, written and said
    pub has_found : (s : Status) (before after : Told) (said now : Said) → s ≡ ended_with (told_ending f.ending) → after ≡ told_maybe before cert f.cert → now ≡ said_more said f.report →
        IfSome told (λ files. HasFoundCauses files model faults causes top cert depth s before after said now)
    has_found s before after said now ends written says = at_told told finds
      where
        at_told : (t : Option (List NamedFile)) → IfSome t (λ files. FindsCauses files model faults causes top depth f) →
            IfSome t (λ files. HasFoundCauses files model faults causes top cert depth s before after said now)
        at_told None finds = tt
        at_told (Some files) finds = record { found = f; finds = finds; ends = ends; written = written; reported = says }

    -- or a part of it
    pub leaves_found : (mid after : Told) (mid_said said now : Said) → mid ≡ told → mid_said ≡ said → ConcludesInPart cert f mid after mid_said now →
        LeavesCauses model faults causes top cert depth told after said now
    leaves_found mid after mid_said said now same silent part =
        inr (at_told told finds (subst (λ t. ConcludesInPart cert f t after said now) same (subst (λ t. ConcludesInPart cert f mid after t now) silent part)))
      where
        at_told : (t : Option (List NamedFile)) → IfSome t (λ files. FindsCauses files model faults causes top depth f) → ConcludesInPart cert f told after said now →
            IfSome t (λ files. FindsCausesInPart files model faults causes top cert depth told after said now)
        at_told None finds part = tt
        at_told (Some files) finds part = record { found = f; finds = finds; in_part = part }

  -- ---- a check

  pub check_no_staged : (cert : Text) (told : Option (List NamedFile)) (r : Refusal) → IfSome told (λ files. RefusesStaged files model faults causes top r) →
      IfSome told (λ files. RefusesCauseCheck files model faults causes top cert r)
  check_no_staged cert None r bad = tt
  check_no_staged cert (Some files) r bad = at_staged bad

  module _ (cert : Text) (told mid : Option (List NamedFile)) (l : StagedEvent) (same : mid ≡ told) (holds : IfSome told (λ files. HoldsStaged files model faults causes top l)) where
    pub check_no_certificate : (r : Refusal) → IfSome mid (λ files. RefusesJudged files (staged_in l) (events_in l) (flat_tree l.loaded.top) cert r) →
        IfSome told (λ files. RefusesCauseCheck files model faults causes top cert r)
    check_no_certificate r bad = at_told told holds (subst (λ t. IfSome t (λ files. RefusesJudged files (staged_in l) (events_in l) (flat_tree l.loaded.top) cert r)) same bad)
      where
        at_told : (t : Option (List NamedFile)) → IfSome t (λ files. HoldsStaged files model faults causes top l) →
            IfSome t (λ files. RefusesJudged files (staged_in l) (events_in l) (flat_tree l.loaded.top) cert r) → IfSome t (λ files. RefusesCauseCheck files model faults causes top cert r)
        at_told None holds bad = tt
        at_told (Some files) holds bad =
            let c : Case = case_in l.loaded in
            let tree : Tree FlatLeaf = flat_tree l.loaded.top in
            let event = holds.staged.event.event in
            let is = holds.staged.staged in
            at_certificate c (causes_in l) event.top tree holds.holds holds.has_causes (keeps_limits l.loaded.case (causes_in l) _ _ _ is)
            (subst (λ (word : Text). IsTopWord c.program word event.top) holds.is_word event.is_word) event.is_tree
            (subst (λ (n : FlatModel). RefusesJudged files n (events_of c.flat c.modes (causes_in l)) tree cert r) is.model
            (subst (λ (es : List Mode). RefusesJudged files (staged_in l) es tree cert r) is.events bad))

    pub accepts_causes : (report : Text) → IfSome mid (λ files. AcceptsStaged files l cert report) → IfSome told (λ files. AcceptsCauses files model faults causes top cert report)
    accepts_causes report accepts = at_told told holds (subst (λ t. IfSome t (λ files. AcceptsStaged files l cert report)) same accepts)
      where
        at_told : (t : Option (List NamedFile)) → IfSome t (λ files. HoldsStaged files model faults causes top l) → IfSome t (λ files. AcceptsStaged files l cert report) →
            IfSome t (λ files. AcceptsCauses files model faults causes top cert report)
        at_told None holds accepts = tt
        at_told (Some files) holds accepts = record { loaded = l; holds = holds; accepts = accepts }

  module _ (cert : Text) (told : Option (List NamedFile)) (report : Text) (accepts : IfSome told (λ files. AcceptsCauses files model faults causes top cert report)) where
    pub has_checked : (said now : Said) → now ≡ said_more said report → IfSome told (λ files. HasCheckedCauses files model faults causes top cert said now)
    has_checked said now says = at_told told accepts
      where
        at_told : (t : Option (List NamedFile)) → IfSome t (λ files. AcceptsCauses files model faults causes top cert report) → IfSome t (λ files. HasCheckedCauses files model faults causes top cert said now)
        at_told None accepts = tt
        at_told (Some files) accepts = record { report = report; accepts = accepts; reported = says }

    pub leaves_checked : (said now : Said) → SaysPrefix said now report → LeavesCheck model faults causes top cert told said now
    leaves_checked said now part = inr (at_told told accepts)
      where
        at_told : (t : Option (List NamedFile)) → IfSome t (λ files. AcceptsCauses files model faults causes top cert report) →
            IfSome t (λ files. ChecksCausesInPart files model faults causes top cert said now)
        at_told None accepts = tt
        at_told (Some files) accepts = record { report = report; accepts = accepts; in_part = part }

-- the certificate of a file, judged over what was loaded
module _ (l : StagedEvent) (name : Text) (told : Option (List NamedFile)) where
  pub no_file : (r : Refusal) → IfSome told (λ files. RefusesCertificate files name r) →
      IfSome told (λ files. RefusesJudged files (staged_in l) (events_in l) (flat_tree l.loaded.top) name r)
  no_file r bad = at_told told bad
    where
      at_told : (t : Option (List NamedFile)) → IfSome t (λ files. RefusesCertificate files name r) →
          IfSome t (λ files. RefusesJudged files (staged_in l) (events_in l) (flat_tree l.loaded.top) name r)
      at_told None bad = tt
      at_told (Some files) bad = no_certificate bad

  module _ (a : Certificate) (has : IfSome told (λ files. HoldsCertificate files name a)) where
    pub line_refused : (r : Refusal) → BreaksLine (staged_in l) (events_in l) (flat_tree l.loaded.top) a r →
        IfSome told (λ files. RefusesJudged files (staged_in l) (events_in l) (flat_tree l.loaded.top) name r)
    line_refused r bad = at_told told has
      where
        at_told : (t : Option (List NamedFile)) → IfSome t (λ files. HoldsCertificate files name a) →
            IfSome t (λ files. RefusesJudged files (staged_in l) (events_in l) (flat_tree l.loaded.top) name r)
        at_told None has = tt
        at_told (Some files) has = not_accepted a has bad

    pub accepts_staged : (report : Text) → CertifiesStaged l a → report ≡ codes "accepted\n" ++ size_line a.size (length (events_in l)) → IfSome told (λ files. AcceptsStaged files l name report)
    accepts_staged report certifies line = at_told told has
      where
        at_told : (t : Option (List NamedFile)) → IfSome t (λ files. HoldsCertificate files name a) → IfSome t (λ files. AcceptsStaged files l name report)
        at_told None has = tt
        at_told (Some files) has = record { certificate = a; has_certificate = has; certifies = certifies; is = line }

-- a search is bounded by its depth alone
pub found_within : (l : StagedEvent) (depth : ℕ) (f : Conclusion) → IsCausesFinding l depth f → IsBoundedAt depth (ended_with (told_ending f.ending))
found_within l depth f h k is = by_end h.analysis.end h.searched.answer.ends (sym (ap ended_with h.ends) ∙ is)
  where
    none : status.Done ≡ status.Bounded k → k ≡ depth
    none e = cc

    same : (j : ℕ) → status.Bounded j ≡ status.Bounded k → k ≡ j
    same j e = cc

    by_end : (end : End) → IsEnd (problem_of (staged_in l) (events_in l) (flat_tree l.loaded.top)) depth (length (events_in l)) h.searched.answer.found end → ended_with (ending_of end) ≡ status.Bounded k → k ≡ depth
    by_end (Complete clauses) ends e = none e
    by_end (Bounded j) ends e = same j e ∙ ends.0
