-- What is refused of causes is refused for one reason, and nothing is where they were searched or judged.
use Rattle.std.proofs.Common.{◌≡◌, inl, inr, ℕ, List, refl, sym, ap, subst, ◌∙◌}
use Rattle.base_values.specs.declared.limits.TheConstants.{MOST_FILE_BYTES}
use Rattle.base_files.specs.declared.files.NamedFile.{NamedFile}
use Rattle.smv_language.specs.Language.{Tree, Text, Formula, ProgramTree, Value, flat_tree, FlatLeaf, FlatModel}
use Rattle.smv_flat_laws.specs.FlatTrace.{IsFlatTrace}
use Rattle.smv_flat_laws.specs.History.{Mode, with_history}
use Rattle.smv_type_laws.specs.ExpressionKinds.{too_large}
use Rattle.smv_type_laws.proofs.Typed.{typed_has_none}
use Rattle.sat_encoding_laws.specs.FlatTraces.{ReachesTop, HasFailedNumber}
use Rattle.fault_weave.specs.Faults.{Fault}
use Rattle.cut_text_laws.specs.TraceOfText.{GivesTrace}
use Rattle.cert_laws.specs.Certificate.{Certificate}
use Rattle.cert_laws.specs.Acceptance.{number_of}
use Rattle.cert_laws.proofs.Objections.{one_objection}
use Rattle.cert_laws.specs.Subject.{subject_of}
use Rattle.fault_cause_laws.specs.Causes.{CommonCause}
use Rattle.fault_cause_laws.specs.StagedModel.{with_causes, events_of}
use Rattle.fault_causes_reader.specs.CauseStages.{IsCauses}
use Rattle.fault_causes_reader.specs.CausesFile.{AreRead}
use Rattle.fault_causes_reader.proofs.OneReading.{one_reading, one_broken, read_unbroken}
use Rattle.verb_loading.specs.declared.status.InputFault.{InputFault}
use Rattle.verb_loading.specs.declared.status.Objection.TheVariants as objection
use Rattle.verb_loading.specs.declared.status.Refusal.TheVariants as refusal
use Rattle.verb_loading.specs.Inputs.{RefusesFaults}
use Rattle.verb_loading.specs.Cases.{Case, extension_of, HoldsCase, IsTopWord, IsWrongWord}
use Rattle.verb_loading.specs.Tasks.{IsTopTree}
use Rattle.cert_file.specs.CertificateFiles.{HoldsCertificate}
use Rattle.verb_loading.specs.LoadedEvents.{case_in}
use Rattle.verb_loading.proofs.Told.{one_refusal}
use Rattle.verb_loading.proofs.TextFaults.{reason, of_this_kind, same_reason}
use Rattle.verb_loading.proofs.OneExtending.{one_refused_faults}
use Rattle.verb_loading.proofs.OneModelFault.{one_refused_model, held_not_refused, one_held_model}
use Rattle.verb_loading.specs.Wrongs.{kinds_fault}
use Rattle.verb_loading.proofs.OneCase.{case_not_refused, one_case}
use Rattle.verb_loading.proofs.OneTop.{one_wrong_word, word_not_wrong}
use Rattle.verb_loading.proofs.FilesWithin.{no_bytes_within, one_fault_above, same_bytes_within}
use Rattle.cert_file.proofs.OneCertificate.{one_refused_certificate, held_certificate_not_refused, one_held_certificate, moved}
use Rattle.verb_loading.specs.declared.status.Refusal.{Refusal}
use Rattle.verb_causes.specs.declared.staged.StagedEvent.{StagedEvent}
use Rattle.verb_causes.specs.Causes.{HoldsCauses, HasCauses, causes_in, staged_in, events_in, BreaksNoLine, HoldsStaged, AcceptsCauses}
use Rattle.verb_causes.specs.Refusals.{broken_cause, KeepsLimits, BreaksStaged, whole_breaks, model_breaks, IsWrongCauses, not_spelled, rule_broken, past_limit, RefusesBytes, RefusesCauses, causes_file, causes_bytes, RefusesStaged, at_model, at_faults, at_causes, at_top, HoldsCaused, BreaksLine, at_line, RefusesJudged, no_certificate, not_accepted, RefusesCauseCheck, at_staged, at_certificate}
use Rattle.verb_causes.proofs.CausesLaws.{keeps_limits}

-- ---- the limits of a staged model

module _ (m : FlatModel) (fs : List Mode) (cs : List CommonCause) where
  one_limit : (a b : InputFault) → BreaksStaged m fs cs a → BreaksStaged m fs cs b → a ≡ b
  one_limit a b h g = told a h ∙ sym (told b g)
    where
      told : (fault : InputFault) → BreaksStaged m fs cs fault → fault ≡ kinds_fault too_large 0
      told fault (whole_breaks passes is) = is
      told fault (model_breaks typed passes is) = is

  kept_breaks_none : (a : InputFault) → KeepsLimits m fs cs → BreaksStaged m fs cs a → ⊥
  kept_breaks_none a kept (whole_breaks passes is) = typed_has_none (with_history (with_causes m fs cs) (events_of m fs cs)) too_large 0 kept.whole passes
  kept_breaks_none a kept (model_breaks typed passes is) = typed_has_none (with_causes m fs cs) too_large 0 kept.typed passes

-- ---- the bytes of causes

module _ (faults : List Fault) (w : ProgramTree) (m : FlatModel) (fs : List Mode) (bytes : List ℕ) where
  one_wrong : (a b : InputFault) → IsWrongCauses faults w m fs bytes a → IsWrongCauses faults w m fs bytes b → a ≡ b
  one_wrong a b (not_spelled f x means e is) (not_spelled g y also d was) =
      is
      ∙ (one_refusal (same_reason IsCauses ⊥ bytes (λ deep. absurd deep) (reason IsCauses ⊥ bytes f x e means) (reason IsCauses ⊥ bytes g y d also)))
      ∙ sym was
  one_wrong a b (not_spelled f x means e is) (rule_broken q k broken was) =
      absurd (of_this_kind IsCauses ⊥ bytes broken.spelled.0 broken.spelled.1 (broken.written, broken.spelled.2) (λ deep. deep) (reason IsCauses ⊥ bytes f x e means))
  one_wrong a b (not_spelled f x means e is) (past_limit cs y read breaks was) =
      absurd (of_this_kind IsCauses ⊥ bytes read.spelled.0 read.spelled.1 (read.written, read.spelled.2) (λ deep. deep) (reason IsCauses ⊥ bytes f x e means))
  one_wrong a b (rule_broken r n broken is) (not_spelled g y also d was) =
      absurd (of_this_kind IsCauses ⊥ bytes broken.spelled.0 broken.spelled.1 (broken.written, broken.spelled.2) (λ deep. deep) (reason IsCauses ⊥ bytes g y d also))
  one_wrong a b (rule_broken r n broken is) (rule_broken q k other was) =
      let same = one_broken faults w bytes r q n k broken other in is ∙ ap (λ rule. broken_cause rule n) same.0 ∙ ap (broken_cause q) same.1 ∙ sym was
  one_wrong a b (rule_broken r n broken is) (past_limit cs y read breaks was) = absurd (read_unbroken faults w bytes cs r n read broken)
  one_wrong a b (past_limit cs x read breaks is) (not_spelled g y also d was) =
      absurd (of_this_kind IsCauses ⊥ bytes read.spelled.0 read.spelled.1 (read.written, read.spelled.2) (λ deep. deep) (reason IsCauses ⊥ bytes g y d also))
  one_wrong a b (past_limit cs x read breaks is) (rule_broken q k broken was) = absurd (read_unbroken faults w bytes cs q k read broken)
  one_wrong a b (past_limit cs x read breaks is) (past_limit ds y other also was) =
      is ∙ (one_limit m fs cs x y breaks (subst (λ es. BreaksStaged m fs es y) (one_reading faults w bytes ds cs other read) also)) ∙ sym was

  read_not_wrong : (cs : List CommonCause) (a : InputFault) → AreRead faults w bytes cs → KeepsLimits m fs cs → IsWrongCauses faults w m fs bytes a → ⊥
  read_not_wrong cs a read kept (not_spelled f x means e is) =
      of_this_kind IsCauses ⊥ bytes read.spelled.0 read.spelled.1 (read.written, read.spelled.2) (λ deep. deep) (reason IsCauses ⊥ bytes f x e means)
  read_not_wrong cs a read kept (rule_broken r n broken is) = read_unbroken faults w bytes cs r n read broken
  read_not_wrong cs a read kept (past_limit ds x other breaks is) = kept_breaks_none m fs cs x kept (subst (λ es. BreaksStaged m fs es x) (one_reading faults w bytes ds cs other read) breaks)

-- ---- the file of causes

module _ (files : List NamedFile) (name : Text) where
  module _ (faults : List Fault) (w : ProgramTree) (m : FlatModel) (fs : List Mode) where
    one_refused_causes : (r s : Refusal) → RefusesCauses files name faults w m fs r → RefusesCauses files name faults w m fs s → r ≡ s
    one_refused_causes r s (causes_file a is bad) (causes_file b was also) = is ∙ ap (λ f. refusal.Causes f) (one_fault_above MOST_FILE_BYTES files name a b bad also) ∙ sym was
    one_refused_causes r s (causes_file a is bad) (causes_bytes bytes has wrong) = absurd (no_bytes_within MOST_FILE_BYTES files name a bytes bad has)
    one_refused_causes r s (causes_bytes bytes has wrong) (causes_file b was bad) = absurd (no_bytes_within MOST_FILE_BYTES files name b bytes bad has)
    one_refused_causes r s (causes_bytes bytes has wrong) (causes_bytes others holds also) =
        let there : RefusesBytes faults w m fs bytes s = subst (λ t. RefusesBytes faults w m fs t s) (same_bytes_within MOST_FILE_BYTES files name others bytes holds has) also in
        wrong.1 ∙ ap (λ f. refusal.Causes f) (one_wrong faults w m fs bytes wrong.0 there.0 wrong.2 there.2) ∙ sym there.1

    held_causes_not_refused : (cs : List CommonCause) (r : Refusal) → HoldsCauses files name faults w cs → KeepsLimits m fs cs → RefusesCauses files name faults w m fs r → ⊥
    held_causes_not_refused cs r h kept (causes_file a is bad) = no_bytes_within MOST_FILE_BYTES files name a h.bytes bad h.has
    held_causes_not_refused cs r h kept (causes_bytes bytes has wrong) =
        let there : RefusesBytes faults w m fs h.bytes r = subst (λ t. RefusesBytes faults w m fs t r) (same_bytes_within MOST_FILE_BYTES files name bytes h.bytes has h.has) wrong in
        read_not_wrong faults w m fs h.bytes cs there.0 h.are kept there.2

  one_held_causes : (faults : List Fault) (w : ProgramTree) (cs ds : List CommonCause) → HoldsCauses files name faults w cs → HoldsCauses files name faults w ds → ds ≡ cs
  one_held_causes faults w cs ds h g =
      one_reading faults w h.bytes ds cs (subst (λ t. AreRead faults w t ds) (same_bytes_within MOST_FILE_BYTES files name g.bytes h.bytes g.has h.has) g.are) h.are

-- ---- the model, the instructions, the causes and the top event

abbrev RefusesCausesOf : List NamedFile → Text → Case → Refusal → Type 0
RefusesCausesOf files causes c r = RefusesCauses files causes c.faults (extension_of c) c.flat c.modes r

abbrev KeepsLimitsOf : Case → List CommonCause → Type 0
KeepsLimitsOf c cs = KeepsLimits c.flat c.modes cs

module _ (files : List NamedFile) (model faults causes top : Text) where
  -- causes of one case are those of the other, since these are one
  same_causes : (c d : Case) (cs ds : List CommonCause) → HoldsCase files model faults c → HoldsCase files model faults d → HasCauses files causes c cs → HasCauses files causes d ds → ds ≡ cs
  same_causes c d cs ds held other has have =
      one_held_causes files causes c.faults (extension_of c) cs ds has (subst (λ k. HasCauses files causes k ds) (one_case files model faults d c other held) have)

  -- where a case holds with causes that pass no limit, the causes are not refused
  causes_not_refused : (c d : Case) (cs : List CommonCause) (r : Refusal) → HoldsCase files model faults c → HoldsCase files model faults d → HasCauses files causes c cs → KeepsLimitsOf c cs →
      RefusesCausesOf files causes d r → ⊥
  causes_not_refused c d cs r held other has kept bad =
      held_causes_not_refused files causes c.faults (extension_of c) c.flat c.modes cs r has kept (subst (λ k. RefusesCausesOf files causes k r) (one_case files model faults d c other held) bad)

  pub one_refused_staged : (r s : Refusal) → RefusesStaged files model faults causes top r → RefusesStaged files model faults causes top s → r ≡ s
  one_refused_staged r s (at_model bad) (at_model also) = one_refused_model files model r s bad also
  one_refused_staged r s (at_model bad) (at_faults p holds wrong) = absurd (held_not_refused files model p r holds bad)
  one_refused_staged r s (at_model bad) (at_causes c held wrong) = absurd (held_not_refused files model c.program r held.program bad)
  one_refused_staged r s (at_model bad) (at_top c cs f was held has kept wrong) = absurd (held_not_refused files model c.program r held.program bad)
  one_refused_staged r s (at_faults p holds wrong) (at_model bad) = absurd (held_not_refused files model p s holds bad)
  one_refused_staged r s (at_faults p holds wrong) (at_faults q other also) =
      one_refused_faults files faults p holds.flat holds.lawful r s wrong (subst (λ u. RefusesFaults files faults u s) (one_held_model files model p q holds other) also)
  one_refused_staged r s (at_faults p holds wrong) (at_causes c held bad) = absurd (case_not_refused files model faults c p r held (one_held_model files model p c.program holds held.program) wrong)
  one_refused_staged r s (at_faults p holds wrong) (at_top c cs f was held has kept bad) =
      absurd (case_not_refused files model faults c p r held (one_held_model files model p c.program holds held.program) wrong)
  one_refused_staged r s (at_causes c held bad) (at_model gone) = absurd (held_not_refused files model c.program s held.program gone)
  one_refused_staged r s (at_causes c held bad) (at_faults p holds wrong) = absurd (case_not_refused files model faults c p s held (one_held_model files model p c.program holds held.program) wrong)
  one_refused_staged r s (at_causes c held bad) (at_causes d other also) =
      one_refused_causes files causes c.faults (extension_of c) c.flat c.modes r s bad (subst (λ k. RefusesCausesOf files causes k s) (one_case files model faults d c other held) also)
  one_refused_staged r s (at_causes c held bad) (at_top d ds f was other have kept wrong) = absurd (causes_not_refused d c ds r other held have kept bad)
  one_refused_staged r s (at_top c cs f is held has kept wrong) (at_model gone) = absurd (held_not_refused files model c.program s held.program gone)
  one_refused_staged r s (at_top c cs f is held has kept wrong) (at_faults p holds bad) =
      absurd (case_not_refused files model faults c p s held (one_held_model files model p c.program holds held.program) bad)
  one_refused_staged r s (at_top c cs f is held has kept wrong) (at_causes d other bad) = absurd (causes_not_refused c d cs s held other has kept bad)
  one_refused_staged r s (at_top c cs f is held has kept wrong) (at_top d ds g was other have also bad) =
      is
      ∙ ap (λ z. refusal.Top z)
      (one_wrong_word c.program held.program.lawful.accepted top f g wrong (subst (λ p. IsWrongWord p top g) (one_held_model files model c.program d.program held.program other.program) bad))
      ∙ sym was

  held_staged_not_refused : (c : Case) (cs : List CommonCause) (e : Formula) (r : Refusal) → HoldsCase files model faults c → HasCauses files causes c cs → KeepsLimitsOf c cs → IsTopWord c.program top e →
      RefusesStaged files model faults causes top r → ⊥
  held_staged_not_refused c cs e r held has kept word (at_model gone) = held_not_refused files model c.program r held.program gone
  held_staged_not_refused c cs e r held has kept word (at_faults p holds bad) = case_not_refused files model faults c p r held (one_held_model files model p c.program holds held.program) bad
  held_staged_not_refused c cs e r held has kept word (at_causes d other bad) = causes_not_refused c d cs r held other has kept bad
  held_staged_not_refused c cs e r held has kept word (at_top d ds g was other have also bad) =
      word_not_wrong c.program held.program.lawful.accepted top e g word (subst (λ p. IsWrongWord p top g) (one_held_model files model c.program d.program held.program other.program) bad)

  pub caused_not_refused : (r : Refusal) → HoldsCaused files model faults causes top → RefusesStaged files model faults causes top r → ⊥
  caused_not_refused r h bad = held_staged_not_refused h.c h.cs h.event r h.holds h.has_causes h.keeps h.is_event bad

  -- what was loaded is such
  pub staged_of_caused : (l : StagedEvent) → HoldsStaged files model faults causes top l → HoldsCaused files model faults causes top
  staged_of_caused l h = record {
    c = case_in l.loaded;
    cs = causes_in l;
    event = h.staged.event.event.top;
    holds = h.holds;
    has_causes = h.has_causes;
    keeps = keeps_limits l.loaded.case (causes_in l) _ _ _ h.staged.staged;
    is_event = subst (λ t. IsTopWord (case_in l.loaded).program t h.staged.event.event.top) h.is_word h.staged.event.event.is_word;
  }

-- ---- certificates

module _ (m : FlatModel) (es : List Mode) (tree : Tree FlatLeaf) where
  one_line : (a : Certificate) (r s : Refusal) → BreaksLine m es tree a r → BreaksLine m es tree a s → r ≡ s
  one_line a r s (at_line line rule is bad) (at_line other second was also) =
      let same =
      one_objection (List (List Value)) (GivesTrace m) (IsFlatTrace m) (ReachesTop m tree) (HasFailedNumber m es) (subject_of (with_history m es) m es tree) a line other rule second bad also in
      is
      ∙ ap (λ n. refusal.NotAccepted (objection.Line n (number_of rule))) same.0
      ∙ ap (λ q. refusal.NotAccepted (objection.Line other (number_of q))) same.1
      ∙ sym was

  module _ (files : List NamedFile) (name : Text) where
    one_judged : (r s : Refusal) → RefusesJudged files m es tree name r → RefusesJudged files m es tree name s → r ≡ s
    one_judged r s (no_certificate bad) (no_certificate also) = one_refused_certificate files name r s bad also
    one_judged r s (no_certificate bad) (not_accepted a holds line) = absurd (held_certificate_not_refused files name a r holds bad)
    one_judged r s (not_accepted a holds line) (no_certificate bad) = absurd (held_certificate_not_refused files name a s holds bad)
    one_judged r s (not_accepted a holds line) (not_accepted b have also) = one_line a r s line (subst (λ d. BreaksLine m es tree d s) (one_held_certificate files name b a have holds) also)

    unbroken_not_refused : (a : Certificate) (r : Refusal) → HoldsCertificate files name a → BreaksNoLine m es tree a → RefusesJudged files m es tree name r → ⊥
    unbroken_not_refused a r holds none (no_certificate bad) = held_certificate_not_refused files name a r holds bad
    unbroken_not_refused a r holds none (not_accepted b have line) = by_line (subst (λ d. BreaksLine m es tree d r) (one_held_certificate files name b a have holds) line)
      where
        by_line : BreaksLine m es tree a r → ⊥
        by_line (at_line line rule is bad) = none line rule bad

abbrev RefusesJudgedOf : List NamedFile → List CommonCause → Text → Refusal → Case → Tree FlatLeaf → Type 0
RefusesJudgedOf files cs name r c tree = RefusesJudged files (with_causes c.flat c.modes cs) (events_of c.flat c.modes cs) tree name r

module _ (files : List NamedFile) (model faults causes top cert : Text) where
  -- what a certificate is refused for over one case is what it is over the other, since these are one
  judged_there : (c d : Case) (cs ds : List CommonCause) (e f : Formula) (t u : Tree FlatLeaf) (r : Refusal) → HoldsCase files model faults c → HasCauses files causes c cs → IsTopWord c.program top e →
      IsTopTree c e t → HoldsCase files model faults d → HasCauses files causes d ds → IsTopWord d.program top f → IsTopTree d f u → RefusesJudgedOf files ds cert r d u → RefusesJudgedOf files cs cert r c t
  judged_there c d cs ds e f t u r held has word is other have word' is' bad =
      subst (λ xs. RefusesJudgedOf files xs cert r c t) (same_causes files model faults causes top c d cs ds held other has have)
      (moved files model faults top cert (RefusesJudgedOf files ds cert r) c d e f t u held word is other word' is' bad)

  pub one_cause_check : (r s : Refusal) → RefusesCauseCheck files model faults causes top cert r → RefusesCauseCheck files model faults causes top cert s → r ≡ s
  one_cause_check r s (at_staged bad) (at_staged also) = one_refused_staged files model faults causes top r s bad also
  one_cause_check r s (at_staged bad) (at_certificate c cs e t held has kept word is wrong) = absurd (held_staged_not_refused files model faults causes top c cs e r held has kept word bad)
  one_cause_check r s (at_certificate c cs e t held has kept word is wrong) (at_staged bad) = absurd (held_staged_not_refused files model faults causes top c cs e s held has kept word bad)
  one_cause_check r s (at_certificate c cs e t held has kept word is wrong) (at_certificate d ds f u other have also word' is' bad) =
      one_judged (with_causes c.flat c.modes cs) (events_of c.flat c.modes cs) t files cert r s wrong (judged_there c d cs ds e f t u s held has word is other have word' is' bad)

  -- what was loaded is refused for no line where its certificate breaks no rule
  pub unbroken_cause_check : (l : StagedEvent) (a : Certificate) (r : Refusal) → HoldsStaged files model faults causes top l → HoldsCertificate files cert a →
      BreaksNoLine (staged_in l) (events_in l) (flat_tree l.loaded.top) a → RefusesCauseCheck files model faults causes top cert r → ⊥
  unbroken_cause_check l a r holds has none (at_staged bad) = caused_not_refused files model faults causes top r (staged_of_caused files model faults causes top l holds) bad
  unbroken_cause_check l a r holds has none (at_certificate c cs e t held have kept word is bad) =
      let event = holds.staged.event.event in
      let there =
      judged_there (case_in l.loaded) c (causes_in l) cs event.top e (flat_tree l.loaded.top) t r holds.holds holds.has_causes
      (subst (λ x. IsTopWord (case_in l.loaded).program x event.top) holds.is_word event.is_word) event.is_tree held have word is bad in
      let models = holds.staged.staged.model in
      let events = holds.staged.staged.events in
      let brought : RefusesJudged files (staged_in l) (events_in l) (flat_tree l.loaded.top) cert r =
      subst (λ n. RefusesJudged files n (events_in l) (flat_tree l.loaded.top) cert r) (sym models)
      (subst (λ es. RefusesJudged files (with_causes (case_in l.loaded).flat (case_in l.loaded).modes (causes_in l)) es (flat_tree l.loaded.top) cert r) (sym events) there) in
      unbroken_not_refused (staged_in l) (events_in l) (flat_tree l.loaded.top) files cert a r has none brought

  pub accepted_cause_check : (report : Text) (r : Refusal) → AcceptsCauses files model faults causes top cert report → RefusesCauseCheck files model faults causes top cert r → ⊥
  accepted_cause_check report r h bad = unbroken_cause_check h.loaded h.accepts.certificate r h.holds h.accepts.has_certificate h.accepts.certifies.unbroken bad
