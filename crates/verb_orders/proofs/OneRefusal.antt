-- What is refused of orders and of their certificates is refused for one reason, and nothing is where an order is found or accepted.
use Rattle.std.proofs.Common.{◌≡◌, ◌⊎◌, inl, inr, ℕ, ◌+◌, ◌<◌, ◌≤◌, List, [], length, refl, sym, ap, subst, ◌∙◌, arith}
use Rattle.base_files.specs.declared.files.NamedFile.{NamedFile}
use Rattle.smv_language.specs.Language.{Tree, Text, Formula, ProgramTree, Value, FlatLeaf, FlatModel}
use Rattle.smv_flat_laws.specs.FlatTrace.{IsFlatTrace}
use Rattle.smv_type_laws.specs.ExpressionKinds.{too_large}
use Rattle.smv_type_laws.specs.Models.{IsTyped, IsFault}
use Rattle.smv_type_laws.proofs.Typed.{typed_has_none}
use Rattle.sat_encoding_laws.specs.FlatTraces.{IsNumbered, ReachesTop, HasFailedNumber}
use Rattle.fault_extend_laws.proofs.Splits.{one_split, none_broken}
use Rattle.cut_text_laws.specs.TraceOfText.{GivesTrace}
use Rattle.cert_laws.specs.Acceptance.{number_of}
use Rattle.cert_laws.specs.Certification.{IsCertified}
use Rattle.cert_laws.specs.Certificate.{Certificate}
use Rattle.cert_laws.proofs.Objections.{one_objection, accepted_has_none}
use Rattle.cert_check.specs.SiteFindings.{IsObjectionOf, IsObjectionUnlisted, of_another, of_its_set}
use Rattle.cut_reach_laws.specs.Laws.{IsFaultNumber}
use Rattle.cert_laws.specs.Subject.{subject_of}
use Rattle.verb_loading.specs.declared.status.InputFault.{InputFault}
use Rattle.verb_loading.specs.declared.status.Objection.TheVariants as objection
use Rattle.verb_loading.specs.declared.status.Refusal.{Refusal}
use Rattle.verb_loading.specs.declared.status.Refusal.TheVariants as refusal
use Rattle.verb_loading.specs.Cases.{Case, HoldsCase, IsTopWord, IsWrongWord}
use Rattle.verb_loading.specs.Tasks.{IsTopTree}
use Rattle.cert_file.specs.CertificateFiles.{HoldsCertificate}
use Rattle.verb_loading.specs.Inputs.{RefusesModel, HoldsModel, RefusesFaults}
use Rattle.verb_loading.proofs.OneCase.{case_not_refused, one_case}
use Rattle.cert_file.proofs.OneCertificate.{one_refused_certificate, held_certificate_not_refused, one_held_certificate, moved}
use Rattle.verb_loading.proofs.OneExtending.{one_refused_faults}
use Rattle.verb_loading.proofs.OneModelFault.{one_refused_model, held_not_refused, one_held_model}
use Rattle.verb_loading.proofs.OneTop.{one_wrong_word, word_not_wrong}
use Rattle.verb_orders.specs.Pairs.{IsFirstOutside, outside_refusal, HoldsPair, HoldsPairEvent, RefusesPair, at_model, at_faults, at_set, at_stage, at_top}
use Rattle.verb_orders.specs.Orders.{staged_of, against_of, claim_in, staged_matter, RefusesClaim, at_line, RefusesCheck, no_pair, no_certificate, not_accepted, AcceptsOrder}

-- ---- one number outside, and one rule of kinds

module _ (n : ℕ) where
  inside_or_out : (i : ℕ) → (1 ≤ i) × (i ≤ n) → (IsFaultNumber n i → ⊥) → ⊥
  inside_or_out i kept out = out (record { counts = kept.0; within = kept.1 })

  one_outside : (set : List ℕ) (p q : ℕ) → IsFirstOutside n set p → IsFirstOutside n set q → p ≡ q
  one_outside set p q a b =
      let places : length a.before ≡ length b.before =
      (one_split (λ i. (1 ≤ i) × (i ≤ n)) (λ i. IsFaultNumber n i → ⊥) inside_or_out a.before b.before a.number b.number a.after b.after (sym a.lie ∙ b.lie) a.kept b.kept a.outside b.outside).1 in
      a.at_position ∙ ap (λ k. k + 1) places ∙ sym b.at_position

  none_outside : (set : List ℕ) (p : ℕ) → IsNumbered n set → IsFirstOutside n set p → ⊥
  none_outside set p numbered a = none_broken (λ i. (1 ≤ i) × (i ≤ n)) (λ i. IsFaultNumber n i → ⊥) inside_or_out a.before a.number a.after (subst (IsNumbered n) a.lie numbered) a.outside

-- ---- a pair

module _ (files : List NamedFile) (model faults : Text) where
  no_model : (c : Case) (a : Refusal) → HoldsCase files model faults c → RefusesModel files model a → ⊥
  no_model c a held bad = held_not_refused files model c.program a held.program bad

  no_faults : (c : Case) (p : ProgramTree) (a : Refusal) → HoldsCase files model faults c → HoldsModel files model p → RefusesFaults files faults p a → ⊥
  no_faults c p a held holds bad = case_not_refused files model faults c p a held (one_held_model files model p c.program holds held.program) bad

  -- what is so of one case that the files hold is so of another
  of_case : (P : Case → Type 0) (c d : Case) → HoldsCase files model faults c → HoldsCase files model faults d → P d → P c
  of_case P c d held other h = subst P (one_case files model faults d c other held) h

module _ (files : List NamedFile) (model faults top : Text) (set : List ℕ) (first second : ℕ) where
  abbrev NumberedIn : Case → Type 0
  NumberedIn c = IsNumbered (length c.faults) set

  abbrev OutsideIn : ℕ → Case → Type 0
  OutsideIn position c = IsFirstOutside (length c.faults) set position

  abbrev BreaksIn : Case → Type 0
  BreaksIn c = IsFault (staged_of c first second) too_large 0

  abbrev WrongIn : InputFault → Case → Type 0
  WrongIn fault c = IsWrongWord c.program top fault

  abbrev Holds : Case → Type 0
  Holds c = HoldsCase files model faults c

  -- all numbers are inside in one case, and one is outside in another
  apart_set : (c d : Case) (position : ℕ) → Holds c → Holds d → NumberedIn c → OutsideIn position d → ⊥
  apart_set c d position held other numbered out = none_outside (length c.faults) set position numbered (of_case files model faults (OutsideIn position) c d held other out)

  apart_stage : (c d : Case) → Holds c → Holds d → IsTyped (staged_of c first second) → BreaksIn d → ⊥
  apart_stage c d held other typed breaks = typed_has_none (staged_of c first second) too_large 0 typed (of_case files model faults BreaksIn c d held other breaks)

  pub one_refused_pair : (r s : Refusal) → RefusesPair files model faults top set first second r → RefusesPair files model faults top set first second s → r ≡ s
  one_refused_pair r s (at_model bad) (at_model also) = one_refused_model files model r s bad also
  one_refused_pair r s (at_model bad) (at_faults p holds wrong) = absurd (held_not_refused files model p r holds bad)
  one_refused_pair r s (at_model bad) (at_set d k was other out) = absurd (no_model files model faults d r other bad)
  one_refused_pair r s (at_model bad) (at_stage d was other numbered breaks) = absurd (no_model files model faults d r other bad)
  one_refused_pair r s (at_model bad) (at_top d b was other numbered typed wrong) = absurd (no_model files model faults d r other bad)
  one_refused_pair r s (at_faults p holds bad) (at_model wrong) = absurd (held_not_refused files model p s holds wrong)
  one_refused_pair r s (at_faults p holds bad) (at_faults q other also) =
      one_refused_faults files faults p holds.flat holds.lawful r s bad (subst (λ u. RefusesFaults files faults u s) (one_held_model files model p q holds other) also)
  one_refused_pair r s (at_faults p holds bad) (at_set d k was other out) = absurd (no_faults files model faults d p r other holds bad)
  one_refused_pair r s (at_faults p holds bad) (at_stage d was other numbered breaks) = absurd (no_faults files model faults d p r other holds bad)
  one_refused_pair r s (at_faults p holds bad) (at_top d b was other numbered typed wrong) = absurd (no_faults files model faults d p r other holds bad)
  one_refused_pair r s (at_set c k is held out) (at_model bad) = absurd (no_model files model faults c s held bad)
  one_refused_pair r s (at_set c k is held out) (at_faults p holds bad) = absurd (no_faults files model faults c p s held holds bad)
  one_refused_pair r s (at_set c k is held out) (at_set d l was other also) =
      is ∙ ap outside_refusal (one_outside (length c.faults) set k l out (of_case files model faults (OutsideIn l) c d held other also)) ∙ sym was
  one_refused_pair r s (at_set c k is held out) (at_stage d was other numbered breaks) = absurd (apart_set d c k other held numbered out)
  one_refused_pair r s (at_set c k is held out) (at_top d b was other numbered typed wrong) = absurd (apart_set d c k other held numbered out)
  one_refused_pair r s (at_stage c is held numbered breaks) (at_model bad) = absurd (no_model files model faults c s held bad)
  one_refused_pair r s (at_stage c is held numbered breaks) (at_faults p holds bad) = absurd (no_faults files model faults c p s held holds bad)
  one_refused_pair r s (at_stage c is held numbered breaks) (at_set d l was other out) = absurd (apart_set c d l held other numbered out)
  one_refused_pair r s (at_stage c is held numbered breaks) (at_stage d was other numbered' also) = is ∙ sym was
  one_refused_pair r s (at_stage c is held numbered breaks) (at_top d b was other numbered' typed wrong) = absurd (apart_stage d c other held typed breaks)
  one_refused_pair r s (at_top c a is held numbered typed wrong) (at_model bad) = absurd (no_model files model faults c s held bad)
  one_refused_pair r s (at_top c a is held numbered typed wrong) (at_faults p holds bad) = absurd (no_faults files model faults c p s held holds bad)
  one_refused_pair r s (at_top c a is held numbered typed wrong) (at_set d l was other out) = absurd (apart_set c d l held other numbered out)
  one_refused_pair r s (at_top c a is held numbered typed wrong) (at_stage d was other numbered' breaks) = absurd (apart_stage c d held other typed breaks)
  one_refused_pair r s (at_top c a is held numbered typed wrong) (at_top d b was other numbered' typed' also) =
      is
      ∙ ap (λ f. refusal.Top f)
      (one_wrong_word c.program held.program.lawful.accepted top a b wrong (of_case files model faults (WrongIn b) c d held other also))
      ∙ sym was

  -- nothing of a pair that holds is refused, where the word spells an event
  pub pair_not_refused : (c : Case) (e : Formula) (r : Refusal) → HoldsPair files model faults set first second c → IsTopWord c.program top e → RefusesPair files model faults top set first second r → ⊥
  pair_not_refused c e r held word (at_model bad) = no_model files model faults c r held.holds bad
  pair_not_refused c e r held word (at_faults p holds bad) = no_faults files model faults c p r held.holds holds bad
  pair_not_refused c e r held word (at_set d k is other out) = apart_set c d k held.holds other held.numbered out
  pair_not_refused c e r held word (at_stage d is other numbered breaks) = apart_stage c d held.holds other held.typed breaks
  pair_not_refused c e r held word (at_top d a is other numbered typed wrong) =
      word_not_wrong c.program held.holds.program.lawful.accepted top e a word (of_case files model faults (WrongIn a) c d held.holds other wrong)

  pub event_not_refused : (r : Refusal) → HoldsPairEvent files model faults top set first second → RefusesPair files model faults top set first second r → ⊥
  event_not_refused r h bad = pair_not_refused h.c h.event r h.holds h.is_event bad

-- ---- a certificate

module _ (m : FlatModel) (e : Tree FlatLeaf) (a : Certificate) where
  -- an objection that comes first even of a listed set is none that a listed set is ahead of
  not_both : (l n : ℕ) → IsObjectionOf (staged_matter m e a) l n → (a.sets ≡ []) ⊎ (l ≤ 4) → (a.sets ≡ [] → ⊥) → ((k j : ℕ) → IsObjectionOf (staged_matter m e a) k j → 4 < k) → ⊥
  not_both l n o (inl none) some late = some none
  not_both l n o (inr low) some late = let past = late l n o in omega (arith, low, past)

  -- a certificate has one objection where no set may be listed
  one_unlisted : (line number other rule : ℕ) → IsObjectionUnlisted (staged_matter m e a) line number → IsObjectionUnlisted (staged_matter m e a) other rule → (line ≡ other) × (number ≡ rule)
  one_unlisted line number other rule (of_another l n o early) (of_another k j u early') =
      let same =
      one_objection (List (List Value)) (GivesTrace m) (IsFlatTrace m) (ReachesTop m e) (HasFailedNumber m []) (subject_of m m [] e) a l k o.rule u.rule o.objection u.objection in
      (same.0, sym o.has_number ∙ ap number_of same.1 ∙ u.has_number)
  one_unlisted line number other rule (of_another l n o early) (of_its_set some late) = absurd (not_both l n o early some late)
  one_unlisted line number other rule (of_its_set some late) (of_another k j u early) = absurd (not_both k j u early some late)
  one_unlisted line number other rule (of_its_set some late) (of_its_set some' late') = (refl, refl)

  one_refused_claim : (r s : Refusal) → RefusesClaim m e a r → RefusesClaim m e a s → r ≡ s
  one_refused_claim r s (at_line line number is bad) (at_line other rule was also) =
      let same = one_unlisted line number other rule bad also in
      is
      ∙ ap (λ n. refusal.NotAccepted (objection.Line n number)) same.0
      ∙ ap (λ n. refusal.NotAccepted (objection.Line other n)) same.1
      ∙ sym was

  module _ (certified : IsCertified m [] e (GivesTrace m) (subject_of m m [] e) a) (no_set : a.sets ≡ []) where
    certified_has_no_unlisted : (line number : ℕ) → IsObjectionUnlisted (staged_matter m e a) line number → ⊥
    certified_has_no_unlisted line number (of_another l n o early) =
        accepted_has_none (List (List Value)) (GivesTrace m) (IsFlatTrace m) (ReachesTop m e) (HasFailedNumber m []) (subject_of m m [] e) a l o.rule certified.accepted o.objection
    certified_has_no_unlisted line number (of_its_set some late) = some no_set

    certified_not_refused : (r : Refusal) → RefusesClaim m e a r → ⊥
    certified_not_refused r (at_line line number is bad) = certified_has_no_unlisted line number bad

module _ (files : List NamedFile) (model faults top : Text) (set : List ℕ) (first second : ℕ) (claim cert : Text) where
  abbrev Refuses : Refusal → Type 0
  Refuses r = RefusesCheck files model faults top set first second claim cert r

  -- what is refused of a certificate, over the model staged of a case and what speaks against the claim there
  abbrev RefusesIn : Certificate → Refusal → Case → Tree FlatLeaf → Type 0
  RefusesIn a r c tree = RefusesClaim (staged_of c first second) (against_of c set first second tree (claim_in claim)) a r

  same_certificate : (a b : Certificate) (r : Refusal) (c : Case) (tree : Tree FlatLeaf) → HoldsCertificate files cert a → HoldsCertificate files cert b → RefusesIn b r c tree → RefusesIn a r c tree
  same_certificate a b r c tree has holds bad = subst (λ x. RefusesIn x r c tree) (one_held_certificate files cert b a holds has) bad

  pub one_refused_check : (r s : Refusal) → Refuses r → Refuses s → r ≡ s
  one_refused_check r s (no_pair bad) (no_pair also) = one_refused_pair files model faults top set first second r s bad also
  one_refused_check r s (no_pair bad) (no_certificate d f other word unread) = absurd (pair_not_refused files model faults top set first second d f r other word bad)
  one_refused_check r s (no_pair bad) (not_accepted d f u b other word is holds line) = absurd (pair_not_refused files model faults top set first second d f r other word bad)
  one_refused_check r s (no_certificate c e held word bad) (no_pair also) = absurd (pair_not_refused files model faults top set first second c e s held word also)
  one_refused_check r s (no_certificate c e held word bad) (no_certificate d f other word' also) =
      one_refused_certificate files cert r s bad also
  one_refused_check r s (no_certificate c e held word bad) (not_accepted d f u b other word' was holds line) = absurd (held_certificate_not_refused files cert b r holds bad)
  one_refused_check r s (not_accepted c e t a held word is has line) (no_pair also) = absurd (pair_not_refused files model faults top set first second c e s held word also)
  one_refused_check r s (not_accepted c e t a held word is has line) (no_certificate d f other word' bad) = absurd (held_certificate_not_refused files cert a s has bad)
  one_refused_check r s (not_accepted c e t a held word is has line) (not_accepted d f u b other word' was holds also) =
      one_refused_claim (staged_of c first second) (against_of c set first second t (claim_in claim)) a r s line
      (same_certificate a b s c t has holds (moved files model faults top cert (RefusesIn b s) c d e f t u held.holds word is other.holds word' was also))

  -- nothing is refused where a certificate without sets breaks no rule
  pub certified_check : (c : Case) (e : Formula) (t : Tree FlatLeaf) (a : Certificate) (r : Refusal) → HoldsPair files model faults set first second c → IsTopWord c.program top e → IsTopTree c e t →
      HoldsCertificate files cert a →
      IsCertified (staged_of c first second) [] (against_of c set first second t (claim_in claim)) (GivesTrace (staged_of c first second))
      (subject_of (staged_of c first second) (staged_of c first second) [] (against_of c set first second t (claim_in claim))) a →
      a.sets ≡ [] → Refuses r → ⊥
  certified_check c e t a r held word is has certified none (no_pair bad) = pair_not_refused files model faults top set first second c e r held word bad
  certified_check c e t a r held word is has certified none (no_certificate d f other word' bad) = held_certificate_not_refused files cert a r has bad
  certified_check c e t a r held word is has certified none (not_accepted d f u b other word' is' holds line) =
      certified_not_refused (staged_of c first second) (against_of c set first second t (claim_in claim)) a certified none r
      (same_certificate a b r c t has holds (moved files model faults top cert (RefusesIn b r) c d e f t u held.holds word is other.holds word' is' line))

  pub accepts_not_refused : (r : Refusal) → AcceptsOrder files model faults top set first second claim cert → Refuses r → ⊥
  accepts_not_refused r h bad =
      certified_check h.c h.event h.tree h.accepts.certificate r h.holds h.is_event h.is_tree h.accepts.has_certificate h.accepts.accepted.certified h.accepts.accepted.no_set bad
