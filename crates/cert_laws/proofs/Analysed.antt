-- A certificate that is made of an analysis is accepted.
use Rattle.std.proofs.Common.{◌≡◌, ℕ, zero, suc, ◌-◌, ◌≤◌, ◌<◌, List, [], ◌∷◌, length, Some, refl, sym, ◌∙◌, subst, arith}
use Rattle.std.specs.Prelude.{◌↔◌, slice_get, Contains}
use Rattle.smv_language.specs.Language.{Tree, Value, FlatLeaf, FlatModel}
use Rattle.smv_flat_laws.specs.History.{Mode}
use Rattle.smv_flat_laws.specs.FlatTrace.{IsFlatTrace}
use Rattle.cut_right_laws.specs.Right.{Shows}
use Rattle.cut_right_laws.specs.Laws.{AreBoth}
use Rattle.cut_right_laws.proofs.Places.{place_within, both_long}
use Rattle.sat_encoding_laws.specs.FlatTraces.{ReachesTop, HasFailedNumber}
use Rattle.cert_laws.specs.Certificate.{Certificate}
use Rattle.cut_text_laws.specs.Lines.{Line}
use Rattle.cert_laws.specs.Acceptance.{Subject, Rule, no_text, no_trace, does_not_reach, other_faults, IsSetAt, IsApart, KeepsAtTrace}
use Rattle.cert_laws.proofs.Made.{made_is_accepted}
use Rattle.cert_laws.specs.Certification.{IsSubjectOf, IsCertified}
use Rattle.cert_laws.specs.AnalysisCertificates.{GivesAlone, IsOfAnalysis, AnalysedIsAccepted}
use Rattle.base_values.proofs.ListLaws.{get_within}

-- of two lists whose members are related place by place, from the first
from_left : {A B : Type 0} (R : A → B → Type 0) (xs : List A) (ys : List B) → AreBoth R xs ys → (i : ℕ) (x : A) → slice_get xs i ≡ Some x → (y : B) × (slice_get ys i ≡ Some y) × R x y
from_left R [] ys h i x e = cc
from_left R (a ∷ xs) [] h i x e = absurd h
from_left {B = B} R (a ∷ xs) (b ∷ ys) h zero x e = (b, refl, subst (λ z. R z b) (same a x e) h.0)
  where
    same : {A : Type 0} (a x : A) → Some a ≡ Some x → a ≡ x
    same a x e = cc
from_left R (a ∷ xs) (b ∷ ys) h (suc i) x e = from_left R xs ys h.1 i x e

module _ (reads : List Line → List (List Value) → Type 0) (m : FlatModel) (fs : List Mode) (top : Tree FlatLeaf) (subject : Subject) (is_subject : IsSubjectOf m fs top subject) (c : Certificate)
    (made : IsOfAnalysis reads m fs top subject c) where
  -- the trace of a set's place shows it
  shown : (k : ℕ) (set : List ℕ) → slice_get c.sets k ≡ Some set → (t : List (List Value)) × Shows (List (List Value)) (IsFlatTrace m) (ReachesTop m top) (HasFailedNumber m fs) t set
  shown k set at =
      let t : (t : List (List Value)) × (slice_get made.traces k ≡ Some t) = get_within made.traces k (subst (λ n. k < n) (sym made.right.one_each) (place_within c.sets k set at)) in
      (t.0, made.right.shown k set t.0 at t.1)

  names : (k : ℕ) (set : List ℕ) → slice_get c.sets k ≡ Some set → (i : ℕ) → Contains set i → (1 ≤ i) × (i ≤ subject.faults)
  names k set at i has =
      let t = shown k set at in
      let failed : HasFailedNumber m fs t.0 i = (t.1.exactly i).1 has in
      let within : i - 1 < length fs = place_within fs (i - 1) failed.0 failed.2 in
      (failed.1, subst (λ n. i ≤ n) (sym is_subject.faults) (omega (arith, within, failed.1)))

  set_at : (k : ℕ) (set : List ℕ) → slice_get c.sets k ≡ Some set → IsSetAt subject c k set
  set_at k set at = record {
    rises = made.rising k set at;
    names = names k set at;
    small = made.right.small k set at;
    after = λ j before e there. made.in_order j before set there (subst (λ n. slice_get c.sets n ≡ Some set) e at);
  }

  apart_at : (k : ℕ) (set : List ℕ) → slice_get c.sets k ≡ Some set → IsApart subject c k set
  apart_at k set at j other less there = (
    made.right.apart j k other set there at (λ e. absurd (omega (arith, less, e))),
    made.right.apart k j set other at there (λ e. absurd (omega (arith, less, e))),
  )

  text_keeps : (k : ℕ) (set : List ℕ) (text : List Line) → slice_get c.sets k ≡ Some set → slice_get c.traces k ≡ Some text → (rule : Rule) →
      KeepsAtTrace (List (List Value)) reads (IsFlatTrace m) (ReachesTop m top) (HasFailedNumber m fs) subject c set text rule
  text_keeps k set text at there = by_trace (from_left (GivesAlone reads) c.traces made.traces made.texts k text there)
    where
      by_trace : ((t : List (List Value)) × (slice_get made.traces k ≡ Some t) × GivesAlone reads text t) → (rule : Rule) →
          KeepsAtTrace (List (List Value)) reads (IsFlatTrace m) (ReachesTop m top) (HasFailedNumber m fs) subject c set text rule
      by_trace t no_text = (t.0, t.2.gives)
      by_trace t no_trace = λ u given. subst (IsFlatTrace m) (sym (t.2.alone u given)) (made.right.shown k set t.0 at t.1).is_one
      by_trace t does_not_reach = λ u given. subst (ReachesTop m top) (sym (t.2.alone u given)) (made.right.shown k set t.0 at t.1).reaching
      by_trace t other_faults = λ u given i. subst (λ z. HasFailedNumber m fs z i ↔ Contains set i) (sym (t.2.alone u given)) ((made.right.shown k set t.0 at t.1).exactly i)
      by_trace t _ = tt

  is_certified : IsCertified m fs top reads subject c
  is_certified = record {
    one_each = both_long (GivesAlone reads) c.traces made.traces made.texts ∙ made.right.one_each;
    accepted = made_is_accepted (List (List Value)) reads (IsFlatTrace m) (ReachesTop m top) (HasFailedNumber m fs) subject c (record {
      numbers = made.numbers;
      sets = set_at;
      apart = apart_at;
      traces = text_keeps;
      over_bits = made.over_bits;
      no_opposites = made.no_opposites;
      derived = made.derived;
    });
  }

pub analysed_is_accepted : (reads : List Line → List (List Value) → Type 0) → AnalysedIsAccepted reads
analysed_is_accepted reads m fs top subject is_subject c made = is_certified reads m fs top subject is_subject c made
