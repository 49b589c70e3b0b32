-- An accepted certificate is right for all traces of the flat model.
use Rattle.std.proofs.Common.{◌≡◌, ◌⊎◌, inl, inr, ℕ, zero, suc, ◌≤◌, ◌<◌, List, [], ◌∷◌, length, Some, refl, sym, ◌∙◌, subst, arith}
use Rattle.std.specs.Prelude.{◌≢◌, slice_get, Contains}
use Rattle.std.proofs.lemmas.Bool.{cases_lt}
use Rattle.smv_language.specs.Language.{Tree, Value, Each, FlatLeaf, FlatModel}
use Rattle.smv_flat_laws.specs.History.{Mode}
use Rattle.smv_flat_laws.specs.FlatTrace.{IsFlatTrace}
use Rattle.cut_right_laws.specs.Laws.{AreBoth}
use Rattle.cut_right_laws.specs.Right.{IsContained, Shows}
use Rattle.cut_right_laws.proofs.Places.{place_within, both_long, both_at}
use Rattle.sat_encoding_laws.specs.FlatTraces.{ReachesTop, HasFailedNumber, IsNumbered, IsRightFlat}
use Rattle.sat_encoding_laws.specs.EncodedLaws.{AreOwn, AreCovered}
use Rattle.sat_encoding_laws.proofs.Covering.{invariants_cover}
use Rattle.cert_laws.specs.Certificate.{Certificate, the_numbers, a_set, a_trace}
use Rattle.cut_text_laws.specs.Lines.{Line}
use Rattle.cert_laws.specs.Acceptance.{Subject, other_numbers, no_set, contains_a_set, no_text, no_trace, does_not_reach, other_faults, HasNumbers, IsSetAt, IsApart}
use Rattle.cert_laws.proofs.Invariant.{accepted_is_invariant}
use Rattle.cert_laws.specs.Certification.{IsSubjectOf, IsCertified, CertifiedIsRight}
use Rattle.smv_flat_laws.proofs.Conditions.{each_from}
use Rattle.base_values.proofs.ListLaws.{get_within}

-- texts that each give a trace give a list of them
pub all_given : {A B : Type 0} (R : A → B → Type 0) (xs : List A) → ((k : ℕ) (x : A) → slice_get xs k ≡ Some x → (y : B) × R x y) → (ys : List B) × AreBoth R xs ys
all_given R [] h = ([], tt)
all_given R (x ∷ xs) h =
    let first = h zero x refl in
    let rest = all_given R xs (λ k y e. h (suc k) y e) in
    (first.0 ∷ rest.0, (first.1, rest.1))

-- members of a set that are numbers of faults
numbered_from : (n : ℕ) (set : List ℕ) → ((i : ℕ) → Contains set i → (1 ≤ i) × (i ≤ n)) → IsNumbered n set
numbered_from n [] h = tt
numbered_from n (i ∷ set) h = (h i (0, omega arith, refl), numbered_from n set (λ j m. h j (suc m.0, omega (arith, m.1), m.2)))

module _ (reads : List Line → List (List Value) → Type 0) (m : FlatModel) (fs : List Mode) (top : Tree FlatLeaf) (own : AreOwn m fs top) (subject : Subject) (is_subject : IsSubjectOf m fs top subject) (c : Certificate)
    (certified : IsCertified m fs top reads subject c) where
  numbers : HasNumbers subject c
  numbers = certified.accepted the_numbers tt other_numbers

  size_fits : c.size ≤ length fs
  size_fits = subst (λ n. c.size ≤ n) (numbers.faults ∙ is_subject.faults) numbers.size

  set_at : (k : ℕ) (set : List ℕ) → slice_get c.sets k ≡ Some set → IsSetAt subject c k set
  set_at k set at = certified.accepted (a_set k set) at no_set

  numbered : Each (IsNumbered (length fs)) c.sets
  numbered =
      each_from (IsNumbered (length fs)) c.sets
      (λ k set at. numbered_from (length fs) set (λ i h. subst (λ n. (1 ≤ i) × (i ≤ n)) is_subject.faults ((set_at k set at).names i h)))

  -- the set of a trace text's place
  set_of_text : (k : ℕ) (text : List Line) → slice_get c.traces k ≡ Some text → (set : List ℕ) × (slice_get c.sets k ≡ Some set)
  set_of_text k text at = get_within c.sets k (subst (λ n. k < n) certified.one_each (place_within c.traces k text at))

  -- a trace text gives a trace
  pub text_gives : (k : ℕ) (text : List Line) → slice_get c.traces k ≡ Some text → (t : List (List Value)) × reads text t × IsFlatTrace m t
  text_gives k text at =
      let s : (set : List ℕ) × (slice_get c.sets k ≡ Some set) = set_of_text k text at in
      let t : (t : List (List Value)) × reads text t = certified.accepted (a_trace k s.0 text) (s.1, at) no_text in
      (t.0, t.1, certified.accepted (a_trace k s.0 text) (s.1, at) no_trace t.0 t.1)

  given : (traces : List (List (List Value))) × AreBoth reads c.traces traces
  given = all_given reads c.traces (λ k text at. let t : (t : List (List Value)) × reads text t × IsFlatTrace m t = text_gives k text at in (t.0, t.1))

  cover : AreCovered m fs top c.size c.sets
  cover =
      invariants_cover m fs top own subject.system is_subject.encoded c.size c.sets numbered (subject.bad c.sets c.size) c.invariant (is_subject.bad c.sets c.size numbered size_fits)
      (accepted_is_invariant (List (List Value)) reads (IsFlatTrace m) (ReachesTop m top) (HasFailedNumber m fs) subject c certified.accepted)

  is_right : (traces : List (List (List Value))) → AreBoth reads c.traces traces → IsRightFlat m fs top c.size (IsFlatTrace m) c.sets traces
  is_right traces both = record {
    one_each = sym (both_long reads c.traces traces both) ∙ certified.one_each;
    small = λ k set at. (set_at k set at).small;
    shown = λ k set trace at there. shown k set trace at (both_at reads c.traces traces both k trace there);
    covered = cover;
    apart = λ j k set other at there different inside. by_order j k set other at there different inside (cases_lt j k);
  }
    where
      shown : (k : ℕ) (set : List ℕ) (trace : List (List Value)) → slice_get c.sets k ≡ Some set → ((text : List Line) × (slice_get c.traces k ≡ Some text) × reads text trace) →
          Shows (List (List Value)) (IsFlatTrace m) (ReachesTop m top) (HasFailedNumber m fs) trace set
      shown k set trace at text = record {
        is_one = certified.accepted (a_trace k set text.0) (at, text.1) no_trace trace text.2;
        reaching = certified.accepted (a_trace k set text.0) (at, text.1) does_not_reach trace text.2;
        exactly = certified.accepted (a_trace k set text.0) (at, text.1) other_faults trace text.2;
      }

      apart_at : (k : ℕ) (set : List ℕ) → slice_get c.sets k ≡ Some set → IsApart subject c k set
      apart_at k set at = certified.accepted (a_set k set) at contains_a_set

      by_order : (j k : ℕ) (set other : List ℕ) → slice_get c.sets j ≡ Some set → slice_get c.sets k ≡ Some other → j ≢ k → IsContained set other → (j < k) ⊎ (k ≤ j) → ⊥
      by_order j k set other at there different inside (inl less) = (apart_at k other there j set less at).0 inside
      by_order j k set other at there different inside (inr more) =
          (apart_at j set at k other (strict j k different more) there).1 inside
        where
          strict : (j k : ℕ) → j ≢ k → k ≤ j → k < j
          strict j k n h = omega (arith, n, h)

pub certified_is_right : (reads : List Line → List (List Value) → Type 0) → CertifiedIsRight reads
certified_is_right reads m fs top own subject is_subject c certified =
    (given reads m fs top own subject is_subject c certified, is_right reads m fs top own subject is_subject c certified)
