-- Sets that are right for all traces are exactly the minimal cut sets of at most so many faults.
use Rattle.std.proofs.Common.{◌≡◌, ℕ, ◌<◌, List, length, Some, sym, subst}
use Rattle.std.specs.Prelude.{slice_get, Contains}
use native.Mathlib.Decide.{ℕ_discrete}
use Rattle.cut_right_laws.specs.Right.{IsContained, HasAtMost, HasFailedAll, IsRight, IsCutSet, IsMinimalCutSet, IsListed}
use Rattle.cut_right_laws.specs.Laws.{RightSetsAreMinimal}
use Rattle.cut_right_laws.proofs.Places.{place_within, place_of_member, same_at}
use Rattle.base_values.proofs.ListLaws.{get_within}

module _ (T : Type 0) (is_trace reaches : T → Type 0) (has_failed : T → ℕ → Type 0) where
  -- the set of a place has its trace
  trace_for : (size : ℕ) (sets : List (List ℕ)) (traces : List T) → IsRight T is_trace reaches has_failed size is_trace sets traces →
      (k : ℕ) (set : List ℕ) → slice_get sets k ≡ Some set → IsCutSet T is_trace reaches has_failed set
  trace_for size sets traces right k set at =
      let within : k < length traces = subst (λ n. k < n) (sym right.one_each) (place_within sets k set at) in
      let there : (t : T) × (slice_get traces k ≡ Some t) = get_within traces k within in
      (there.0, right.shown k set there.0 at there.1)

  -- a cut set of at most so many faults contains a listed set
  covered_by : (size : ℕ) (sets : List (List ℕ)) (traces : List T) → IsRight T is_trace reaches has_failed size is_trace sets traces →
      (set : List ℕ) → IsCutSet T is_trace reaches has_failed set → HasAtMost size set → (listed : List ℕ) × Contains sets listed × IsContained listed set
  covered_by size sets traces right set cut few =
      let some : (listed : List ℕ) × Contains sets listed × HasFailedAll T is_trace reaches has_failed cut.0 listed =
      right.covered cut.0 cut.1.is_one cut.1.reaching (few.0, few.1, λ i h. few.2 i ((cut.1.exactly i).0 h)) in
      (some.0, some.1, λ i h. (cut.1.exactly i).0 (some.2 i h))

  -- listed sets of which one contains the other stand at one place
  one_place : (size : ℕ) (sets : List (List ℕ)) (traces : List T) → IsRight T is_trace reaches has_failed size is_trace sets traces →
      (j k : ℕ) (set other : List ℕ) → slice_get sets j ≡ Some set → slice_get sets k ≡ Some other → IsContained set other → set ≡ other
  one_place size sets traces right j k set other at there inside = elim (ℕ_discrete j k) [
    | yes e ↦ same_at sets j k set other e at there
    | no n ↦ absurd (right.apart j k set other at there n inside)
  ]

  listed_is_minimal : (size : ℕ) (sets : List (List ℕ)) (traces : List T) → IsRight T is_trace reaches has_failed size is_trace sets traces →
      (k : ℕ) (set : List ℕ) → slice_get sets k ≡ Some set → (other : List ℕ) → IsCutSet T is_trace reaches has_failed other → IsContained other set → IsContained set other
  listed_is_minimal size sets traces right k set at other cut inside =
      let below : (listed : List ℕ) × Contains sets listed × IsContained listed other =
      covered_by size sets traces right other cut (set, right.small k set at, inside) in
      let place : (j : ℕ) × (slice_get sets j ≡ Some below.0) = place_of_member sets below.0 below.1 in
      let same : below.0 ≡ set = one_place size sets traces right place.0 k below.0 set place.1 at (λ i h. inside i (below.2 i h)) in
      subst (λ s. IsContained s other) same below.2

  -- cut sets of the same faults are alike
  same_cut : (set other : List ℕ) → IsContained set other → IsContained other set → IsCutSet T is_trace reaches has_failed other → IsCutSet T is_trace reaches has_failed set
  same_cut set other inside around cut =
      (cut.0, record { is_one = cut.1.is_one; reaching = cut.1.reaching; exactly = λ i. ((λ h. around i ((cut.1.exactly i).0 h)), (λ h. (cut.1.exactly i).1 (inside i h))) })

  pub right_sets_minimal : RightSetsAreMinimal T is_trace reaches has_failed
  right_sets_minimal size sets traces right set = (forth, back)
    where
      forth : IsListed T is_trace reaches has_failed sets set → IsMinimalCutSet T is_trace reaches has_failed set × HasAtMost size set
      forth l =
          let place : (j : ℕ) × (slice_get sets j ≡ Some l.0) = place_of_member sets l.0 l.1 in
          let cut : IsCutSet T is_trace reaches has_failed l.0 = trace_for size sets traces right place.0 l.0 place.1 in (
            record {
              is_one = same_cut set l.0 l.3 l.2 cut;
              minimal = λ other is inside i h.
                  listed_is_minimal size sets traces right place.0 l.0 place.1 other is (λ j m. l.3 j (inside j m)) i (l.3 i h);
            },
            (l.0, right.small place.0 l.0 place.1, l.3),
          )

      back : IsMinimalCutSet T is_trace reaches has_failed set × HasAtMost size set → IsListed T is_trace reaches has_failed sets set
      back m =
          let below : (listed : List ℕ) × Contains sets listed × IsContained listed set = covered_by size sets traces right set m.0.is_one m.1 in
          let place : (j : ℕ) × (slice_get sets j ≡ Some below.0) = place_of_member sets below.0 below.1 in
          (below.0, below.1, below.2, m.0.minimal below.0 (trace_for size sets traces right place.0 below.0 place.1) below.2)
