-- Four traces, and which lists of sets are right for them: 1 and 2 3 are, with one set more or less they are not.
use Rattle.std.proofs.Common.{◌≡◌, ◌≢◌, ℕ, zero, suc, ◌<◌, ◌≤◌, arith, List, [], ◌∷◌, length, Some, refl, subst, sym}
use Rattle.std.specs.Prelude.{slice_get, slice_index_or, Contains}
use Rattle.std.proofs.lemmas.Option.{same_Some}
use Rattle.std.proofs.lemmas.List.Elements.{Contains-append_left}
use Rattle.cut_right_laws.specs.Right.{IsContained, HasFailedAll, HasFailedAtMost, Shows, IsRight, IsCutSet, IsMinimalCutSet}

-- nothing fails; fault 1 does; faults 2 and 3 do; faults 1 and 2 do
data Story : Type 0 where
  calm : Story
  one : Story
  pair : Story
  more : Story

-- the faults that a story has failed
abbrev failed : Story → List ℕ
failed calm = []
failed one = 1 ∷ []
failed pair = 2 ∷ 3 ∷ []
failed more = 1 ∷ 2 ∷ []

-- each story is a trace
abbrev is_trace : Story → Type 0
is_trace s = Unit {0}

-- all but the first reach the top event
abbrev reaches : Story → Type 0
reaches calm = ⊥
reaches _ = Unit {0}

abbrev has_failed : Story → ℕ → Type 0
has_failed s i = Contains (failed s) i

abbrev Right : ℕ → List (List ℕ) → List Story → Type 0
Right size sets traces = IsRight Story is_trace reaches has_failed size is_trace sets traces

-- the two sets, and one that is larger
abbrev set_1 : List ℕ
set_1 = 1 ∷ []

abbrev set_2_3 : List ℕ
set_2_3 = 2 ∷ 3 ∷ []

abbrev set_1_2 : List ℕ
set_1_2 = 1 ∷ 2 ∷ []

-- 1 is not 2 or 3, and 2 is not 1
at_neither : (i : ℕ) → i < 2 → ◌≡◌ {A = ℕ} (slice_index_or set_2_3 i 1) 1 → ⊥
at_neither zero lt e = absurd (omega (arith, e))
at_neither (suc zero) lt e = absurd (omega (arith, e))
at_neither (suc (suc i)) lt e = absurd (omega (arith, lt))

lacks_one : Contains set_2_3 1 → ⊥
lacks_one c = at_neither c.0 c.1 c.2

at_one : (i : ℕ) → i < 1 → ◌≡◌ {A = ℕ} (slice_index_or set_1 i 2) 2 → ⊥
at_one zero lt e = absurd (omega (arith, e))
at_one (suc i) lt e = absurd (omega (arith, lt))

lacks_two : Contains set_1 2 → ⊥
lacks_two c = at_one c.0 c.1 c.2

one_in_more : IsContained set_1 set_1_2
one_in_more i h = Contains-append_left set_1 (2 ∷ []) i h

shows_one : Shows Story is_trace reaches has_failed one set_1
shows_one = record { is_one = tt; reaching = tt; exactly = λ i. ((λ h. h), (λ h. h)) }

shows_pair : Shows Story is_trace reaches has_failed pair set_2_3
shows_pair = record { is_one = tt; reaching = tt; exactly = λ i. ((λ h. h), (λ h. h)) }

one_few : length set_1 ≤ 2
one_few = omega arith

pair_few : length set_2_3 ≤ 2
pair_few = omega arith

-- of at most two faults, the sets 1 and 2 3 are right
sets_are_right : Right 2 (set_1 ∷ set_2_3 ∷ []) (one ∷ pair ∷ [])
sets_are_right = record { one_each = refl; small = small; shown = shown; covered = covered; apart = apart }
  where
    small : (k : ℕ) (set : List ℕ) → slice_get (set_1 ∷ set_2_3 ∷ []) k ≡ Some set → length set ≤ 2
    small zero set e = subst (λ s. length s ≤ 2) (same_Some set_1 set e) one_few
    small (suc zero) set e = subst (λ s. length s ≤ 2) (same_Some set_2_3 set e) pair_few
    small (suc (suc k)) set e = cc

    shown : (k : ℕ) (set : List ℕ) (trace : Story) → slice_get (set_1 ∷ set_2_3 ∷ []) k ≡ Some set → slice_get (one ∷ pair ∷ []) k ≡ Some trace →
        Shows Story is_trace reaches has_failed trace set
    shown zero set trace a b =
        subst (λ s. Shows Story is_trace reaches has_failed trace s) (same_Some set_1 set a)
        (subst (λ t. Shows Story is_trace reaches has_failed t set_1) (same_Some one trace b) shows_one)
    shown (suc zero) set trace a b =
        subst (λ s. Shows Story is_trace reaches has_failed trace s) (same_Some set_2_3 set a)
        (subst (λ t. Shows Story is_trace reaches has_failed t set_2_3) (same_Some pair trace b) shows_pair)
    shown (suc (suc k)) set trace a b = cc

    covered : (s : Story) → is_trace s → reaches s → HasFailedAtMost Story is_trace reaches has_failed 2 s → (set : List ℕ) × Contains (set_1 ∷ set_2_3 ∷ []) set × HasFailedAll Story is_trace reaches has_failed s set
    covered calm t r few = absurd r
    covered one t r few = (set_1, (0, omega arith, refl), λ i h. h)
    covered pair t r few = (set_2_3, (1, omega arith, refl), λ i h. h)
    covered more t r few = (set_1, (0, omega arith, refl), one_in_more)

    apart : (j k : ℕ) (set other : List ℕ) → slice_get (set_1 ∷ set_2_3 ∷ []) j ≡ Some set → slice_get (set_1 ∷ set_2_3 ∷ []) k ≡ Some other → j ≢ k →
        IsContained set other → ⊥
    apart zero zero set other a b ne inside = absurd (ne refl)
    apart zero (suc zero) set other a b ne inside =
        let there : IsContained set_1 set_2_3 =
        subst (λ o. IsContained set_1 o) (sym (same_Some set_2_3 other b)) (subst (λ s. IsContained s other) (sym (same_Some set_1 set a)) inside) in
        lacks_one (there 1 (0, omega arith, refl))
    apart (suc zero) zero set other a b ne inside =
        let there : IsContained set_2_3 set_1 =
        subst (λ o. IsContained set_2_3 o) (sym (same_Some set_1 other b)) (subst (λ s. IsContained s other) (sym (same_Some set_2_3 set a)) inside) in
        lacks_two (there 2 (0, omega arith, refl))
    apart (suc zero) (suc zero) set other a b ne inside = absurd (ne refl)
    apart (suc (suc j)) k set other a b ne inside = cc
    apart zero (suc (suc k)) set other a b ne inside = cc
    apart (suc zero) (suc (suc k)) set other a b ne inside = cc

-- with 1 2 they are not: it contains 1
one_too_many : Right 2 (set_1 ∷ set_2_3 ∷ set_1_2 ∷ []) (one ∷ pair ∷ more ∷ []) → ⊥
one_too_many right = right.apart 0 2 set_1 set_1_2 refl refl (λ e. absurd (omega (arith, e))) one_in_more

-- without 2 3 neither: faults 2 and 3 reach the top event without fault 1
one_missing : Right 2 (set_1 ∷ []) (one ∷ []) → ⊥
one_missing right =
    let some : (set : List ℕ) × Contains (set_1 ∷ []) set × HasFailedAll Story is_trace reaches has_failed pair set =
    right.covered pair tt tt (set_2_3, pair_few, λ i h. h) in
    let is : some.0 ≡ set_1 = only some.1.0 some.0 some.1.1 some.1.2 in
    lacks_one (subst (λ s. HasFailedAll Story is_trace reaches has_failed pair s) is some.2 1 (0, omega arith, refl))
  where
    only : (i : ℕ) (set : List ℕ) → i < 1 → slice_index_or (set_1 ∷ []) i set ≡ set → set ≡ set_1
    only zero set lt e = sym e
    only (suc i) set lt e = absurd (omega (arith, lt))

-- 1 is a minimal cut set
one_is_minimal : IsMinimalCutSet Story is_trace reaches has_failed set_1
one_is_minimal = record { is_one = (one, shows_one); minimal = λ other cut inside. by_trace cut.0 other cut.1 inside }
  where
    by_trace : (s : Story) (other : List ℕ) → Shows Story is_trace reaches has_failed s other → IsContained other set_1 → IsContained set_1 other
    by_trace calm other shows inside = absurd shows.reaching
    by_trace one other shows inside = λ i h. (shows.exactly i).0 h
    by_trace pair other shows inside = absurd (lacks_two (inside 2 ((shows.exactly 2).0 (0, omega arith, refl))))
    by_trace more other shows inside = absurd (lacks_two (inside 2 ((shows.exactly 2).0 (1, omega arith, refl))))

-- 1 2 is a cut set, and not a minimal one
more_is_cut : IsCutSet Story is_trace reaches has_failed set_1_2
more_is_cut = (more, record { is_one = tt; reaching = tt; exactly = λ i. ((λ h. h), (λ h. h)) })

more_is_not_minimal : IsMinimalCutSet Story is_trace reaches has_failed set_1_2 → ⊥
more_is_not_minimal m = lacks_two (m.minimal set_1 (one, shows_one) one_in_more 2 (1, omega arith, refl))
