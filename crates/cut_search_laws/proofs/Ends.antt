-- Each new set leaves fewer patterns of faults uncovered.
use Rattle.std.proofs.Common.{◌≡◌, ℕ, zero, suc, ◌+◌, ◌-◌, ◌<◌, ◌≤◌, nat_eq, Bool, true, false, not, List, [], ◌∷◌, length, map, refl, sym, ap, ◌∙◌, subst, arith, inl, inr}
use Rattle.std.proofs.lemmas.List.{length-map}
use Rattle.std.specs.Prelude.{slice_index_or}
use Rattle.std.specs.List.{range_with_len, list_all}
use Rattle.smv_language.specs.Trace.{Each, AtSome}
use Rattle.smv_flat_laws.specs.FlatTrace.{IsFlatTrace}
use Rattle.cut_frames.proofs.Count.{Within, count_less}
use Rattle.cut_right_laws.specs.Sets.{has_number, is_contained}
use Rattle.cut_search_laws.specs.FoundSets.{Found, sets_of, with_found, IsFound, AreFound, IsNew, ContainOneOf}
use Rattle.sat_encoding_laws.specs.FlatTraces.{IsNumbered, ReachesTop, HasFailedNumber}
use Rattle.cut_search_laws.specs.FlatSearch.{FlatTrace, SearchEnds}
use Rattle.cut_search_laws.specs.UncoveredPatterns.{is_in_pattern, is_covered, uncovered}
use Rattle.sat_encoding_laws.proofs.SetLaws.{either_of, contained_has, contained_in_itself, has_first, has_later}
use Rattle.cut_search_laws.proofs.FoundLaws.{some_kept, each_found, still_contain, new_is_listed}
use Rattle.std.proofs.lemmas.Bool.{or_left, or_right, and_parts, and_from as and_both, false_from_ne_true as refuted, not_from_true, not_from_false}
use Rattle.std.proofs.lemmas.List.FromFn.{length-range_with_len}
use Rattle.smv_language.proofs.BoolLaws.{or_cases, not_both}
use Rattle.cut_search_laws.specs.Problem.{Problem}

-- a test of all passes the test of each part
all_has : (p : ℕ → Bool) (set : List ℕ) (i : ℕ) → list_all p set ≡ true → has_number set i ≡ true → p i ≡ true
all_has p [] i h e = cc
all_has p (j ∷ set) i h e =
    let parts : (p j ≡ true) × (list_all p set ≡ true) = and_parts (p j) (list_all p set) h in
    either_of (λ f. subst (λ k. p k ≡ true) (Rattle.std.proofs.Common.eqb-true j i f) parts.0) (λ g. all_has p set i parts.1 g) (or_cases (nat_eq j i) (has_number set i) e)

all_from : (p : ℕ → Bool) (set : List ℕ) → ((i : ℕ) → has_number set i ≡ true → p i ≡ true) → list_all p set ≡ true
all_from p [] f = refl
all_from p (j ∷ set) f = and_both (p j) (list_all p set) (f j (has_first j set)) (all_from p set (λ i h. f i (has_later j i set h)))

all_contained : (p : ℕ → Bool) (s t : List ℕ) → is_contained s t ≡ true → list_all p t ≡ true → list_all p s ≡ true
all_contained p s t c h = all_from p s (λ i e. all_has p t i h (contained_has s t i c e))

module _ {T : Type 0} (pattern : List Bool) where
  abbrev Inside : Found T → Type 0
  Inside f = list_all (is_in_pattern pattern) f.set ≡ true

  covered_means : (fs : List (Found T)) → is_covered (sets_of fs) pattern ≡ true → AtSome Inside fs
  covered_means [] h = cc
  covered_means (f ∷ fs) h =
      either_of (λ e. inl e) (λ g. inr (covered_means fs g)) (or_cases (list_all (is_in_pattern pattern) f.set) (is_covered (sets_of fs) pattern) h)

  covered_comes : (fs : List (Found T)) → AtSome Inside fs → is_covered (sets_of fs) pattern ≡ true
  covered_comes [] h = absurd h
  covered_comes (f ∷ fs) (inl e) = or_left (list_all (is_in_pattern pattern) f.set) (is_covered (sets_of fs) pattern) e
  covered_comes (f ∷ fs) (inr h) = or_right (list_all (is_in_pattern pattern) f.set) (is_covered (sets_of fs) pattern) (covered_comes fs h)

  -- what the sets before cover the sets now cover
  still_covered : (now before : List (Found T)) → ContainOneOf now before → is_covered (sets_of before) pattern ≡ true → is_covered (sets_of now) pattern ≡ true
  still_covered now before contain h = covered_comes now (through before contain (covered_means before h))
    where
      through : (fs : List (Found T)) → ContainOneOf now fs → AtSome Inside fs → AtSome Inside now
      through [] c some = absurd some
      through (f ∷ fs) c (inl e) = some_kept (λ g. is_contained g.set f.set ≡ true) Inside (λ g k. all_contained (is_in_pattern pattern) g.set f.set k e) now c.0
      through (f ∷ fs) c (inr some) = through fs c.1 some

-- the pattern of a set
abbrev pattern_of : ℕ → List ℕ → List Bool
pattern_of n set = map (has_number set) (range_with_len 1 n)

mapped_range : (h : ℕ → Bool) (a n j : ℕ) → j < n → slice_index_or (map h (range_with_len a n)) j false ≡ h (a + j)
mapped_range h a zero j l = absurd (omega (arith, l))
mapped_range h a (suc n) zero l = ap h (none a)
  where
    none : (a : ℕ) → a ≡ a + 0
    none a = omega arith
mapped_range h a (suc n) (suc j) l = mapped_range h (a + 1) n j (omega (arith, l)) ∙ ap h (moved a j)
  where
    moved : (a j : ℕ) → a + 1 + j ≡ a + suc j
    moved a j = omega arith

in_pattern_of : (n : ℕ) (set : List ℕ) (i : ℕ) → 1 ≤ i → i ≤ n → is_in_pattern (pattern_of n set) i ≡ has_number set i
in_pattern_of n set i low high = mapped_range (has_number set) 1 n (i - 1) (within i n low high) ∙ ap (has_number set) (back i low)
  where
    within : (i n : ℕ) → 1 ≤ i → i ≤ n → i - 1 < n
    within i n low high = omega (arith, low, high)

    back : (i : ℕ) → 1 ≤ i → 1 + (i - 1) ≡ i
    back i low = omega (arith, low)

-- the pattern of one set contains another exactly where the set does
inside_pattern : (n : ℕ) (set other : List ℕ) → IsNumbered n other → list_all (is_in_pattern (pattern_of n set)) other ≡ is_contained other set
inside_pattern n set [] h = refl
inside_pattern n set (i ∷ other) h = rw (in_pattern_of n set i h.0.0 h.0.1, inside_pattern n set other h.1) refl

module _ (T : Type 0) (is_trace reaches : T → Type 0) (has_failed : T → ℕ → Type 0) (faults size : ℕ) where
  pub falls : (new : Found T) (fs : List (Found T)) → AreFound T is_trace reaches has_failed faults size fs → IsFound T is_trace reaches has_failed faults size new → IsNew new.set fs →
      uncovered faults (sets_of (with_found new fs)) < uncovered faults (sets_of fs)
  falls new fs are is fresh =
      count_less faults (λ pattern. not (is_covered (sets_of (with_found new fs)) pattern)) (λ pattern. not (is_covered (sets_of fs) pattern)) (pattern_of faults new.set) within
      (length-map (range_with_len 1 faults) (has_number new.set) ∙ length-range_with_len 1 faults) (not_from_false (is_covered (sets_of fs) (pattern_of faults new.set)) none_covers)
      (not_from_true (is_covered (sets_of (with_found new fs)) (pattern_of faults new.set)) shut)
    where
      back : (b : Bool) → not b ≡ true → b ≡ false
      back true e = cc
      back false e = refl

      within : Within faults (λ pattern. not (is_covered (sets_of (with_found new fs)) pattern)) (λ pattern. not (is_covered (sets_of fs) pattern))
      within = λ s e h.
          not_from_false (is_covered (sets_of fs) s)
          (refuted (is_covered (sets_of fs) s) (λ t. not_both (is_covered (sets_of (with_found new fs)) s) (still_covered s (with_found new fs) fs (still_contain new fs) t) (back (is_covered (sets_of (with_found new fs)) s) h)))

      shut : is_covered (sets_of (with_found new fs)) (pattern_of faults new.set) ≡ true
      shut =
          covered_comes (pattern_of faults new.set) (with_found new fs)
          (some_kept (λ g. g ≡ new) (λ g. list_all (is_in_pattern (pattern_of faults new.set)) g.set ≡ true)
          (λ g e. subst (λ x. list_all (is_in_pattern (pattern_of faults new.set)) x.set ≡ true) (sym e) (inside_pattern faults new.set new.set is.numbered ∙ contained_in_itself new.set)) (with_found new fs)
          (new_is_listed new fs))

      none : (gs : List (Found T)) → Each (IsFound T is_trace reaches has_failed faults size) gs → IsNew new.set gs → AtSome (λ g. list_all (is_in_pattern (pattern_of faults new.set)) g.set ≡ true) gs → ⊥
      none [] all n some = absurd some
      none (g ∷ gs) all n (inl e) = not_both (is_contained g.set new.set) (sym (inside_pattern faults new.set g.set all.0.numbered) ∙ e) n.0
      none (g ∷ gs) all n (inr some) = none gs all.1 n.1 some

      none_covers : is_covered (sets_of fs) (pattern_of faults new.set) ≡ false
      none_covers =
          refuted (is_covered (sets_of fs) (pattern_of faults new.set))
          (λ t. none fs (each_found T is_trace reaches has_failed faults size fs are) fresh (covered_means (pattern_of faults new.set) fs t))

module _ (problem : Problem) where
  open problem use {model as m, modes as fs, top}

  pub search_ends : SearchEnds problem
  search_ends size new found are is fresh = falls FlatTrace (IsFlatTrace m) (ReachesTop m top) (HasFailedNumber m fs) (length fs) size new found are is fresh
