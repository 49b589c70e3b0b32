-- A chain over b state bits has at most 2 ^ b + 1 frames.
use Rattle.std.proofs.Common.{◌≡◌, ◌≤◌, ◌<◌, ℕ, zero, suc, ◌+◌, ◌-◌, ◌^◌, true, false, List, [], ◌∷◌, Some, refl, subst, arith, length, ◌⊎◌, inl, inr}
use Rattle.std.proofs.lemmas.Bool.{cases_lt, and_parts as both_true, and_from as and_true}
use Rattle.std.specs.Prelude.{slice_get, slice_index_or, Contains}
use Rattle.sat_clauses.specs.Literal.{Literal}
use Rattle.sat_clauses.specs.Models.{TotalAssignment, clause_value, all_true}
use Rattle.sat_clauses.specs.declared.system.System.{System}
use Rattle.cut_frames.specs.Chain.{InFrame, IsFrame, IsChain, ChainsAreShort, Stands}
use Rattle.cut_frames.specs.StatesLeft.{count, passes}
use Rattle.cut_frames.proofs.Count.{Within, count_back, count_bound}
use Rattle.sat_clauses.proofs.ClauseLists.{covered_true}

-- a list of clauses is true where each of them is, and then each is
pub each_true : (v : TotalAssignment) (cs : List (List Literal)) (k : ℕ) (d : List Literal) → all_true v cs ≡ true → k < length cs → clause_value v (slice_index_or cs k d) ≡ true
each_true v [] k d t lt = absurd (omega (arith, lt))
each_true v (c ∷ cs) zero d t lt = (both_true _ _ t).0
each_true v (c ∷ cs) (suc k) d t lt = each_true v cs k d (both_true _ _ t).1 (grind arith)

pub member_true : (v : TotalAssignment) (cs : List (List Literal)) (c : List Literal) → all_true v cs ≡ true → Contains cs c → clause_value v c ≡ true
member_true v cs c t m = subst (λ z. clause_value v z ≡ true) m.2 (each_true v cs m.0 c t m.1)

pub later_member : (c d : List Literal) (cs : List (List Literal)) → Contains cs d → Contains (c ∷ cs) d
later_member c d cs m = (suc m.0, grind (arith, m.1), m.2)

pub first_member : (c : List Literal) (cs : List (List Literal)) → Contains (c ∷ cs) c
first_member c cs = (0, grind arith, refl)

pub all_from_members : (v : TotalAssignment) (cs : List (List Literal)) → ((c : List Literal) → Contains cs c → clause_value v c ≡ true) → all_true v cs ≡ true
all_from_members v [] f = refl
all_from_members v (c ∷ cs) f = and_true _ _ (f c (first_member c cs)) (all_from_members v cs (λ d m. f d (later_member c d cs m)))

pub subset_true : (v : TotalAssignment) (cs ds : List (List Literal)) → ((c : List Literal) → Contains ds c → Contains cs c) → all_true v cs ≡ true → all_true v ds ≡ true
subset_true v cs ds f t = all_from_members v ds (λ c m. member_true v cs c t (f c m))

pub stands_true : (v : TotalAssignment) (cs : List (List Literal)) (c : List Literal) → all_true v cs ≡ true → Stands cs c → clause_value v c ≡ true
stands_true v cs c t s = covered_true v s.1 c s.4.1 (member_true v cs s.1 t (s.0, s.2, s.3))

pub standing_true : (v : TotalAssignment) (cs ds : List (List Literal)) → ((c : List Literal) → Contains ds c → Stands cs c) → all_true v cs ≡ true → all_true v ds ≡ true
standing_true v cs ds f t = all_from_members v ds (λ c m. stands_true v cs c t (f c m))

get_before : {A : Type 0} (xs : List A) (j : ℕ) (x : A) → slice_get xs (suc j) ≡ Some x → (y : A) × (slice_get xs j ≡ Some y)
get_before [] j x e = cc
get_before (y ∷ ys) zero x e = (y, refl)
get_before (y ∷ ys) (suc j) x e = get_before ys j x e

get_last : {A : Type 0} (x : A) (xs : List A) → (y : A) × (slice_get (x ∷ xs) (length xs) ≡ Some y)
get_last x [] = (x, refl)
get_last x (y ∷ ys) = get_last y ys

module _ (system : System) (bad : List (List Literal)) (frames : List (List (List Literal))) (chain : IsChain system bad frames) where
  -- the frame after another one passes more states
  rises_once : (j : ℕ) (frame next : List (List Literal)) → slice_get frames j ≡ Some frame → slice_get frames (suc j) ≡ Some next →
      count system.state_bits (passes frame) < count system.state_bits (passes next)
  rises_once j frame next at after = by_order (cases_lt (count system.state_bits (passes frame)) (count system.state_bits (passes next)))
    where
      this : IsFrame system frames (j + 1) frame
      this = (omega arith, subst (λ n. slice_get frames n ≡ Some frame) (one_less j) at)
        where
          one_less : (j : ℕ) → j ≡ j + 1 - 1
          one_less j = omega arith

      that : IsFrame system frames (j + 1 + 1) next
      that = (omega arith, subst (λ n. slice_get frames n ≡ Some next) (one_less j) after)
        where
          one_less : (j : ℕ) → suc j ≡ j + 1 + 1 - 1
          one_less j = omega arith

      within : Within system.state_bits (passes frame) (passes next)
      within = λ s e t. standing_true (λ v. slice_index_or s (v - 2) false) frame next (λ c m. chain.shrinks (j + 1) frame next this that c m) t

      by_order : (count system.state_bits (passes frame) < count system.state_bits (passes next)) ⊎ (count system.state_bits (passes next) ≤ count system.state_bits (passes frame)) →
          count system.state_bits (passes frame) < count system.state_bits (passes next)
      by_order (inl l) = l
      by_order (inr l) =
          let back = count_back system.state_bits (passes frame) (passes next) within l in
          let lost = chain.loses (j + 1) frame next this that in
          absurd (lost.2 (chain.pushed (j + 1) frame next this that lost.0 lost.1
          (λ s t here step. let there : InFrame system next t = chain.advances (j + 1) frame next s t this that here step in
          member_true (λ v. slice_index_or t (v - 2) false) frame lost.0 (back t there.0 there.1) lost.1)))

  rises : (j : ℕ) (frame : List (List Literal)) → slice_get frames j ≡ Some frame → j ≤ count system.state_bits (passes frame)
  rises zero frame at = omega arith
  rises (suc j) frame at =
      let before = get_before frames j frame at in
      let ih = rises j before.0 before.1 in
      let more = rises_once j before.0 frame before.1 at in
      omega (arith, ih, more)

pub chains_short : ChainsAreShort
chains_short system bad k has = by_frames has.0 has.1 has.2
  where
    by_frames : (frames : List (List (List Literal))) → length frames ≡ k → IsChain system bad frames → k ≤ 2 ^ system.state_bits + 1
    by_frames [] e chain = omega (arith, e)
    by_frames (f ∷ fs) e chain =
        let last = get_last f fs in
        let a = rises system bad (f ∷ fs) chain (length fs) last.0 last.1 in
        let b = count_bound system.state_bits (passes last.0) in
        let c : length (f ∷ fs) ≡ suc (length fs) = refl in
        omega (arith, a, b, c, e)
