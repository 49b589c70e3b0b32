-- The invariant of frames is kept, and what follows from it.
use Rattle.std.proofs.Common.{◌≡◌, ◌≤◌, ◌<◌, ◌⊎◌, inl, inr, ℕ, zero, suc, ◌+◌, ◌-◌, true, List, [], ◌∷◌, ◌++◌, Some, refl, sym, subst, arith, length}
use Rattle.std.specs.Prelude.{slice_get, slice_index_or, Contains, All}
use Rattle.std.proofs.lemmas.List.Elements.{All-contains, All-from_get_or, Contains-get_or}
use Rattle.sat_clauses.specs.Literal.{Literal}
use Rattle.sat_clauses.specs.Models.{TotalAssignment, clause_value, all_true}
use Rattle.sat_clauses.specs.declared.system.System.{System}
use Rattle.cut_frames.specs.Chain.{State, state_values, IsFirstState, IsStepOf, Makes, InFrame, IsOverBits, IsPart, Stands}
use Rattle.sat_clauses.specs.Hints.{HasNoOpposites}
use Rattle.cut_frames.specs.FrameLists.{frame_at, IsFramed, InNumber, AreStronger, ArePushed, IsInductive, HasEqualNeighbours}
use Rattle.cut_frames.specs.FrontierGrowth.{IsOpenChain}
use Rattle.cut_frames.specs.Levels.{HasGained}
use Rattle.cut_frames.specs.FramesByNumber.{AreNumbered}
use Rattle.sat_clauses.proofs.ClauseLists.{covered_true}
use Rattle.cut_frames.proofs.Sets.{stands_itself}
use Rattle.cut_frames.proofs.Short.{all_from_members, member_true, subset_true, standing_true}
use Rattle.std.proofs.Math.Numerals.{suc-eq-add-one}

pub all_members : (P : List Literal → Type 0) (xs : List (List Literal)) → ((c : List Literal) → Contains xs c → P c) → All P xs
all_members P xs f = λ k d lt. f (slice_index_or xs k d) (Contains-get_or xs k d lt)

-- a new last frame without clauses changes no list
pub frame_grown : (fs : List (List (List Literal))) (i : ℕ) → frame_at (fs ++ [] ∷ []) i ≡ frame_at fs i
frame_grown [] zero = refl
frame_grown [] (suc i) = refl
frame_grown (f ∷ fs) zero = refl
frame_grown (f ∷ fs) (suc i) = frame_grown fs i

-- what makes a frame true in which a clause more stands made it true before: a clause that went has that one as a part
pub gained_true : (j : ℕ) (c : List Literal) (old now : List (List (List Literal))) → HasGained j c old now → (i : ℕ) (v : TotalAssignment) → all_true v (frame_at now i) ≡ true → all_true v (frame_at old i) ≡ true
gained_true j c old now g i v t = all_from_members v (frame_at old i) (λ d m. by_case d (g.stays i d m))
  where
    by_case : (d : List Literal) → Contains (frame_at now i) d ⊎ ((i ≤ j) × IsPart c d) → clause_value v d ≡ true
    by_case d (inl m) = member_true v (frame_at now i) d t m
    by_case d (inr p) = covered_true v c d p.1 (member_true v (frame_at now i) c t (g.here i p.0))

module _ (system : System) where
  -- every state of a frame's number makes the number's list true
  pub in_list : (fs : List (List (List Literal))) (i : ℕ) (s : State) → IsFramed system fs → InNumber system fs i s → InFrame system (frame_at fs i) s
  in_list fs zero s f h = f.begins s h
  in_list fs (suc i) s f h = h

  pub to_number : (fs : List (List (List Literal))) (i : ℕ) (s : State) → 0 < i → InFrame system (frame_at fs i) s → InNumber system fs i s
  to_number fs zero s some h = absurd (omega (arith, some))
  to_number fs (suc i) s some h = h

  -- a frame implies each later one
  next_list : (fs : List (List (List Literal))) (i : ℕ) (s : State) → IsFramed system fs → InFrame system (frame_at fs i) s → InFrame system (frame_at fs (suc i)) s
  next_list fs i s f h = (h.0, subset_true (state_values system s) (frame_at fs i) (frame_at fs (suc i)) (f.shrinks i) h.1)

  reaches_by : (d : ℕ) (fs : List (List (List Literal))) (i k : ℕ) (s : State) → k ≡ d + i → IsFramed system fs → InFrame system (frame_at fs i) s → InFrame system (frame_at fs k) s
  reaches_by zero fs i k s e f h = subst (λ n. InFrame system (frame_at fs n) s) (omega (arith, e)) h
  reaches_by (suc d) fs i k s e f h = subst (λ n. InFrame system (frame_at fs n) s) (omega (arith, e)) (next_list fs (d + i) s f (reaches_by d fs i (d + i) s refl f h))

  pub reaches_from : (fs : List (List (List Literal))) (i k : ℕ) (s : State) → i ≤ k → IsFramed system fs → InFrame system (frame_at fs i) s → InFrame system (frame_at fs k) s
  reaches_from fs i k s le f h = reaches_by (k - i) fs i k s (apart i k le) f h
    where
      apart : (i k : ℕ) → i ≤ k → k ≡ k - i + i
      apart i k le = omega (arith, le)

  pub number_reaches : (fs : List (List (List Literal))) (i k : ℕ) (s : State) → i ≤ k → IsFramed system fs → InNumber system fs i s → InNumber system fs k s
  number_reaches fs zero zero s le f h = h
  number_reaches fs (suc i) zero s le f h = absurd (omega (arith, le))
  number_reaches fs i (suc k) s le f h = reaches_from fs i (suc k) s le f (in_list fs i s f h)

  pub first_in : (fs : List (List (List Literal))) (i : ℕ) (s : State) → IsFramed system fs → IsFirstState system s → InFrame system (frame_at fs i) s
  first_in fs i s f h = reaches_from fs 0 i s (omega arith) f (f.begins s h)

  -- frames in which a clause more stands imply what they were
  pub list_before : (j : ℕ) (c : List Literal) (old now : List (List (List Literal))) → HasGained j c old now → (i : ℕ) (s : State) → InFrame system (frame_at now i) s → InFrame system (frame_at old i) s
  list_before j c old now g i s h = (h.0, gained_true j c old now g i (state_values system s) h.1)

  pub number_before : (j : ℕ) (c : List Literal) (old now : List (List (List Literal))) → HasGained j c old now → (i : ℕ) (s : State) → InNumber system now i s → InNumber system old i s
  number_before j c old now g zero s h = h
  number_before j c old now g (suc i) s h = list_before j c old now g (suc i) s h

  -- a clause above the highest frame in which it holds is as it was
  pub number_above : (j : ℕ) (c : List Literal) (old now : List (List (List Literal))) → HasGained j c old now → (i : ℕ) (s : State) → j < i → InNumber system old i s → InNumber system now i s
  number_above j c old now g zero s lt h = h
  number_above j c old now g (suc i) s lt h = (
    h.0,
    subset_true (state_values system s) (frame_at old (suc i)) (frame_at now (suc i)) (λ d m. same d (g.only (suc i) d m)) h.1,
  )
    where
      same : (d : List Literal) → Contains (frame_at old (suc i)) d ⊎ ((d ≡ c) × (suc i ≤ j)) → Contains (frame_at old (suc i)) d
      same d (inl m) = m
      same d (inr e) = absurd (omega (arith, lt, e.1))

  -- a clause that holds in the first states, and after each step from the frame before its highest one
  pub framed_gained : (j : ℕ) (c : List Literal) (old now : List (List (List Literal))) → HasGained j c old now → IsFramed system old → IsOverBits system c → HasNoOpposites c →
      ((s : State) → IsFirstState system s → Makes system s c) →
      ((m : ℕ) (s t : State) → j ≡ suc m → InNumber system old m s → IsStepOf system s t → Makes system t c) →
      IsFramed system now
  framed_gained j c old now g f over apart first after = record {
    some = subst (λ n. 0 < n) (sym g.same) f.some;
    over_bits = λ i d m. either (IsOverBits system) i d (f.over_bits i d) over (g.only i d m);
    apart = λ i d m. either HasNoOpposites i d (f.apart i d) apart (g.only i d m);
    begins = λ s h. let was = f.begins s h in
        (was.0, all_from_members (state_values system s) (frame_at now 0) (λ d m. either (Makes system s) 0 d (member_true (state_values system s) (frame_at old 0) d was.1) (first s h) (g.only 0 d m)));
    steps = λ i s t h step. leads i s t (number_before j c old now g i s h) step;
    shrinks = g.shrinks;
  }
    where
      either : (P : List Literal → Type 0) (i : ℕ) (d : List Literal) → (Contains (frame_at old i) d → P d) → P c → Contains (frame_at old i) d ⊎ ((d ≡ c) × (i ≤ j)) → P d
      either P i d was here (inl m) = was m
      either P i d was here (inr e) = subst P (sym e.0) here

      before : (i j : ℕ) → suc i ≤ j → j ≡ suc (j - 1)
      before i j le = omega (arith, le)

      below : (i j : ℕ) → suc i ≤ j → i ≤ j - 1
      below i j le = omega (arith, le)

      leads : (i : ℕ) (s t : State) → InNumber system old i s → IsStepOf system s t → InFrame system (frame_at now (suc i)) t
      leads i s t h step = let there = f.steps i s t h step in
          (there.0, all_from_members (state_values system t) (frame_at now (suc i)) (λ d m. makes there.1 d (g.only (suc i) d m)))
        where
          makes : all_true (state_values system t) (frame_at old (suc i)) ≡ true → (d : List Literal) → Contains (frame_at old (suc i)) d ⊎ ((d ≡ c) × (suc i ≤ j)) → Makes system t d
          makes was d (inl m) = member_true (state_values system t) (frame_at old (suc i)) d was m
          makes was d (inr e) = subst (Makes system t) (sym e.0) (after (j - 1) s t (before i j e.1) (number_reaches old i (j - 1) s (below i j e.1) f h) step)

  -- a new last frame without clauses
  number_grown : (fs : List (List (List Literal))) (i : ℕ) (s : State) → InNumber system (fs ++ [] ∷ []) i s → InNumber system fs i s
  number_grown fs zero s h = h
  number_grown fs (suc i) s h = subst (λ f. InFrame system f s) (frame_grown fs (suc i)) h

  pub framed_grown : (fs : List (List (List Literal))) → IsFramed system fs → IsFramed system (fs ++ [] ∷ [])
  framed_grown fs f = record {
    some = more fs;
    over_bits = λ i c m. f.over_bits i c (subst (λ g. Contains g c) (frame_grown fs i) m);
    apart = λ i c m. f.apart i c (subst (λ g. Contains g c) (frame_grown fs i) m);
    begins = λ s h. subst (λ g. InFrame system g s) (sym (frame_grown fs 0)) (f.begins s h);
    steps = λ i s t h step. subst (λ g. InFrame system g t) (sym (frame_grown fs (suc i))) (f.steps i s t (number_grown fs i s h) step);
    shrinks = λ i c m. subst (λ g. Contains g c) (sym (frame_grown fs i)) (f.shrinks i c (subst (λ g. Contains g c) (frame_grown fs (suc i)) m));
  }
    where
      more : (fs : List (List (List Literal))) → 0 < length (fs ++ [] ∷ [])
      more [] = omega arith
      more (f ∷ fs) = grind arith

  pub stronger_grown : (fs : List (List (List Literal))) → AreStronger system fs (fs ++ [] ∷ [])
  stronger_grown fs = λ i s lt h. subst (λ g. InFrame system g s) (frame_grown fs i) h

  -- frames to begin with: no clause
  pub framed_new : IsFramed system ([] ∷ [])
  framed_new = record {
    some = omega arith;
    over_bits = λ i c m. absurd (none i c m);
    apart = λ i c m. absurd (none i c m);
    begins = λ s h. (h.0, refl);
    steps = λ i s t h step. (step.1, refl);
    shrinks = λ i c m. absurd (none (suc i) c m);
  }
    where
      none : (i : ℕ) (c : List Literal) → Contains (frame_at ([] ∷ []) i) c → ⊥
      none zero c m = omega (arith, m.1)
      none (suc i) c m = omega (arith, m.1)

  -- two equal neighbours are an invariant, which implies each later frame
  pub fixed_inductive : (fs : List (List (List Literal))) → IsFramed system fs → (e : HasEqualNeighbours system fs) → IsInductive system (frame_at fs e.at)
  fixed_inductive fs f e = record {
    over_bits = all_members (IsOverBits system) (frame_at fs e.at) (f.over_bits e.at);
    apart = all_members HasNoOpposites (frame_at fs e.at) (f.apart e.at);
    holds_first = λ s h. first_in fs e.at s f h;
    is_kept = λ s t h step. let there : InFrame system (frame_at fs (e.at + 1)) t = subst (λ n. InFrame system (frame_at fs n) t) (suc-eq-add-one e.at) (f.steps e.at s t (to_number fs e.at s e.from_one h) step) in
        (there.0, standing_true (state_values system t) (frame_at fs (e.at + 1)) (frame_at fs e.at) (λ c m. All-contains (Stands (frame_at fs (e.at + 1))) (frame_at fs e.at) c e.same.0 m) there.1);
  }

  -- what is promised of the frames by number
  pub numbered : (fs : List (List (List Literal))) → IsFramed system fs → AreNumbered system fs
  numbered fs f = record {
    some = f.some;
    is_first = λ s. (λ h. h, λ h. h);
    outlined = f.begins;
    implies = λ i s lt h. next_list fs i s f (in_list fs i s f h);
    steps = λ i s t lt h step. f.steps i s t h step;
    stands = λ i c one lt m. f.shrinks i c (subst (λ n. Contains (frame_at fs n) c) (sym (suc-eq-add-one i)) m);
  }

frame_is : (fs : List (List (List Literal))) (f0 : List (List Literal)) (i : ℕ) (frame : List (List Literal)) → 0 < i → slice_get fs (i - 1) ≡ Some frame → (frame_at (f0 ∷ fs) i ≡ frame) × (i < length (f0 ∷ fs))
frame_is fs f0 zero frame lt e = absurd (omega (arith, lt))
frame_is fs f0 (suc i) frame lt e = by_get fs i frame (subst (λ n. slice_get fs n ≡ Some frame) (less i) e)
  where
    less : (i : ℕ) → suc i - 1 ≡ i
    less i = omega arith

    by_get : (fs : List (List (List Literal))) (i : ℕ) (frame : List (List Literal)) → slice_get fs i ≡ Some frame → (frame_at fs i ≡ frame) × (suc i < suc (length fs))
    by_get [] i frame e = cc
    by_get (g ∷ fs) zero frame e = (cc, grind arith)
    by_get (g ∷ fs) (suc i) frame e = let rest = by_get fs i frame e in (rest.0, grind (arith, rest.1))

-- after pushing, frames no two of which are equal are a chain but for its last property
pub open_chain : (system : System) (f0 : List (List Literal)) (fs : List (List (List Literal))) → IsFramed system (f0 ∷ fs) → ArePushed system (f0 ∷ fs) →
    ((i : ℕ) → 0 < i → i + 1 < length (f0 ∷ fs) → (c : List Literal) × Contains (frame_at (f0 ∷ fs) i) c × (Stands (frame_at (f0 ∷ fs) (i + 1)) c → ⊥)) → IsOpenChain system fs
open_chain system f0 fs f p d = record {
  over_bits = All-from_get_or (All (IsOverBits system)) fs [] (λ i lt. all_members (IsOverBits system) (frame_at fs i) (f.over_bits (suc i)));
  first = λ frame s at h. let i = frame_is fs f0 1 frame at.0 at.1 in subst (λ z. InFrame system z s) i.0 (first_in system (f0 ∷ fs) 1 s f h);
  after_first = λ frame s t at h step. let i = frame_is fs f0 1 frame at.0 at.1 in
      subst (λ z. InFrame system z t) i.0 (f.steps 0 s t h step);
  advances = λ i frame next s t at after h step.
      let a = frame_is fs f0 i frame at.0 at.1 in
      let b = frame_is fs f0 (i + 1) next after.0 after.1 in
      subst (λ z. InFrame system z t) b.0 (subst (λ n. InFrame system (frame_at (f0 ∷ fs) n) t) (suc-eq-add-one i)
      (f.steps i s t (to_number system (f0 ∷ fs) i s at.0 (subst (λ z. InFrame system z s) (sym a.0) h)) step));
  shrinks = λ i frame next at after c m.
      let a = frame_is fs f0 i frame at.0 at.1 in
      let b = frame_is fs f0 (i + 1) next after.0 after.1 in
      stands_itself frame c (subst (λ z. Contains z c) a.0 (f.shrinks i c (subst (λ n. Contains (frame_at (f0 ∷ fs) n) c) (sym (suc-eq-add-one i)) (subst (λ z. Contains z c) (sym b.0) m))));
  loses = λ i frame next at after.
      let a = frame_is fs f0 i frame at.0 at.1 in
      let b = frame_is fs f0 (i + 1) next after.0 after.1 in
      let lost = d i at.0 b.1 in
      (lost.0, subst (λ z. Contains z lost.0) a.0 lost.1, λ m. lost.2 (subst (λ z. Stands z lost.0) (sym b.0) m));
  pushed = λ i frame next at after c m held.
      let a = frame_is fs f0 i frame at.0 at.1 in
      let b = frame_is fs f0 (i + 1) next after.0 after.1 in
      subst (λ z. Stands z c) b.0 (p i c at.0 b.1 (subst (λ z. Contains z c) (sym a.0) m)
      (λ s t h step. held s t (subst (λ z. InFrame system z s) a.0 h) step));
}
