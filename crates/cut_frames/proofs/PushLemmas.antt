-- What `advance` puts into frames.
use Rattle.std.proofs.Common.{◌≡◌, ◌≢◌, ◌≤◌, ◌<◌, ℕ, zero, suc, ◌+◌, ◌-◌, true, false, not, List, [], ◌∷◌, refl, sym, ◌∙◌, ap, subst, arith, length, map, ◌⊎◌, inl, inr}
use Rattle.std.specs.Prelude.{slice_index_or, slice_set, Contains, IsTrue}
use Rattle.std.proofs.lemmas.Bool.{cases_eq, cases_lt}
use Rattle.std.proofs.lemmas.List.{length-set, get_or-set_same, get_or-set_other}
use Rattle.std.proofs.lemmas.List.Elements.{All-contains}
use Rattle.sat_clauses.specs.Literal.{Literal, opposite, signed}
use Rattle.sat_clauses.specs.Assignment.{Assignment}
use Rattle.sat_clauses.specs.Models.{TotalAssignment, literal_value, clause_value, values_of}
use Rattle.sat_clauses.proofs.ModelLemmas.{literal_value-opposite}
use Rattle.sat_clauses.proofs.FalseLemmas.{opposite-opposite}
use Rattle.sat_clauses.specs.declared.system.System.{System}
use Rattle.cut_frames.specs.Bits.{read_from, against_next, moved_on}
use Rattle.cut_frames.specs.Chain.{State, Agrees, state_values, IsStepOf, IsOverBits, InFrame}
use Rattle.cut_frames.specs.Condition.{IsFit}
use Rattle.cut_frames.specs.FrameLists.{frame_at, InNumber, IsFramed, AreStronger}
use Rattle.cut_frames.specs.FrontierGrowth.{Keeps}
use Rattle.cut_frames.specs.OwnVariables.{IsFound, IsExcluded}
use Rattle.cut_frames.specs.declared.guarded.Beside.TheVariants.{Step}
use Rattle.cut_frames.specs.Levels.{standing_in, frames_of, held_at, IsLevelled, HasMoved, IsStuck, IsLevelPushed, AreLevelsPushed, IsFilledLevel, AreFilledBelow, IsTightened, IsPushedFrom}
use Rattle.cut_frames.specs.declared.levels.Held.{Held}
use Rattle.cut_frames.specs.declared.levels.Levels.{Levels}
use Rattle.cut_frames.proofs.Short.{member_true, subset_true}
use Rattle.cut_frames.proofs.BitLemmas.{agrees_read, agrees_at, length_read}
use Rattle.cut_frames.proofs.Framing.{to_number, in_list, framed_gained, first_in}
use Rattle.cut_frames.proofs.LookLemmas.{read_number, met_number, met_itself, now_met, next_met}
use Rattle.cut_frames.proofs.LevelLaws.{frame_is, frame_past, length_frames, gained_raise, frame_raised, standing_set, to_frame, standing_of}
use Rattle.sat_simplify.proofs.ClauseLaws.{true_literal, true_by}

pub from_map : (f : Literal → Literal) (c : List Literal) (x : Literal) → Contains (map f c) x → (l : Literal) × Contains c l × (f l ≡ x)
from_map f [] x m = absurd (omega (arith, m.1))
from_map f (k ∷ c) x m = by_place m.0 m.1 m.2 (λ r. from_map f c x r)
  where
    by_place : (i : ℕ) → i < length (map f (k ∷ c)) → slice_index_or (map f (k ∷ c)) i x ≡ x → (Contains (map f c) x → (l : Literal) × Contains c l × (f l ≡ x)) → (l : Literal) × Contains (k ∷ c) l × (f l ≡ x)
    by_place zero lt e more = (k, (0, grind arith, refl), e)
    by_place (suc i) lt e more = let m = more (i, grind arith, e) in (m.0, (suc m.1.0, (let r = m.1.1 in grind (arith, r)), m.1.2), m.2)

pub to_map : (f : Literal → Literal) (c : List Literal) (l : Literal) → Contains c l → Contains (map f c) (f l)
to_map f [] l m = absurd (omega (arith, m.1))
to_map f (k ∷ c) l m = by_place m.0 m.1 m.2 (λ r. to_map f c l r)
  where
    by_place : (i : ℕ) → i < length (k ∷ c) → slice_index_or (k ∷ c) i l ≡ l → (Contains c l → Contains (map f c) (f l)) → Contains (map f (k ∷ c)) (f l)
    by_place zero lt e more = (0, grind arith, ap f e)
    by_place (suc i) lt e more = let m = more (i, grind arith, e) in (suc m.0, (let r = m.1 in grind (arith, r)), m.2)

-- a literal over state bits, moved to state bits next
pub opposite_moved : (bits : ℕ) (l : Literal) → opposite (moved_on bits (opposite l)) ≡ moved_on bits l
opposite_moved bits l = ap (moved_on bits) (opposite-opposite l)

pub next_value : (bits : ℕ) (v : TotalAssignment) (t : State) (l : Literal) → length t ≡ bits → Agrees v (bits + 2) t → (2 ≤ l.var) × (l.var < bits + 2) →
    literal_value v (moved_on bits l) ≡ literal_value (λ v. slice_index_or t (v - 2) false) l
next_value bits v t l e g over =
    ap (signed l.negated) (ap v (around l.var bits over.0) ∙ agrees_at v (bits + 2) (l.var - 2) t g (below l.var bits (length t) e over.0 over.1))
  where
    around : (n b : ℕ) → 2 ≤ n → n + b ≡ b + 2 + (n - 2)
    around n b le = omega arith

    below : (n b k : ℕ) → k ≡ b → 2 ≤ n → n < b + 2 → n - 2 < k
    below n b k e le lt = omega arith

module _ (system : System) where
  pub kept : (fs : List (List (List Literal))) (i : ℕ) (bad : List (List Literal)) (c core : List Literal) → IsFit system → IsFramed system fs → 0 < i → IsOverBits system c →
      IsExcluded system bad fs Step i (against_next system.state_bits c) core → Keeps system (frame_at fs i) c
  kept fs i bad c core fit f some oc k s t h step =
      let v : TotalAssignment = step.2.0 in
      let holds : clause_value v core ≡ true = k.follows v (met_number system fs i s v fit f step.2.1 (to_number system fs i s some h)) (met_itself system system.step v step.2.3) in
      let m = true_literal v core holds in
      let neg : Contains (against_next system.state_bits c) (opposite m.0) = subst (λ l. Contains (against_next system.state_bits c) (opposite l)) m.1.2 (k.negated m.1.0 m.0 m.1.1) in
      let from = from_map (λ l. moved_on system.state_bits (opposite l)) c (opposite m.0) neg in
      let is : m.0 ≡ moved_on system.state_bits from.0 =
      sym (opposite-opposite m.0) ∙ ap opposite (sym from.2) ∙ opposite_moved system.state_bits from.0 in
      let inside = All-contains (λ l. (2 ≤ l.var) × (l.var < system.state_bits + 2)) c from.0 oc from.1 in
      true_by (state_values system t) c from.0 from.1
      (sym (next_value system.state_bits v t from.0 step.1 step.2.2 inside) ∙ ap (literal_value v) (sym is) ∙ m.2)

  pub not_kept : (fs : List (List (List Literal))) (i : ℕ) (bad : List (List Literal)) (c : List Literal) (values : Assignment) → IsFramed system fs → IsOverBits system c →
      IsFound system bad fs Step i (against_next system.state_bits c) values → Keeps system (frame_at fs i) c → ⊥
  not_kept fs i bad c values f oc m keeps =
      let v : TotalAssignment = values_of values in
      let s : State = read_from 2 system.state_bits values in
      let t : State = read_from (system.state_bits + 2) system.state_bits values in
      let now : length s ≡ system.state_bits = length_read 2 system.state_bits values in
      let next : length t ≡ system.state_bits = length_read (system.state_bits + 2) system.state_bits values in
      let step : IsStepOf system s t = (
        now,
        next,
        (m.beside.values, now_met system system.step v s now (agrees_read 2 system.state_bits values) m.beside, next_met system system.step v t next (agrees_read (system.state_bits + 2) system.state_bits values) m.beside, m.beside.all),
      ) in
      let there = keeps s t (in_list system fs i s f (read_number system fs i values f m.frame)) step in
      let one = true_literal (state_values system t) c there in
      let inside = All-contains (λ l. (2 ≤ l.var) × (l.var < system.state_bits + 2)) c one.0 oc one.1 in
      let passes' : literal_value v (moved_on system.state_bits one.0) ≡ true = next_value system.state_bits v t one.0 next (agrees_read (system.state_bits + 2) system.state_bits values) inside ∙ one.2 in
      let against : literal_value v (moved_on system.state_bits (opposite one.0)) ≡ true = All-contains (λ l. IsTrue (literal_value v l)) (against_next system.state_bits c) (moved_on system.state_bits (opposite one.0)) m.assumed (to_map (λ l. moved_on system.state_bits (opposite l)) c one.0 one.1) in
      let fails' : literal_value v (moved_on system.state_bits (opposite one.0)) ≡ false = literal_value-opposite v (moved_on system.state_bits one.0) ∙ ap not passes' in
      let both : true ≡ false = sym against ∙ fails' in cc

  -- nothing moved
  pub moved_none : (l : Levels) (i : ℕ) → HasMoved system l l i
  moved_none l i = record { last = refl; count = refl; stays = λ k. inl refl; grown = record { same_length = refl; others = λ j n. refl; grows = λ c m. m } }

  -- the clause of a place moved
  pub moved_raise : (l now : Levels) (i k : ℕ) (h : Held) → now.last ≡ l.last → i < l.last → k < length l.held.items → (held_at l k).highest ≡ i →
      h.clause ≡ (held_at l k).clause → h.highest ≡ i + 1 → now.held.items ≡ slice_set l.held.items k h → HasMoved system l now i
  moved_raise l now i k h last lt inside was clause is items = record {
    last = last;
    count = ap (λ (hs : List Held). length hs) items ∙ length-set l.held.items k h;
    stays = λ p. by_place p (cases_eq p k);
    grown = record {
      same_length = length_frames now ∙ ap suc last ∙ sym (length_frames l);
      others = λ j ne. other j ne (cases_lt l.last j);
      grows = λ d m. frame_raised l now i k h last lt inside was clause is items (i + 1) d m;
    };
  }
    where
      none : Held
      none = record { clause = []; highest = 0 }

      by_place : (p : ℕ) → (p ≡ k) ⊎ (p ≢ k) → (held_at now p ≡ held_at l p) ⊎ ((held_at now p).highest ≡ i + 1)
      by_place p (inl e) = inr (ap (λ (g : Held). g.highest) (ap (λ (hs : List Held). slice_index_or hs p none) items ∙ ap (λ q. slice_index_or (slice_set l.held.items k h) q none) e ∙ get_or-set_same l.held.items k h none inside) ∙ is)
      by_place p (inr ne) = inl (ap (λ (hs : List Held). slice_index_or hs p none) items ∙ get_or-set_other l.held.items k p h none ne)

      other : (j : ℕ) → j ≢ i + 1 → (l.last < j) ⊎ (j ≤ l.last) → frame_at (frames_of now) j ≡ frame_at (frames_of l) j
      other j ne (inl past) = frame_past now j (subst (λ n. n < j) (sym last) past) ∙ sym (frame_past l j past)
      other j ne (inr le) = frame_is now j (subst (λ n. j ≤ n) (sym last) le) ∙ ap (standing_in j) items ∙ standing_set j i k l.held.items h was is clause ne ∙ sym (frame_is l j le)

  pub framed_raise : (l now : Levels) (i k : ℕ) (h : Held) → IsLevelled system l → 0 < i → now.last ≡ l.last → i < l.last → k < length l.held.items → (held_at l k).highest ≡ i →
      h.clause ≡ (held_at l k).clause → h.highest ≡ i + 1 → now.held.items ≡ slice_set l.held.items k h → Keeps system (frame_at (frames_of l) i) (held_at l k).clause → IsLevelled system now
  framed_raise l now i k h f some last lt inside was clause is items keeps = record {
    numbers = λ p d in_now. low p d (subst (λ (hs : List Held). p < length hs) items in_now) (cases_eq p k);
    framed = framed_gained system (i + 1) c (frames_of l) (frames_of now) (gained_raise l now i k h last lt inside was clause is items) f.framed (f.framed.over_bits i c there) (f.framed.apart i c there)
        (λ s first. member_true (state_values system s) (frame_at (frames_of l) i) c (first_in system (frames_of l) i s f.framed first).1 there)
        (λ m s t e h' step. keeps s t (in_list system (frames_of l) i s f.framed (subst (λ n. InNumber system (frames_of l) n s) (same i m e) h')) step);
  }
    where
      c : List Literal
      c = (held_at l k).clause

      there : Contains (frame_at (frames_of l) i) c
      there = to_frame l i c (omega (arith, lt)) (standing_of i l.held.items k inside (subst (λ n. i ≤ n) (sym was) (omega arith)))

      same : (i m : ℕ) → i + 1 ≡ suc m → m ≡ i
      same i m e = omega (arith, e)

      next : (i n : ℕ) → i < n → i + 1 ≤ n
      next i n lt = omega (arith, lt)

      low : (p : ℕ) (d : Held) → p < length (slice_set l.held.items k h) → (p ≡ k) ⊎ (p ≢ k) → (slice_index_or now.held.items p d).highest ≤ now.last
      low p d in_set (inl e) = subst (λ n. n ≤ now.last) (sym (ap (λ (g : Held). g.highest) (ap (λ (hs : List Held). slice_index_or hs p d) items ∙ ap (λ q. slice_index_or (slice_set l.held.items k h) q d) e ∙ get_or-set_same l.held.items k h d inside) ∙ is))
          (subst (λ n. i + 1 ≤ n) (sym last) (next i l.last lt))
      low p d in_set (inr ne) = subst (λ (g : Held). g.highest ≤ now.last) (sym (ap (λ (hs : List Held). slice_index_or hs p d) items ∙ get_or-set_other l.held.items k p h d ne))
          (subst (λ n. (slice_index_or l.held.items p d).highest ≤ n) (sym last) (f.numbers p d (subst (λ n. p < n) (length-set l.held.items k h) in_set)))

  pub moved_more : (a b c : Levels) (i : ℕ) → HasMoved system a b i → HasMoved system b c i → HasMoved system a c i
  moved_more a b c i g h = record {
    last = h.last ∙ g.last;
    count = h.count ∙ g.count;
    stays = λ k. by_case k (h.stays k) (g.stays k);
    grown = record {
      same_length = h.grown.same_length ∙ g.grown.same_length;
      others = λ j n. h.grown.others j n ∙ g.grown.others j n;
      grows = λ d m. h.grown.grows d (g.grown.grows d m);
    };
  }
    where
      by_case : (k : ℕ) → (held_at c k ≡ held_at b k) ⊎ ((held_at c k).highest ≡ i + 1) → (held_at b k ≡ held_at a k) ⊎ ((held_at b k).highest ≡ i + 1) → (held_at c k ≡ held_at a k) ⊎ ((held_at c k).highest ≡ i + 1)
      by_case k (inr e) other = inr e
      by_case k (inl e) (inl d) = inl (e ∙ d)
      by_case k (inl e) (inr d) = inr (ap (λ (g : Held). g.highest) e ∙ d)

  -- frames that moved imply what they were
  pub moved_stronger : (a b : Levels) (i : ℕ) → HasMoved system a b i → AreStronger system (frames_of a) (frames_of b)
  moved_stronger a b i g = λ j s lt h. by_place j s h (cases_eq j (i + 1))
    where
      by_place : (j : ℕ) (s : State) → InFrame system (frame_at (frames_of b) j) s → (j ≡ i + 1) ⊎ (j ≢ i + 1) → InFrame system (frame_at (frames_of a) j) s
      by_place j s h (inl e) = subst (λ n. InFrame system (frame_at (frames_of a) n) s) (sym e)
          (h.0, subset_true (state_values system s) (frame_at (frames_of b) (i + 1)) (frame_at (frames_of a) (i + 1)) g.grown.grows (subst (λ n. InFrame system (frame_at (frames_of b) n) s) e h).1)
      by_place j s h (inr n) = subst (λ f. InFrame system f s) (g.grown.others j n) h

  pub tightened_pushed : (a b : Levels) (i : ℕ) → IsPushedFrom system a b i → IsTightened system a b
  tightened_pushed a b i g = record { framed = g.framed; last = g.moved.last; stronger = moved_stronger a b i g.moved }

  -- what was stuck stays so while clauses move from frame i or a later one
  stuck_stays : (a b : Levels) (i j k : ℕ) → HasMoved system a b i → j ≤ i → IsStuck system a j (held_at a k) → IsStuck system b j (held_at b k)
  stuck_stays a b i j k g le stuck is = by_case (g.stays k)
    where
      apart : j ≢ i + 1
      apart = λ e. omega (arith, e, le)

      by_case : (held_at b k ≡ held_at a k) ⊎ ((held_at b k).highest ≡ i + 1) → Keeps system (frame_at (frames_of b) j) (held_at b k).clause → ⊥
      by_case (inl e) keeps = stuck (sym (ap (λ (h : Held). h.highest) e) ∙ is)
          (subst (λ (h : Held). Keeps system (frame_at (frames_of a) j) h.clause) e (subst (λ f. Keeps system f (held_at b k).clause) (g.grown.others j apart) keeps))
      by_case (inr e) keeps = absurd (apart (sym is ∙ e))

  -- the places below n are done
  abbrev pub ArePlacesPushed : Levels → ℕ → ℕ → Type 0
  ArePlacesPushed l i n = (k : ℕ) → k < n → IsStuck system l i (held_at l k)

  pub places_more : (a b : Levels) (i n : ℕ) → HasMoved system a b i → ArePlacesPushed a i n → IsStuck system b i (held_at b n) → ArePlacesPushed b i (n + 1)
  places_more a b i n g before here = λ k lt. by_place k lt (cases_eq k n)
    where
      less : (k n : ℕ) → k ≢ n → k < n + 1 → k < n
      less k n ne lt = omega arith

      by_place : (k : ℕ) → k < n + 1 → (k ≡ n) ⊎ (k ≢ n) → IsStuck system b i (held_at b k)
      by_place k lt (inl e) = subst (λ m. IsStuck system b i (held_at b m)) (sym e) here
      by_place k lt (inr ne) = stuck_stays a b i i k g (omega arith) (before k (less k n ne lt))

  pub levels_more : (a b : Levels) (i : ℕ) → HasMoved system a b i → AreLevelsPushed system a i → IsLevelPushed system b i → AreLevelsPushed system b (i + 1)
  levels_more a b i g before here = λ j some lt. by_place j some lt (cases_eq j i)
    where
      less : (j i : ℕ) → j ≢ i → j < i + 1 → j < i
      less j i ne lt = omega arith

      by_place : (j : ℕ) → 0 < j → j < i + 1 → (j ≡ i) ⊎ (j ≢ i) → IsLevelPushed system b j
      by_place j some lt (inl e) = subst (IsLevelPushed system b) (sym e) here
      by_place j some lt (inr ne) = λ k in_b. stuck_stays a b i j k g (omega (arith, lt)) (before j some (less j i ne lt) k (subst (λ n. k < n) g.count in_b))

-- the clause of a place stands in the frame of its number
pub held_in_frame : (l : Levels) (i k : ℕ) → k < length l.held.items → (held_at l k).highest ≡ i → i < l.last → Contains (frame_at (frames_of l) i) (held_at l k).clause
held_in_frame l i k inside was lt = to_frame l i (held_at l k).clause (omega (arith, lt)) (standing_of i l.held.items k inside (subst (λ n. i ≤ n) (sym was) (omega arith)))

-- a clause that was pushed has another number
pub raised_apart : (l now : Levels) (i k : ℕ) (h : Held) → k < length l.held.items → h.highest ≡ i + 1 → now.held.items ≡ slice_set l.held.items k h → (held_at now k).highest ≡ i → ⊥
raised_apart l now i k h inside is items e = none i (sym e ∙ ap (λ (g : Held). g.highest) (ap (λ (hs : List Held). slice_index_or hs k (record { clause = []; highest = 0 })) items ∙ get_or-set_same l.held.items k h (record { clause = []; highest = 0 }) inside) ∙ is)
  where
    none : (i : ℕ) → i ≡ i + 1 → ⊥
    none i e = omega (arith, e)

pub filled_more : (l : Levels) (i : ℕ) → AreFilledBelow l i → IsFilledLevel l i → AreFilledBelow l (i + 1)
filled_more l i before here = λ j some lt. by_place j some lt (cases_eq j i)
  where
    less : (j i : ℕ) → j ≢ i → j < i + 1 → j < i
    less j i ne lt = omega arith

    by_place : (j : ℕ) → 0 < j → j < i + 1 → (j ≡ i) ⊎ (j ≢ i) → IsFilledLevel l j
    by_place j some lt (inl e) = subst (IsFilledLevel l) (sym e) here
    by_place j some lt (inr ne) = before j some (less j i ne lt)
