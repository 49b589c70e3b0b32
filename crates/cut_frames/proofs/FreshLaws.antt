-- What a search that is made anew holds: frames without clauses, then with one clause of the frames after the other.
use Rattle.std.proofs.Common.{◌≡◌, ◌≤◌, ◌<◌, ◌⊎◌, inl, inr, ℕ, zero, suc, ◌+◌, List, [], ◌∷◌, ◌++◌, refl, sym, ◌∙◌, ap, subst, arith, length, take}
use Rattle.std.specs.Prelude.{slice_index_or, Contains}
use Rattle.std.proofs.lemmas.Bool.{cases_lt}
use Rattle.std.proofs.lemmas.List.{get_or_default}
use Rattle.std.proofs.lemmas.List.Elements.{Contains-append_left, Contains-append_right, Contains-append_cases}
use Rattle.sat_clauses.specs.Literal.{Literal}
use Rattle.sat_clauses.specs.declared.system.System.{System}
use Rattle.cut_frames.specs.Chain.{IsOverBits}
use Rattle.cut_frames.specs.FrameLists.{frame_at}
use Rattle.cut_frames.specs.Guards.{Layout, IsHeld, of_list, of_frame, of_next, of_retired, IsCovered, IsUnder, AreHeld, IsPut}
use Rattle.cut_frames.specs.GuardedSearch.{IsHolding, added_in, guard_of, guard_at}
use Rattle.cut_frames.specs.Levels.{standing_in, frames_from, IsLevelled}
use Rattle.cut_frames.specs.declared.levels.Held.{Held}
use Rattle.cut_frames.specs.declared.levels.Levels.{Levels}
use Rattle.cut_frames.specs.declared.guarded.Guarded.{Guarded}
use Rattle.cut_frames.proofs.LevelLaws.{stands, stands_not, standing_of, from_is, from_past, from_more, length_from, to_frame, standing_more}

-- one frame more without clauses
pub empty_more : (n : ℕ) → frames_from 0 (suc n) [] ++ [] ∷ [] ≡ frames_from 0 (suc (n + 1)) []
empty_more n = sym (from_more 0 (suc n) (suc n) [] (none (suc n))) ∙ ap (λ m. frames_from 0 m []) (next n)
  where
    none : (n : ℕ) → n ≡ n + 0
    none n = omega arith

    next : (n : ℕ) → suc (suc n) ≡ suc (n + 1)
    next n = omega arith

-- the list of a number in the frames of these clauses
listed : (last i : ℕ) (hs : List Held) → i ≤ last → frame_at (frames_from 0 (suc last) hs) i ≡ standing_in i hs
listed last i hs le = from_is 0 (suc last) i i hs (none i) (omega (arith, le))
  where
    none : (i : ℕ) → i ≡ i + 0
    none i = omega arith

-- one clause more: the frames up to its number have it
module _ (last k : ℕ) (hs : List Held) (h : Held) (lt : k < length hs) (is : h ≡ slice_index_or hs k h) where
  abbrev pub before : List (List (List Literal))
  before = frames_from 0 (suc last) (take k hs)

  abbrev pub after : List (List (List Literal))
  after = frames_from 0 (suc last) (take (k + 1) hs)

  -- what stands in a frame after that
  more : (i : ℕ) → i ≤ last → frame_at after i ≡ standing_in i (take k hs) ++ standing_in i (h ∷ [])
  more i le = listed last i (take (k + 1) hs) le ∙ standing_more i k hs h lt ∙ ap (λ (g : Held). standing_in i (take k hs) ++ standing_in i (g ∷ [])) (sym is)

  has_before : (i : ℕ) (d : List Literal) → Contains (frame_at before i) d → (i ≤ last) × Contains (standing_in i (take k hs)) d
  has_before i d m = by_order (cases_lt last i)
    where
      none : Contains [] d → ⊥
      none n = omega (arith, n.1)

      by_order : (last < i) ⊎ (i ≤ last) → (i ≤ last) × Contains (standing_in i (take k hs)) d
      by_order (inl past) = absurd (none (subst (λ xs. Contains xs d) (from_past 0 (suc last) i (take k hs) (omega (arith, past))) m))
      by_order (inr le) = (le, subst (λ xs. Contains xs d) (listed last i (take k hs) le) m)

  has_after : (i : ℕ) (d : List Literal) → Contains (frame_at after i) d → (i ≤ last) × Contains (standing_in i (take k hs) ++ standing_in i (h ∷ [])) d
  has_after i d m = by_order (cases_lt last i)
    where
      none : Contains [] d → ⊥
      none n = omega (arith, n.1)

      by_order : (last < i) ⊎ (i ≤ last) → (i ≤ last) × Contains (standing_in i (take k hs) ++ standing_in i (h ∷ [])) d
      by_order (inl past) = absurd (none (subst (λ xs. Contains xs d) (from_past 0 (suc last) i (take (k + 1) hs) (omega (arith, past))) m))
      by_order (inr le) = (le, subst (λ xs. Contains xs d) (more i le) m)

  pub lengths : length after ≡ length before
  lengths = length_from 0 (suc last) (take (k + 1) hs) ∙ sym (length_from 0 (suc last) (take k hs))

  pub put_next : h.highest ≤ last → IsPut h.highest h.clause before after
  put_next low = record {
    same = lengths;
    within = subst (λ n. h.highest < n) (sym (length_from 0 (suc last) (take k hs))) (omega (arith, low));
    here = λ i some le. here i le;
    stays = λ i d some m. inl (stays i d (has_before i d m));
    only = λ i d some m. only i d (has_after i d m);
  }
    where
      here : (i : ℕ) → i ≤ h.highest → Contains (frame_at after i) h.clause
      here i le = subst (λ xs. Contains xs h.clause) (sym (more i (omega (arith, le, low))))
          (Contains-append_right (standing_in i (take k hs)) (standing_in i (h ∷ [])) h.clause (subst (λ xs. Contains xs h.clause) (sym (stands i h [] le)) (0, grind arith, refl)))

      stays : (i : ℕ) (d : List Literal) → (i ≤ last) × Contains (standing_in i (take k hs)) d → Contains (frame_at after i) d
      stays i d w = subst (λ xs. Contains xs d) (sym (more i w.0)) (Contains-append_left (standing_in i (take k hs)) (standing_in i (h ∷ [])) d w.1)

      none : (d : List Literal) → Contains [] d → ⊥
      none d n = omega (arith, n.1)

      one : (c d : List Literal) → Contains (c ∷ []) d → c ≡ d
      one c d (zero, below, e) = e
      one c d (suc n, below, e) = absurd (omega (arith, below))

      new : (i : ℕ) (d : List Literal) → Contains (standing_in i (h ∷ [])) d → (d ≡ h.clause) × (i ≤ h.highest)
      new i d m = by_order (cases_lt h.highest i)
        where
          by_order : (h.highest < i) ⊎ (i ≤ h.highest) → (d ≡ h.clause) × (i ≤ h.highest)
          by_order (inl past) = absurd (none d (subst (λ xs. Contains xs d) (stands_not i h [] past) m))
          by_order (inr le) = (sym (one h.clause d (subst (λ xs. Contains xs d) (stands i h [] le) m)), le)

      only : (i : ℕ) (d : List Literal) → (i ≤ last) × Contains (standing_in i (take k hs) ++ standing_in i (h ∷ [])) d → Contains (frame_at before i) d ⊎ ((d ≡ h.clause) × (i ≤ h.highest))
      only i d w = by_case (Contains-append_cases (standing_in i (take k hs)) (standing_in i (h ∷ [])) d w.1)
        where
          by_case : Contains (standing_in i (take k hs)) d ⊎ Contains (standing_in i (h ∷ [])) d → Contains (frame_at before i) d ⊎ ((d ≡ h.clause) × (i ≤ h.highest))
          by_case (inl m) = inl (subst (λ xs. Contains xs d) (sym (listed last i (take k hs) w.0)) m)
          by_case (inr m) = inr (new i d m)

  -- where its number is 0, the frames from number 1 on are as they were
  pub same_next : h.highest ≡ 0 → (i : ℕ) → 0 < i → frame_at after i ≡ frame_at before i
  same_next none i some = by_order (cases_lt last i)
    where
      ends : (xs : List (List Literal)) → xs ++ [] ≡ xs
      ends [] = refl
      ends (x ∷ xs) = ap (λ ys. x ∷ ys) (ends xs)

      by_order : (last < i) ⊎ (i ≤ last) → frame_at after i ≡ frame_at before i
      by_order (inl past) = from_past 0 (suc last) i (take (k + 1) hs) (omega (arith, past)) ∙ sym (from_past 0 (suc last) i (take k hs) (omega (arith, past)))
      by_order (inr le) = more i le ∙ ap (λ xs. standing_in i (take k hs) ++ xs) (stands_not i h [] (omega (arith, none, some))) ∙ ends (standing_in i (take k hs)) ∙ sym (listed last i (take k hs) le)

-- what is held says nothing of the list of the frame of number 0
held_same : (l : Layout) (vars : ℕ) (added : List (List Literal)) (now : List (List (List Literal))) → AreHeld l vars added → length now ≡ length l.frames → ((i : ℕ) → 0 < i → frame_at now i ≡ frame_at l.frames i) →
    AreHeld (record l { frames = now }) vars added
held_same l vars added now are long same = record {
  is_place = are.is_place;
  is_unused = are.is_unused;
  is_guard = are.is_guard;
  is_gate = are.is_gate;
  is_frame = λ i some lt. are.is_frame i some (subst (λ n. i < n) long lt);
  list_low = are.list_low;
  frames_low = λ i c some m. are.frames_low i c some (subst (λ xs. Contains xs c) (same i some) m);
  each = λ d m. kind d (are.each d m);
  has_list = are.has_list;
  has_frames = λ i c some m. under i c (are.has_frames i c some (subst (λ xs. Contains xs c) (same i some) m));
  has_next = λ j some lt. are.has_next j some (subst (λ n. suc j < n) long lt);
}
  where
    kind : (d : List Literal) → IsHeld l d → IsHeld (record l { frames = now }) d
    kind d (of_list which e f m) = of_list which e f m
    kind d (of_frame x k c f r s t) = of_frame x k c f r s (λ i from le. subst (λ xs. IsCovered xs c) (sym (same i from)) (t i from le))
    kind d (of_next x y k e r s) = of_next x y k e r s
    kind d (of_retired x m r) = of_retired x m r

    under : (i : ℕ) (d : List Literal) → IsUnder l added i d → IsUnder (record l { frames = now }) added i d
    under i d u = record { at = u.at; from = u.from; within = subst (λ n. u.at < n) (sym long) u.within; is_added = u.is_added }

pub holding_same : (system : System) (list : List (List Literal)) (frames now : List (List (List Literal))) (g : Guarded) → IsHolding system list frames g → length now ≡ length frames →
    ((i : ℕ) → 0 < i → frame_at now i ≡ frame_at frames i) → IsHolding system list now g
holding_same system list frames now g h long same = record {
  well = h.well;
  places = h.places;
  simple = h.simple;
  count = h.count ∙ sym long;
  lists = h.lists;
  alike = h.alike;
  top = h.top;
  base = h.base;
  role = h.role;
  held = held_same (record { places = g.places; list = h.lists; frames = frames; guard = guard_of g; top = h.top; base = h.base; guard_at = guard_at g; role = h.role }) g.search.kept.vars (added_in g) now h.held long same;
}

-- a clause of the frames has the number of one, and is over state bits
pub number_here : (system : System) (l : Levels) (hs : List Held) (k : ℕ) (h : Held) → IsLevelled system l → hs ≡ l.held.items → k < length hs → h ≡ slice_index_or hs k h → h.highest ≤ l.last
number_here system l hs k h levelled items lt is = subst (λ (g : Held). g.highest ≤ l.last) (sym is) (subst (λ (xs : List Held). (slice_index_or xs k h).highest ≤ l.last) (sym items) (levelled.numbers k h (subst (λ (xs : List Held). k < length xs) items lt)))

pub bits_here : (system : System) (l : Levels) (hs : List Held) (k : ℕ) (h : Held) → IsLevelled system l → hs ≡ l.held.items → k < length hs → h ≡ slice_index_or hs k h → IsOverBits system h.clause
bits_here system l hs k h levelled items lt is =
    levelled.framed.over_bits 0 h.clause
    (to_frame l 0 h.clause (omega arith) (subst (λ (xs : List Held). Contains (standing_in 0 xs) h.clause) items
    (subst (λ (g : Held). Contains (standing_in 0 hs) g.clause) (get_or_default hs k (record { clause = []; highest = 0 }) h lt ∙ sym is) (standing_of 0 hs k lt (omega arith)))))

pub number_fits : (last n m : ℕ) (hs : List Held) → n ≤ last → m ≡ length (frames_from 0 (suc last) hs) → n < m
number_fits last n m hs le e = omega (arith, le, e, length_from 0 (suc last) hs)
