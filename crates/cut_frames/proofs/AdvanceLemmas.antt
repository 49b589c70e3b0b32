-- The two answers of `advance`.
use Rattle.std.proofs.Common.{◌≡◌, ◌≤◌, ◌<◌, ◌⊎◌, inl, inr, ℕ, suc, ◌+◌, ◌-◌, List, sym, ◌∙◌, subst, arith, length}
use Rattle.std.specs.Prelude.{slice_index_or, Contains, All}
use Rattle.std.proofs.lemmas.Bool.{cases_lt}
use Rattle.std.proofs.lemmas.List.Elements.{All-contains, Contains-get_or}
use Rattle.sat_clauses.specs.Literal.{Literal}
use Rattle.sat_clauses.specs.declared.system.System.{System}
use Rattle.cut_frames.specs.Chain.{state_values, InFrame, Stands}
use Rattle.cut_frames.specs.FrameLists.{frame_at, IsFramed, AreStronger, HasEqualNeighbours, IsInductive, ArePushed}
use Rattle.cut_frames.specs.FrontierGrowth.{Keeps}
use Rattle.cut_frames.specs.Advance.{IsFixed, IsFurther, IsStrengthened}
use Rattle.cut_frames.specs.Levels.{standing_in, frames_from, frames_of, held_at, IsLevelled, IsTightened, IsEmptyLevel, IsFilledLevel, AreFilledBelow, AreLevelsPushed}
use Rattle.cut_frames.specs.declared.levels.Held.{Held}
use Rattle.cut_frames.specs.declared.levels.Levels.{Levels}
use Rattle.cut_frames.proofs.Sets.{stands_itself}
use Rattle.cut_frames.proofs.Short.{stands_true}
use Rattle.cut_frames.proofs.Framing.{to_number, reaches_from, fixed_inductive, open_chain, framed_grown, stronger_grown}
use Rattle.cut_frames.proofs.LevelLaws.{IsStanding, held_in, frame_is, length_frames, in_frame, to_frame, standing_has, standing_of, frames_more, equal_frames}
use Rattle.std.proofs.Math.Numerals.{suc-eq-add-one}

below : (i n m : ℕ) → m ≡ suc n → i + 1 < m → i < n
below i n m e lt = omega (arith, e, lt)

-- frames whose lists are one list are one set of clauses
pub all_stand : (f g : List (List Literal)) → f ≡ g → All (Stands g) f
all_stand f g e = λ k d lt. subst (λ h. Stands h (slice_index_or f k d)) e (stands_itself f (slice_index_or f k d) (Contains-get_or f k d lt))

module _ (system : System) where
  -- a frame that no clause has as its highest, and the next
  abbrev pub equal_at : (l : Levels) (i : ℕ) → IsEmptyLevel l i → HasEqualNeighbours system (frames_of l)
  equal_at l i e = record {
    at = i;
    from_one = e.from_one;
    within = subst (λ n. i + 1 < n) (sym (length_frames l)) (next i l.last e.within);
    same = (
      all_stand (frame_at (frames_of l) i) (frame_at (frames_of l) (i + 1)) (equal_frames l i e.within e.none),
      all_stand (frame_at (frames_of l) (i + 1)) (frame_at (frames_of l) i) (sym (equal_frames l i e.within e.none)),
    );
  }
    where
      next : (i n : ℕ) → i < n → i + 1 < suc n
      next i n lt = omega (arith, lt)

  pub is_fixed : (old now : Levels) (i : ℕ) (clauses : List (List Literal)) → IsLevelled system now → now.last ≡ old.last + 1 → AreStronger system (frames_of old) (frames_of now) →
      IsEmptyLevel now i → clauses ≡ standing_in i now.held.items → IsFixed system (frames_of old) (frames_of now) clauses
  is_fixed old now i clauses f grew w e is = record {
    equal_ones = equal_at now i e;
    inductive = subst (IsInductive system) (sym list) (fixed_inductive system (frames_of now) f.framed (equal_at now i e));
    implies = λ s h. w (length (frames_of old) - 1) s (last (length (frames_of old)) old.last (length_frames old))
        (reaches_from system (frames_of now) i (length (frames_of old) - 1) s (before i (length (frames_of old)) old.last now.last grew (length_frames old) e.within) f.framed (subst (λ c. InFrame system c s) list h));
  }
    where
      list : clauses ≡ frame_at (frames_of now) i
      list = is ∙ sym (frame_is now i (omega (arith, e.within)))

      last : (n m : ℕ) → n ≡ suc m → n - 1 < n
      last n m e = omega arith

      before : (i n o m : ℕ) → m ≡ o + 1 → n ≡ suc o → i < m → i ≤ n - 1
      before i n o m e q lt = omega arith

  -- a clause of the highest number that is not pushed does not stand in the next frame, which each step from the frame leads into
  pub loses : (l : Levels) (i : ℕ) → IsLevelled system l → AreLevelsPushed system l l.last → IsFilledLevel l i → 0 < i → i < l.last →
      (c : List Literal) × Contains (frame_at (frames_of l) i) c × (Stands (frame_at (frames_of l) (i + 1)) c → ⊥)
  loses l i f p e some lt = (
    (held_at l e.place).clause,
    to_frame l i (held_at l e.place).clause (omega (arith, lt)) (standing_of i l.held.items e.place e.inside (subst (λ n. i ≤ n) (sym e.number) (omega arith))),
    λ stands. p i some lt e.place e.inside e.number (λ s t h step.
        stands_true (state_values system t) (frame_at (frames_of l) (i + 1)) (held_at l e.place).clause
        (subst (λ n. InFrame system (frame_at (frames_of l) n) t) (suc-eq-add-one i) (f.framed.steps i s t (to_number system (frames_of l) i s some h) step)).1 stands),
  )

  pub all_pushed : (l : Levels) → AreLevelsPushed system l l.last → ArePushed system (frames_of l)
  all_pushed l p = λ i c some lt m keeps. pushed i c some (below i l.last (length (frames_of l)) (length_frames l) lt) keeps (standing_has i l.held.items c (in_frame l i c m).1)
    where
      pushed : (i : ℕ) (c : List Literal) → 0 < i → i < l.last → Keeps system (frame_at (frames_of l) i) c → IsStanding i l.held.items c → Stands (frame_at (frames_of l) (i + 1)) c
      pushed i c some lt keeps s = by_number (cases_lt i (held_in l.held.items s.place).highest)
        where
          same : (n : ℕ) → i ≤ n → n ≤ i → n ≡ i
          same n le ge = omega (arith, le, ge)

          next : (n : ℕ) → i < n → i + 1 ≤ n
          next n lt = omega (arith, lt)

          by_number : (i < (held_in l.held.items s.place).highest) ⊎ ((held_in l.held.items s.place).highest ≤ i) → Stands (frame_at (frames_of l) (i + 1)) c
          by_number (inl above) = stands_itself (frame_at (frames_of l) (i + 1)) c
              (to_frame l (i + 1) c (next l.last lt) (subst (Contains (standing_in (i + 1) l.held.items)) s.is_it (standing_of (i + 1) l.held.items s.place s.inside (next (held_in l.held.items s.place).highest above))))
          by_number (inr at) = absurd (p i some lt s.place s.inside (same (held_in l.held.items s.place).highest s.high at) (subst (Keeps system (frame_at (frames_of l) i)) (sym s.is_it) keeps))

  pub is_further : (l : Levels) → IsLevelled system l → AreLevelsPushed system l l.last → AreFilledBelow l l.last → IsFurther system (frames_of l)
  is_further l f p filled = record {
    no_equal_ones = λ e. let lost = lose e.at e.from_one e.within in
        lost.2 (All-contains (Stands (frame_at (frames_of l) (e.at + 1))) (frame_at (frames_of l) e.at) lost.0 e.same.0 lost.1);
    chain = open_chain system (standing_in 0 l.held.items) (frames_from 1 l.last l.held.items) f.framed (all_pushed l p) lose;
  }
    where
      lose : (i : ℕ) → 0 < i → i + 1 < length (frames_of l) → (c : List Literal) × Contains (frame_at (frames_of l) i) c × (Stands (frame_at (frames_of l) (i + 1)) c → ⊥)
      lose i some lt = let inside = below i l.last (length (frames_of l)) (length_frames l) lt in loses l i f p (filled i some inside) some inside

  -- a frame more
  pub levelled_grown : (old now : Levels) → now.held.items ≡ old.held.items → now.last ≡ old.last + 1 → IsLevelled system old → IsLevelled system now
  levelled_grown old now items last f = record {
    numbers = λ k d lt. subst (λ (hs : List Held). (slice_index_or hs k d).highest ≤ now.last) (sym items)
        (subst (λ n. (slice_index_or old.held.items k d).highest ≤ n) (sym last) (up (slice_index_or old.held.items k d).highest old.last (f.numbers k d (subst (λ (hs : List Held). k < length hs) items lt))));
    framed = subst (IsFramed system) (sym (frames_more old now items last f.numbers)) (framed_grown system (frames_of old) f.framed);
  }
    where
      up : (a n : ℕ) → a ≤ n → a ≤ n + 1
      up a n le = omega (arith, le)

  pub stronger_after : (old grown now : Levels) → grown.held.items ≡ old.held.items → grown.last ≡ old.last + 1 → IsLevelled system old → AreStronger system (frames_of grown) (frames_of now) → AreStronger system (frames_of old) (frames_of now)
  stronger_after old grown now items last f w = λ i s lt h.
      stronger_grown system (frames_of old) i s lt (subst (λ fs. InFrame system (frame_at fs i) s) (frames_more old grown items last f.numbers)
      (w i s (subst (λ n. i < n) (sym (length_frames grown)) (longer i (length (frames_of old)) old.last grown.last (length_frames old) last lt)) h))
    where
      longer : (i n o g : ℕ) → n ≡ suc o → g ≡ o + 1 → i < n → i < suc g
      longer i n o g e q lt = omega (arith, e, q, lt)

  pub strengthened_after : (old grown now : Levels) → grown.held.items ≡ old.held.items → grown.last ≡ old.last + 1 → IsLevelled system old → IsTightened system grown now → IsStrengthened system old now
  strengthened_after old grown now items last f t = record { framed = t.framed; stronger = stronger_after old grown now items last f t.stronger }
