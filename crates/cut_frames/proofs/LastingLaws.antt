-- Clauses of an invariant in all frames.
use Rattle.std.proofs.Common.{◌≡◌, ◌≤◌, ◌<◌, ◌⊎◌, inl, inr, ℕ, zero, suc, ◌+◌, ◌-◌, true, false, List, [], ◌∷◌, ◌++◌, refl, sym, ◌∙◌, ap, subst, arith, length}
use Rattle.std.specs.Prelude.{Contains, All}
use Rattle.std.proofs.lemmas.Bool.{cases_lt}
use Rattle.std.proofs.lemmas.List.Elements.{All-contains, Contains-push_cases}
use Rattle.sat_clauses.specs.Literal.{Literal}
use Rattle.sat_clauses.specs.declared.system.System.{System}
use Rattle.sat_clauses.specs.Models.{clause_value}
use Rattle.sat_clauses.specs.Hints.{HasNoOpposites}
use Rattle.cut_frames.specs.Chain.{State, state_values, IsStepOf, Makes, InFrame, IsOverBits}
use Rattle.cut_frames.specs.FrameLists.{frame_at, InNumber, AreStronger, IsInductive}
use Rattle.cut_frames.specs.LastingClauses.{AreImplied, AreLasting}
use Rattle.cut_frames.specs.Levels.{frames_of, with_clause, IsLevelled, IsTightened, HasGained}
use Rattle.cut_frames.specs.declared.lasting.Lasting.{Lasting}
use Rattle.cut_frames.specs.declared.levels.Held.{Held}
use Rattle.cut_frames.specs.declared.levels.Levels.{Levels}
use Rattle.cut_frames.proofs.Short.{all_from_members, member_true}
use Rattle.cut_frames.proofs.Framing.{frame_grown, framed_gained, list_before}
use Rattle.cut_frames.proofs.LevelLaws.{length_frames, frames_more}
use Rattle.cut_frames.proofs.PutLaws.{gained_put, put_all}

-- frames that became stronger imply them still
pub lasting_stronger : (system : System) (old now : List (List (List Literal))) (l : Lasting) → length now ≡ length old → AreStronger system old now → AreLasting system old l → AreLasting system now l
lasting_stronger system old now l same w a = record {
  inductive = a.inductive;
  implied = λ t i s some lt h. a.implied t i s some (subst (λ n. i < n) same lt) (w i s (subst (λ n. i < n) same lt) h);
}

-- frames that begin again have none from number 1 on
pub lasting_again : (system : System) (fs : List (List (List Literal))) (l : Lasting) → fs ≡ [] ∷ [] → IsInductive system l.clauses → AreLasting system fs l
lasting_again system fs l e inductive = record {
  inductive = inductive;
  implied = λ t i s some lt h. absurd (none i some (subst (λ gs. i < length gs) e lt));
}
  where
    none : (i : ℕ) → 0 < i → i < 1 → ⊥
    none i some lt = omega (arith, some, lt)

-- what is known of them is said of no frame where they are not said to be implied
pub lasting_told : (system : System) (fs : List (List (List Literal))) (l : Lasting) → l.is_implied ≡ false → IsInductive system l.clauses → AreLasting system fs l
lasting_told system fs l untold inductive = record {
  inductive = inductive;
  implied = λ t. absurd (differ (sym t ∙ untold));
}
  where
    differ : true ≡ false → ⊥
    differ e = cc

module _ (system : System) (clauses : List (List Literal)) (inductive : IsInductive system clauses) where
  -- a state that makes all of them true makes each true
  makes : (s : State) (c : List Literal) → Contains clauses c → InFrame system clauses s → Makes system s c
  makes s c m h = member_true (state_values system s) clauses c h.1 m

  -- the frame before a new one implies them
  pub before_new : (old grown : Levels) → grown.held.items ≡ old.held.items → grown.last ≡ old.last + 1 → IsLevelled system old → AreImplied system (frames_of old) clauses →
      (s : State) → InNumber system (frames_of grown) (grown.last - 1) s → InFrame system clauses s
  before_new old grown items last f implied s h =
      by_number old.last refl (subst (λ fs. InNumber system fs old.last s) (frames_more old grown items last f.numbers) (subst (λ n. InNumber system (frames_of grown) n s) (one_less grown.last old.last last) h))
    where
      one_less : (a b : ℕ) → a ≡ b + 1 → a - 1 ≡ b
      one_less a b e = omega (arith, e)

      inside : (i n m : ℕ) → n ≡ i → m ≡ suc n → i < m
      inside i n m e g = omega (arith, e, g)

      by_number : (i : ℕ) → old.last ≡ i → InNumber system (frames_of old ++ [] ∷ []) i s → InFrame system clauses s
      by_number zero e h = inductive.holds_first s h
      by_number (suc i) e h = implied (suc i) s (omega arith) (inside (suc i) old.last (length (frames_of old)) e (length_frames old)) (subst (λ c. InFrame system c s) (frame_grown (frames_of old) (suc i)) h)

  -- one of them put into the last frame
  module _ (begun old now : Levels) (c : List Literal) (m : Contains clauses c) (t : IsTightened system begun old) (some : 0 < begun.last)
      (before : (s : State) → InNumber system (frames_of begun) (begun.last - 1) s → InFrame system clauses s) (last : now.last ≡ old.last) (items : now.held.items ≡ with_clause old.last c old.held.items) where
    abbrev gained : HasGained old.last c (frames_of old) (frames_of now)
    gained = gained_put old now old.last c last (omega arith) items

    number_was : (i : ℕ) (s : State) → i < length (frames_of begun) → InNumber system (frames_of old) i s → InNumber system (frames_of begun) i s
    number_was zero s lt h = h
    number_was (suc i) s lt h = t.stronger (suc i) s lt h

    after : (i : ℕ) (s u : State) → old.last ≡ suc i → InNumber system (frames_of old) i s → IsStepOf system s u → Makes system u c
    after i s u e h step = makes u c m (inductive.is_kept s u
        (before s (subst (λ n. InNumber system (frames_of begun) n s) (here i old.last begun.last e t.last)
        (number_was i s (inside i old.last begun.last (length (frames_of begun)) e t.last (length_frames begun)) h))) step)
      where
        here : (i a b : ℕ) → a ≡ suc i → a ≡ b → i ≡ b - 1
        here i a b e s = omega (arith, e, s)

        inside : (i a b n : ℕ) → a ≡ suc i → a ≡ b → n ≡ suc b → i < n
        inside i a b n e s g = omega (arith, e, s, g)

    pub tightened_put : IsTightened system begun now
    tightened_put = record {
      framed = record {
        numbers = subst (All (λ (h : Held). h.highest ≤ now.last)) (sym items) (subst (λ n. All (λ (h : Held). h.highest ≤ n) (with_clause old.last c old.held.items)) (sym last)
            (put_all old.last c old.held.items (λ (h : Held). h.highest ≤ old.last) t.framed.numbers (omega arith)));
        framed = framed_gained system old.last c (frames_of old) (frames_of now) gained t.framed.framed (All-contains (IsOverBits system) clauses c inductive.over_bits m) (All-contains HasNoOpposites clauses c inductive.apart m)
            (λ s h. makes s c m (inductive.holds_first s h)) after;
      };
      last = last ∙ t.last;
      stronger = λ i s lt h. t.stronger i s lt (list_before system old.last c (frames_of old) (frames_of now) gained i s h);
    }

    -- the last frame implies one more of them
    pub implied_put : (done more : List (List Literal)) → more ≡ done ++ c ∷ [] → ((s : State) → InFrame system (frame_at (frames_of old) old.last) s → InFrame system done s) →
        (s : State) → InFrame system (frame_at (frames_of now) now.last) s → InFrame system more s
    implied_put done more e so_far s h = subst (λ cs. InFrame system cs s) (sym e) (h.0, all_from_members (state_values system s) (done ++ c ∷ []) (λ d n. by_case d (Contains-push_cases done c d n)))
      where
        there : InFrame system (frame_at (frames_of now) old.last) s
        there = subst (λ n. InFrame system (frame_at (frames_of now) n) s) last h

        by_case : (d : List Literal) → Contains done d ⊎ (c ≡ d) → clause_value (state_values system s) d ≡ true
        by_case d (inl n) = member_true (state_values system s) done d (so_far s (list_before system old.last c (frames_of old) (frames_of now) gained old.last s there)).1 n
        by_case d (inr e) = subst (λ x. clause_value (state_values system s) x ≡ true) e (member_true (state_values system s) (frame_at (frames_of now) old.last) c there.1 (gained.here old.last (omega arith)))

-- a new last frame that implies them, where those before it did
pub lasting_grown : (system : System) (old grown now : Levels) (l : Lasting) → grown.held.items ≡ old.held.items → grown.last ≡ old.last + 1 → now.last ≡ grown.last → IsLevelled system old →
    AreStronger system (frames_of grown) (frames_of now) → AreLasting system (frames_of old) l →
    (l.is_implied ≡ true → (s : State) → InFrame system (frame_at (frames_of now) now.last) s → InFrame system l.clauses s) → AreLasting system (frames_of now) l
lasting_grown system old grown now l items last same f w a new = record { inductive = a.inductive; implied = λ t i s some lt h. by_number t i s some h (cases_lt i now.last) lt }
  where
    inside : (i g n o m : ℕ) → i < n → n ≡ g → g ≡ o + 1 → m ≡ suc o → i < m
    inside i g n o m lt s e q = omega (arith, lt, s, e, q)

    longer : (i g n m : ℕ) → i < n → n ≡ g → m ≡ suc g → i < m
    longer i g n m lt s q = omega (arith, lt, s, q)

    at_last : (i n m : ℕ) → n ≤ i → m ≡ suc n → i < m → i ≡ n
    at_last i n m le e lt = omega (arith, le, e, lt)

    by_number : l.is_implied ≡ true → (i : ℕ) (s : State) → 0 < i → InFrame system (frame_at (frames_of now) i) s → (i < now.last) ⊎ (now.last ≤ i) → i < length (frames_of now) → InFrame system l.clauses s
    by_number t i s some h (inl lt) all = a.implied t i s some (inside i grown.last now.last old.last (length (frames_of old)) lt same last (length_frames old))
        (subst (λ c. InFrame system c s) (ap (λ fs. frame_at fs i) (frames_more old grown items last f.numbers) ∙ frame_grown (frames_of old) i)
        (w i s (longer i grown.last now.last (length (frames_of grown)) lt same (length_frames grown)) h))
    by_number t i s some h (inr le) all = new t s (subst (λ n. InFrame system (frame_at (frames_of now) n) s) (at_last i now.last (length (frames_of now)) le (length_frames now) all) h)

-- the clauses of an invariant that was found
pub taken : (system : System) (fs : List (List (List Literal))) (l : Lasting) (found : List (List Literal)) → l ≡ record { clauses = found; is_implied = false } → IsInductive system found → AreLasting system fs l
taken system fs l found e inductive =
    lasting_told system fs l (ap (λ (x : Lasting). x.is_implied) e) (subst (IsInductive system) (sym (ap (λ (x : Lasting). x.clauses) e)) inductive)
