-- What raising states leaves of the frames: they are framed, imply what they implied, and no more states are left in them.
use Rattle.std.proofs.Common.{◌≡◌, ◌≤◌, ◌<◌, ◌+◌, ◌-◌, ◌*◌, ℕ, suc, List, [], ◌∷◌, sym, ◌∙◌, subst, arith, length}
use Rattle.std.specs.Prelude.{All}
use Rattle.std.proofs.lemmas.Option.{slice_get_within as get_within}
use Rattle.sat_clauses.specs.Literal.{Literal}
use Rattle.sat_clauses.specs.Assignment.{Assignment}
use Rattle.sat_clauses.specs.declared.system.System.{System}
use Rattle.cut_frames.specs.Chain.{State}
use Rattle.cut_frames.specs.ClearLooks.{Blocks}
use Rattle.cut_frames.specs.FrameLists.{frame_at, AreStronger}
use Rattle.cut_frames.specs.Levels.{frames_of, with_clause, IsLevelled, IsTightened}
use Rattle.cut_frames.specs.Path.{AreOwed}
use Rattle.cut_frames.specs.StatesLeft.{passes, states_left, work_left}
use Rattle.cut_frames.specs.declared.levels.Held.{Held}
use Rattle.cut_frames.specs.declared.levels.Levels.{Levels}
use Rattle.cut_frames.proofs.Count.{Within, count_mono}
use Rattle.cut_frames.proofs.Framing.{framed_gained, list_before}
use Rattle.cut_frames.proofs.LevelLaws.{same_length}
use Rattle.cut_frames.proofs.PutLaws.{gained_put, put_all}

-- a clause that blocks a state of the frame of a number, put into the frames up to that
pub tightened_raised : (system : System) (l now : Levels) (level : ℕ) (s : State) (c : List Literal) → IsLevelled system l → level ≤ l.last → now.last ≡ l.last →
    now.held.items ≡ with_clause level c l.held.items → Blocks system (frames_of l) level s c → IsTightened system l now
tightened_raised system l now level s c f le last items b =
    let gained = gained_put l now level c last le items in
    record {
      framed = record {
        numbers = subst (All (λ (h : Held). h.highest ≤ now.last)) (sym items) (subst (λ n. All (λ (h : Held). h.highest ≤ n) (with_clause level c l.held.items)) (sym last)
            (put_all level c l.held.items (λ (h : Held). h.highest ≤ l.last) f.numbers le));
        framed = framed_gained system level c (frames_of l) (frames_of now) gained f.framed b.over_bits b.apart b.first b.after;
      };
      last = last;
      stronger = λ i s lt h. list_before system level c (frames_of l) (frames_of now) gained i s h;
    }

-- frames that became tighter twice
pub tightened_twice : (system : System) (old between now : Levels) → IsTightened system old between → IsTightened system between now → IsTightened system old now
tightened_twice system old between now t u = record {
  framed = u.framed;
  last = u.last ∙ t.last;
  stronger = λ i s lt h. t.stronger i s lt (u.stronger i s (subst (λ n. i < n) (sym (same_length old between t.last)) lt) h);
}

-- no more states are left where each frame implies what it implied
left_within : (bits : ℕ) (old now : List (List (List Literal))) → length now ≡ length old → ((i : ℕ) → i < length old → Within bits (passes (frame_at now i)) (passes (frame_at old i))) →
    states_left bits now ≤ states_left bits old
left_within bits [] [] e k = omega arith
left_within bits [] (g ∷ gs) e k = absurd (grind (arith, e))
left_within bits (f ∷ fs) [] e k = omega arith
left_within bits (f ∷ fs) (g ∷ gs) e k =
    let rest = left_within bits fs gs (grind (arith, e)) (λ i lt. k (suc i) (grind (arith, lt))) in
    let here = count_mono bits (passes g) (passes f) (k 0 (grind arith)) in
    omega (arith, rest, here)

pub left_stronger : (system : System) (old now : List (List (List Literal))) → length now ≡ length old → AreStronger system old now →
    states_left system.state_bits now ≤ states_left system.state_bits old
left_stronger system old now e w = left_within system.state_bits old now e (λ i lt s is t. (w i s lt (is, t)).1)

-- so the work that is left stays below what it was below
pub work_raised : (system : System) (frames now : List (List (List Literal))) (owed : List Assignment) (n : ℕ) → length now ≡ length frames → AreStronger system frames now →
    work_left system.state_bits frames owed < n → work_left system.state_bits now owed < n
work_raised system frames now owed n e w lt =
    go (states_left system.state_bits now) (states_left system.state_bits frames) (length now) (length frames) (length owed) e (left_stronger system frames now e w) lt
  where
    go : (a b l f k : ℕ) → l ≡ f → a ≤ b → b * (f + 1) + (f - k) < n → a * (l + 1) + (l - k) < n
    go a b l f k e le lt = subst (λ z. a * (z + 1) + (z - k) < n) (sym e) (less (a * (f + 1)) (b * (f + 1)) (f - k) (product a b f le) lt)
      where
        product : (a b f : ℕ) → a ≤ b → a * (f + 1) ≤ b * (f + 1)
        product a b f le = grind arith

        less : (x y d : ℕ) → x ≤ y → y + d < n → x + d < n
        less x y d le lt = omega arith

-- no obligation
pub owed_none : (system : System) (bad : List (List Literal)) (frames : List (List (List Literal))) (owed : List Assignment) → length owed ≡ 0 → AreOwed system bad frames owed
owed_none system bad frames owed e = record {
  fits = fit (length owed) (length frames) e;
  given = λ p a got. absurd (outside p (get_within owed p a got));
  inside = λ p a got. absurd (outside p (get_within owed p a got));
  ends_bad = λ a got. absurd (outside 0 (get_within owed 0 a got));
  steps = λ p a b got after. absurd (outside p (get_within owed p b got));
}
  where
    fit : (k n : ℕ) → k ≡ 0 → k ≤ n
    fit k n e = omega (arith, e)

    outside : (p : ℕ) → p < length owed → ⊥
    outside p lt = omega (arith, e, lt)
