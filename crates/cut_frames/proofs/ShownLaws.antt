-- What steps that were seen say of the clauses that they break.
use Rattle.std.proofs.Common.{◌≡◌, ◌≢◌, ◌≤◌, ◌⊎◌, inl, inr, ℕ, ◌+◌, true, false, not, ◌&&◌, ◌||◌, nat_eq, nat_lt, if◌then◌else◌, filter, Bool, List, [], ◌∷◌, refl, sym, ◌∙◌, subst, arith, length, All}
use Rattle.std.specs.List.{list_any, list_all}
use Rattle.std.proofs.lemmas.Bool.{and_parts, and_from, eqb-true}
use Rattle.std.proofs.lemmas.Bool.Decides.{eqb_tells}
use Rattle.std.proofs.lemmas.List.Elements.{All-contains, All-nil, All-cons, All-head, All-tail}
use Rattle.std.proofs.lemmas.List.Folds.{Any-from_list_any}
use Rattle.sat_clauses.specs.Literal.{Literal}
use Rattle.sat_clauses.specs.Assignment.{Assignment}
use Rattle.sat_clauses.specs.Models.{TotalAssignment, clause_value, all_true, values_of}
use Rattle.sat_clauses.specs.declared.system.System.{System}
use Rattle.cut_frames.specs.Chain.{State}
use Rattle.cut_frames.specs.FrameLists.{frame_at, IsFramed}
use Rattle.cut_frames.specs.FrontierGrowth.{Keeps}
use Rattle.cut_frames.specs.Bits.{read_from}
use Rattle.cut_frames.specs.OwnVariables.{IsFound}
use Rattle.cut_frames.specs.Levels.{frames_of, standing_in, HasMoved}
use Rattle.cut_frames.specs.declared.guarded.Beside.TheVariants.{Step}
use Rattle.cut_frames.specs.declared.levels.Held.{Held}
use Rattle.cut_frames.specs.declared.levels.Levels.{Levels}
use Rattle.cut_frames.specs.declared.shown.Seen.{Seen}
use Rattle.cut_frames.specs.KnownSteps.{bits_of, breaks, shows, is_true_at, is_hit, counts, IsSeen, IsShown}
use Rattle.cut_frames.proofs.BitLemmas.{agrees_read, length_read}
use Rattle.cut_frames.proofs.Framing.{in_list}
use Rattle.cut_frames.proofs.LevelLaws.{stands, stands_not, frame_is}
use Rattle.cut_frames.proofs.LookLemmas.{read_number, now_met, next_met}

true_more : (t : State) (i : ℕ) (h : Held) (hs : List Held) → is_true_at t i h ≡ true → all_true (bits_of t) (standing_in i hs) ≡ true → all_true (bits_of t) (standing_in i (h ∷ hs)) ≡ true
true_more t i h hs one rest = by_order (nat_lt h.highest i) refl
  where
    by_order : (b : Bool) → nat_lt h.highest i ≡ b → all_true (bits_of t) (standing_in i (h ∷ hs)) ≡ true
    by_order false f =
        let here : clause_value (bits_of t) h.clause ≡ true = subst (λ b. (b || clause_value (bits_of t) h.clause) ≡ true) f one in
        subst (λ cs. all_true (bits_of t) cs ≡ true) (sym (stands i h hs (grind (arith, f)))) (and_from (clause_value (bits_of t) h.clause) (all_true (bits_of t) (standing_in i hs)) here rest)
    by_order true f = subst (λ cs. all_true (bits_of t) cs ≡ true) (sym (stands_not i h hs (grind (arith, f)))) rest

-- the state makes the clauses of a number and of higher ones true
pub all_true_at : (t : State) (i : ℕ) (hs : List Held) → list_all (is_true_at t i) hs ≡ true → all_true (bits_of t) (standing_in i hs) ≡ true
all_true_at t i [] e = refl
all_true_at t i (h ∷ hs) e =
    let parts = and_parts (is_true_at t i h) (list_all (is_true_at t i) hs) e in
    true_more t i h hs parts.0 (all_true_at t i hs parts.1)

module _ (system : System) where
  -- the step that an answer shows
  pub found_shown : (fs : List (List (List Literal))) (i : ℕ) (bad : List (List Literal)) (asked : List Literal) (values : Assignment) → IsFramed system fs →
      IsFound system bad fs Step i asked values →
      IsShown system (frame_at fs i) i (record { level = i; from = read_from 2 system.state_bits values; to = read_from (system.state_bits + 2) system.state_bits values })
  found_shown fs i bad asked values f m =
      let v : TotalAssignment = values_of values in
      let s : State = read_from 2 system.state_bits values in
      let t : State = read_from (system.state_bits + 2) system.state_bits values in
      let now : length s ≡ system.state_bits = length_read 2 system.state_bits values in
      let next : length t ≡ system.state_bits = length_read (system.state_bits + 2) system.state_bits values in
      record {
        inside = λ e. in_list system fs i s f (read_number system fs i values f m.frame);
        step = (
          now,
          next,
          (m.beside.values, now_met system system.step v s now (agrees_read 2 system.state_bits values) m.beside, next_met system system.step v t next (agrees_read (system.state_bits + 2) system.state_bits values) m.beside, m.beside.all),
        );
      }

  one_lost : (frame : List (List Literal)) (i : ℕ) (c : List Literal) (s : Seen) → IsShown system frame i s → shows i c s ≡ true → Keeps system frame c → ⊥
  one_lost frame i c s is against keeps =
      let both = and_parts (nat_eq s.level i) (breaks c s.to) against in
      let there = keeps s.from s.to (is.inside (eqb-true s.level i both.0)) is.step in
      let not_there : breaks c s.to ≡ false = rw there refl in
      let clash : true ≡ false = sym both.1 ∙ not_there in cc

  -- a clause that one of them breaks is not kept by each step
  pub shown_lost : (frame : List (List Literal)) (i : ℕ) (c : List Literal) (seen : List Seen) → All (IsShown system frame i) seen → list_any (shows i c) seen ≡ true → Keeps system frame c → ⊥
  shown_lost frame i c seen all is keeps =
      let one = Any-from_list_any (shows i c) seen is in
      one_lost frame i c one.1 (All-contains (IsShown system frame i) seen one.1 all (one.0, one.2, one.3)) one.4 keeps

  -- they are steps of the system
  pub all_seen : (frame : List (List Literal)) (i : ℕ) (seen : List Seen) → All (IsShown system frame i) seen → All (IsSeen system) seen
  all_seen frame i seen all = λ k d lt. (all k d lt).step

  judged : (l : Levels) (i : ℕ) (s : Seen) → s.level ≡ i → counts i l.held.items s ≡ true → (list_any (is_hit s.to i) l.held.items && list_all (is_true_at s.from i) l.held.items) ≡ true
  judged l i s same e = by_test (nat_eq s.level i) (eqb_tells s.level i) e
    where
      by_test : (b : Bool) → ((b ≡ true) × (s.level ≡ i)) ⊎ ((b ≡ false) × (s.level ≢ i)) →
          (not b || (list_any (is_hit s.to i) l.held.items && list_all (is_true_at s.from i) l.held.items)) ≡ true →
          (list_any (is_hit s.to i) l.held.items && list_all (is_true_at s.from i) l.held.items) ≡ true
      by_test true d g = g
      by_test false (inl d) g = cc
      by_test false (inr d) g = absurd (d.1 same)

  one_counted : (l : Levels) (i : ℕ) (s : Seen) → i ≤ l.last → IsSeen system s → counts i l.held.items s ≡ true → IsShown system (frame_at (frames_of l) i) i s
  one_counted l i s le step e = record {
    step = step;
    inside = λ same. (
      step.0,
      subst (λ cs. all_true (bits_of s.from) cs ≡ true) (sym (frame_is l i le))
          (all_true_at s.from i l.held.items (and_parts (list_any (is_hit s.to i) l.held.items) (list_all (is_true_at s.from i) l.held.items) (judged l i s same e)).1),
    );
  }

  counted_more : (l : Levels) (i : ℕ) (s : Seen) (seen : List Seen) → i ≤ l.last → IsSeen system s → All (IsShown system (frame_at (frames_of l) i) i) (filter (counts i l.held.items) seen) →
      All (IsShown system (frame_at (frames_of l) i) i) (filter (counts i l.held.items) (s ∷ seen))
  counted_more l i s seen le step rest = by_test (counts i l.held.items s) refl
    where
      by_test : (b : Bool) → counts i l.held.items s ≡ b → All (IsShown system (frame_at (frames_of l) i) i) (if b then s ∷ filter (counts i l.held.items) seen else filter (counts i l.held.items) seen)
      by_test true e = All-cons (IsShown system (frame_at (frames_of l) i) i) s (filter (counts i l.held.items) seen) (one_counted l i s le step e) rest
      by_test false e = rest

  -- those that count are shown
  pub all_counted : (l : Levels) (i : ℕ) (seen : List Seen) → i ≤ l.last → All (IsSeen system) seen → All (IsShown system (frame_at (frames_of l) i) i) (filter (counts i l.held.items) seen)
  all_counted l i [] le all = All-nil (IsShown system (frame_at (frames_of l) i) i)
  all_counted l i (s ∷ seen) le all = counted_more l i s seen le (All-head (IsSeen system) s seen all) (all_counted l i seen le (All-tail (IsSeen system) s seen all))

  -- a frame from which clauses go on stays as it is
  pub frame_stays : (old now : Levels) (i : ℕ) → HasMoved system old now i → frame_at (frames_of now) i ≡ frame_at (frames_of old) i
  frame_stays old now i moved = moved.grown.others i (λ e. omega (arith, e))
