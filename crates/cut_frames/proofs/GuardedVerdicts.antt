-- What the verdict of a search under guards says of what is asked about alone.
use Rattle.std.proofs.Common.{◌≡◌, ◌⊎◌, inl, inr, ◌≤◌, ◌<◌, ℕ, zero, suc, nat_le, Bool, true, false, not, List, [], ◌∷◌, ◌++◌, length, refl, sym, ◌∙◌, ap, subst, arith, Some}
use Rattle.std.specs.Prelude.{slice_index_or, All, Contains, IsTrue}
use Rattle.std.proofs.lemmas.Bool.{le-leb, false≢true}
use Rattle.std.proofs.lemmas.Bool.Decides.{leb_tells}
use Rattle.std.proofs.lemmas.List.Elements.{All-contains, Contains-append_left, Contains-append_right, Contains-append_cases}
use Rattle.sat_clauses.specs.Literal.{Literal, opposite}
use Rattle.sat_clauses.specs.Assignment.{Assignment, value_of}
use Rattle.sat_clauses.specs.Models.{TotalAssignment, literal_value, clause_value, Satisfies, values_of}
use Rattle.sat_clauses.proofs.ModelLemmas.{Satisfies-from_All}
use Rattle.sat_clauses.specs.Derivation.{IsUpTo}
use Rattle.sat_clauses.specs.Hints.{HasNoOpposites, LacksOpposite}
use Rattle.sat_solver.specs.LearnedClauses.{IsRefuted}
use Rattle.sat_solver.specs.Search.{IsSolution}
use Rattle.sat_solver.specs.declared.solve.Verdict.TheVariants.{Sat, Unsat}
use Rattle.sat_clauses.specs.declared.system.System.{System}
use Rattle.cut_frames.specs.FrameLists.{frame_at}
use Rattle.cut_frames.specs.Roles.{Listed, first, step, bad, list_guard}
use Rattle.cut_frames.specs.Roles as roles
use Rattle.cut_frames.specs.Guards.{Layout, IsCovered, IsCoveredUpTo, unguarded}
use Rattle.cut_frames.specs.GuardedSearch.{Meets, places_of, MeetsFrame, MeetsBeside, added_in, IsGuardIn, IsWell, asked_guards, lone_guards, guard_at, guard_of, Tells, Finds}
use Rattle.cut_frames.specs.declared.guarded.Beside.{Beside}
use Rattle.cut_frames.specs.declared.guarded.Beside.TheVariants.{Nothing, Step, Bad}
use Rattle.cut_frames.specs.declared.guarded.Guarded.{Guarded}
use Rattle.cut_frames.proofs.AnswerLemmas.{true_value, true_clause}
use Rattle.cut_frames.proofs.RoleLaws.{first_in, later_in, Asked, spread, spread_at}
use Rattle.cut_frames.proofs.HeldLaws.{AreAsked, IsShown, list_met, frame_met, core_follows, core_negated}
use Rattle.cut_frames.proofs.GuardedLaws.{layout_of, plain_guard, frame_plain}
use Rattle.sat_clauses.proofs.ClauseLists.{member_true}
use Rattle.base_values.proofs.ListLaws.{all_from}

one_in : (P : Literal → Type 0) (k l : Literal) → P k → Contains (k ∷ []) l → P l
one_in P k l p m = at m.0 m.1 m.2 where
  at : (i : ℕ) → i < 1 → slice_index_or (k ∷ []) i l ≡ l → P l
  at zero lt e = subst P e p
  at (suc i) lt e = absurd (omega (arith, lt))

two_in : (P : Literal → Type 0) (k j l : Literal) → P k → P j → Contains (k ∷ j ∷ []) l → P l
two_in P k j l p q m = at m.0 m.1 m.2 where
  at : (i : ℕ) → i < 2 → slice_index_or (k ∷ j ∷ []) i l ≡ l → P l
  at zero lt e = subst P e p
  at (suc zero) lt e = subst P e q
  at (suc (suc i)) lt e = absurd (omega (arith, lt))

-- what holds of each guard under which a question is asked
all_guards : (P : Literal → Type 0) (g : Guarded) (b : Beside) (i : ℕ) → P (slice_index_or g.frames.items i g.step) → (b ≡ Step → P g.step) → (b ≡ Bad → P g.bad) → (l : Literal) → Contains (asked_guards g b i) l → P l
all_guards P g Nothing i p s t l m = one_in P (slice_index_or g.frames.items i g.step) l p m
all_guards P g Step i p s t l m = two_in P (slice_index_or g.frames.items i g.step) g.step l p (s refl) m
all_guards P g Bad i p s t l m = two_in P (slice_index_or g.frames.items i g.step) g.bad l p (t refl) m

are_guards : (g : Guarded) (b : Beside) (i : ℕ) → IsWell g → i < length g.frames.items → (l : Literal) → Contains (asked_guards g b i) l → IsGuardIn g.places g.search.kept.vars l
are_guards g b i w lt l m = all_guards (IsGuardIn g.places g.search.kept.vars) g b i (w.frames i g.step lt) (λ e. w.step) (λ e. w.bad) l m

-- the literals of a question are those of the search
guards_up_to : (g : Guarded) (guards assumptions : List Literal) → ((l : Literal) → Contains guards l → IsGuardIn g.places g.search.kept.vars l) → IsWell g → All (IsUpTo g.places) assumptions → All (IsUpTo g.search.kept.vars) (guards ++ assumptions)
guards_up_to g guards assumptions are w low = all_from (IsUpTo g.search.kept.vars) (guards ++ assumptions) (λ l m. by_part l (Contains-append_cases guards assumptions l m))
  where
    up : (x v n : ℕ) → x ≤ v → v ≤ n → x ≤ n
    up x v n a b = omega (arith, a, b)

    by_part : (l : Literal) → Contains guards l ⊎ Contains assumptions l → l.var ≤ g.search.kept.vars
    by_part l (inl m) = (are l m).in_range
    by_part l (inr m) = up l.var g.places g.search.kept.vars (All-contains (IsUpTo g.places) assumptions l low m) w.room

pub asked_up_to : (g : Guarded) (b : Beside) (i : ℕ) (assumptions : List Literal) → IsWell g → i < length g.frames.items → All (IsUpTo g.places) assumptions → All (IsUpTo g.search.kept.vars) (asked_guards g b i ++ assumptions)
asked_up_to g b i assumptions w lt low = guards_up_to g (asked_guards g b i) assumptions (are_guards g b i w lt) w low

-- and no two of them are opposite
guards_apart : (g : Guarded) (guards assumptions : List Literal) → ((l : Literal) → Contains guards l → IsGuardIn g.places g.search.kept.vars l) → All (IsUpTo g.places) assumptions → HasNoOpposites assumptions → HasNoOpposites (guards ++ assumptions)
guards_apart g guards assumptions are low apart = all_from (LacksOpposite all) all (λ l m. record { absent = λ o. absent l (Contains-append_cases guards assumptions l m) (Contains-append_cases guards assumptions (opposite l) o) })
  where
    all : List Literal
    all = guards ++ assumptions

    high : (x : ℕ) → g.places < x → x ≤ g.places → ⊥
    high x lt le = omega (arith, lt, le)

    signs : (b : Bool) → b ≡ false → not b ≡ false → ⊥
    signs true e f = cc
    signs false e f = cc

    absent : (l : Literal) → Contains guards l ⊎ Contains assumptions l → Contains guards (opposite l) ⊎ Contains assumptions (opposite l) → ⊥
    absent l (inl m) (inl o) = signs l.negated (are l m).positive (are (opposite l) o).positive
    absent l (inl m) (inr o) = high l.var (are l m).above (All-contains (IsUpTo g.places) assumptions (opposite l) low o)
    absent l (inr m) (inl o) = high l.var (are (opposite l) o).above (All-contains (IsUpTo g.places) assumptions l low m)
    absent l (inr m) (inr o) = (All-contains (LacksOpposite assumptions) assumptions l apart m).absent o

pub asked_apart : (g : Guarded) (b : Beside) (i : ℕ) (assumptions : List Literal) → IsWell g → i < length g.frames.items → All (IsUpTo g.places) assumptions → HasNoOpposites assumptions → HasNoOpposites (asked_guards g b i ++ assumptions)
asked_apart g b i assumptions w lt low apart = guards_apart g (asked_guards g b i) assumptions (are_guards g b i w lt) low apart

-- a solution under the guards
pub tells_sat : (g : Guarded) (b : Beside) (i vars : ℕ) (assumptions : List Literal) (a : Assignment) → IsWell g → i < length g.frames.items → IsSolution vars (added_in g) (asked_guards g b i ++ assumptions) a → Tells g b i assumptions (Sat a)
tells_sat g b i vars assumptions a w lt s system list frames h = record {
  frame = frame i lt (is_true (slice_index_or g.frames.items i g.step) (there i b));
  beside = beside b (λ l m. is_true l m);
  assumed = all_from (λ l. IsTrue (literal_value (values_of a) l)) assumptions (λ l m. true_value a l (All-contains (λ k. value_of a k ≡ Some true) (asked_guards g b i ++ assumptions) l s.assumptions_true
      (Contains-append_right (asked_guards g b i) assumptions l m)));
}
  where
    v : TotalAssignment
    v = values_of a

    layout : Layout
    layout = layout_of g.places h.lists frames (guard_of g) h.top h.base (guard_at g) h.role

    t : Satisfies v (added_in g)
    t = Satisfies-from_All v (added_in g) (λ k d lt. true_clause a (slice_index_or (added_in g) k d) (s.clauses_true k d lt))

    is_true : (l : Literal) → Contains (asked_guards g b i) l → literal_value v l ≡ true
    is_true l m = true_value a l (All-contains (λ k. value_of a k ≡ Some true) (asked_guards g b i ++ assumptions) l s.assumptions_true (Contains-append_left (asked_guards g b i) assumptions l m))

    there : (i : ℕ) (b : Beside) → Contains (asked_guards g b i) (slice_index_or g.frames.items i g.step)
    there i Nothing = first_in (slice_index_or g.frames.items i g.step) []
    there i Step = first_in (slice_index_or g.frames.items i g.step) (g.step ∷ [])
    there i Bad = first_in (slice_index_or g.frames.items i g.step) (g.bad ∷ [])

    frame : (i : ℕ) → i < length g.frames.items → literal_value v (slice_index_or g.frames.items i g.step) ≡ true → MeetsFrame system frames i v
    frame zero lt on = (h.alike first).back v (subst (λ (p : ℕ). Meets p (h.lists first) v) h.places
        (list_met layout g.search.kept.vars (added_in g) h.held first v t (ap (literal_value v) (sym (frame_plain g 0 w lt)) ∙ on)))
    frame (suc k) lt on = frame_met layout g.search.kept.vars (added_in g) h.held (suc k) v (omega arith) (subst (λ (n : ℕ). suc k < n) h.count lt) t (ap (literal_value v) (sym (frame_plain g (suc k) w lt)) ∙ on)

    beside : (b : Beside) → ((l : Literal) → Contains (asked_guards g b i) l → literal_value v l ≡ true) → MeetsBeside system list b v
    beside Nothing on = tt
    beside Step on = (h.alike step).back v (subst (λ (p : ℕ). Meets p (h.lists step) v) h.places
        (list_met layout g.search.kept.vars (added_in g) h.held step v t (ap (literal_value v) (sym (plain_guard g.step w.step.positive)) ∙ on g.step (second g.step))))
      where
        second : (l : Literal) → Contains (slice_index_or g.frames.items i g.step ∷ l ∷ []) l
        second l = later_in (slice_index_or g.frames.items i g.step) l (l ∷ []) (first_in l [])
    beside Bad on = (h.alike bad).back v (subst (λ (p : ℕ). Meets p (h.lists bad) v) h.places
        (list_met layout g.search.kept.vars (added_in g) h.held bad v t (ap (literal_value v) (sym (plain_guard g.bad w.bad.positive)) ∙ on g.bad (second g.bad))))
      where
        second : (l : Literal) → Contains (slice_index_or g.frames.items i g.step ∷ l ∷ []) l
        second l = later_in (slice_index_or g.frames.items i g.step) l (l ∷ []) (first_in l [])

-- the guards of a question about no frame
lone_are : (P : Literal → Type 0) (g : Guarded) (b : Beside) → (b ≡ Step → P g.step) → (b ≡ Bad → P g.bad) → (l : Literal) → Contains (lone_guards g b) l → P l
lone_are P g Nothing s t l m = absurd (omega (arith, m.1))
lone_are P g Step s t l m = one_in P g.step l (s refl) m
lone_are P g Bad s t l m = one_in P g.bad l (t refl) m

are_lone : (g : Guarded) (b : Beside) → IsWell g → (l : Literal) → Contains (lone_guards g b) l → IsGuardIn g.places g.search.kept.vars l
are_lone g b w l m = lone_are (IsGuardIn g.places g.search.kept.vars) g b (λ e. w.step) (λ e. w.bad) l m

pub lone_up_to : (g : Guarded) (b : Beside) (assumptions : List Literal) → IsWell g → All (IsUpTo g.places) assumptions → All (IsUpTo g.search.kept.vars) (lone_guards g b ++ assumptions)
lone_up_to g b assumptions w low = guards_up_to g (lone_guards g b) assumptions (are_lone g b w) w low

pub lone_apart : (g : Guarded) (b : Beside) (assumptions : List Literal) → IsWell g → All (IsUpTo g.places) assumptions → HasNoOpposites assumptions → HasNoOpposites (lone_guards g b ++ assumptions)
lone_apart g b assumptions w low apart = guards_apart g (lone_guards g b) assumptions (are_lone g b w) low apart

-- a solution under the guards of a question about no frame
pub finds_sat : (g : Guarded) (b : Beside) (vars : ℕ) (assumptions : List Literal) (a : Assignment) → IsWell g → IsSolution vars (added_in g) (lone_guards g b ++ assumptions) a → Finds g b assumptions a
finds_sat g b vars assumptions a w s system list frames h = record {
  beside = beside b (λ l m. is_true l m);
  assumed = all_from (λ l. IsTrue (literal_value (values_of a) l)) assumptions (λ l m. true_value a l (All-contains (λ k. value_of a k ≡ Some true) (lone_guards g b ++ assumptions) l s.assumptions_true
      (Contains-append_right (lone_guards g b) assumptions l m)));
}
  where
    v : TotalAssignment
    v = values_of a

    layout : Layout
    layout = layout_of g.places h.lists frames (guard_of g) h.top h.base (guard_at g) h.role

    t : Satisfies v (added_in g)
    t = Satisfies-from_All v (added_in g) (λ k d lt. true_clause a (slice_index_or (added_in g) k d) (s.clauses_true k d lt))

    is_true : (l : Literal) → Contains (lone_guards g b) l → literal_value v l ≡ true
    is_true l m = true_value a l (All-contains (λ k. value_of a k ≡ Some true) (lone_guards g b ++ assumptions) l s.assumptions_true (Contains-append_left (lone_guards g b) assumptions l m))

    beside : (b : Beside) → ((l : Literal) → Contains (lone_guards g b) l → literal_value v l ≡ true) → MeetsBeside system list b v
    beside Nothing on = tt
    beside Step on = (h.alike step).back v (subst (λ (p : ℕ). Meets p (h.lists step) v) h.places
        (list_met layout g.search.kept.vars (added_in g) h.held step v t (ap (literal_value v) (sym (plain_guard g.step w.step.positive)) ∙ on g.step (first_in g.step []))))
    beside Bad on = (h.alike bad).back v (subst (λ (p : ℕ). Meets p (h.lists bad) v) h.places
        (list_met layout g.search.kept.vars (added_in g) h.held bad v t (ap (literal_value v) (sym (plain_guard g.bad w.bad.positive)) ∙ on g.bad (first_in g.bad []))))

-- which guards of frames are true where the frame of a number is asked about, and which lists are
abbrev asked_frame : ℕ → ℕ → Bool
asked_frame zero j = false
asked_frame (suc k) j = nat_le (suc k) j

abbrev asks_first : ℕ → Bool
asks_first zero = true
asks_first (suc k) = false

abbrev asks_step : Beside → Bool
asks_step Nothing = false
asks_step Step = true
asks_step Bad = false

abbrev asks_bad : Beside → Bool
asks_bad Nothing = false
asks_bad Step = false
asks_bad Bad = true

module _ (system : System) (list : List (List Literal)) (frames : List (List (List Literal))) (v : TotalAssignment) where
  abbrev first_values : (i : ℕ) → MeetsFrame system frames i v → TotalAssignment
  first_values zero m = m.values
  first_values (suc k) m = v

  abbrev step_values : (b : Beside) → MeetsBeside system list b v → TotalAssignment
  step_values Nothing m = v
  step_values Step m = m.values
  step_values Bad m = v

  abbrev bad_values : (b : Beside) → MeetsBeside system list b v → TotalAssignment
  bad_values Nothing m = v
  bad_values Step m = v
  bad_values Bad m = m.values

  abbrev asked_list : ℕ → Beside → Listed → Bool
  asked_list i b first = asks_first i
  asked_list i b step = asks_step b
  asked_list i b bad = asks_bad b

  abbrev asked_values : (i : ℕ) (b : Beside) → MeetsFrame system frames i v → MeetsBeside system list b v → Listed → TotalAssignment
  asked_values i b m n first = first_values i m
  asked_values i b m n step = step_values b n
  asked_values i b m n bad = bad_values b n

  abbrev asked_of : (i : ℕ) (b : Beside) → MeetsFrame system frames i v → MeetsBeside system list b v → Asked
  asked_of i b m n = record { frame = asked_frame i; list = asked_list i b; values = asked_values i b m n }

  -- what is asked about is met
  are_asked : (l : Layout) (i : ℕ) (b : Beside) (m : MeetsFrame system frames i v) (n : MeetsBeside system list b v) → l.places ≡ places_of system → l.frames ≡ frames → l.list first ≡ system.first → l.list step ≡ system.step →
      l.list bad ≡ list → AreAsked l (asked_of i b m n) v
  are_asked l i b m n places same_frames same_first same_step same_bad = record {
    next = next i;
    frames = in_frames i m;
    agree = λ which x on le. agree which x on (subst (λ (p : ℕ). x ≤ p) places le);
    lists = lists;
  }
    where
      tested : (k j : ℕ) → nat_le k j ≡ true → k ≤ j
      tested k j e = by_test (leb_tells k j) where
        by_test : ((nat_le k j ≡ true) × (k ≤ j)) ⊎ ((nat_le k j ≡ false) × (j < k)) → k ≤ j
        by_test (inl t) = t.1
        by_test (inr t) = absurd (false≢true (sym t.0 ∙ e))

      one_more : (k j : ℕ) → k ≤ j → k ≤ suc j
      one_more k j le = omega (arith, le)

      next : (i j : ℕ) → asked_frame i j ≡ true → asked_frame i (suc j) ≡ true
      next zero j e = absurd (false≢true e)
      next (suc k) j e = le-leb (suc k) (suc j) (one_more (suc k) j (tested (suc k) j e))

      in_frames : (i : ℕ) → MeetsFrame system frames i v → (j : ℕ) (c : List Literal) → 0 < j → asked_frame i j ≡ true → IsCoveredUpTo l.frames j c → IsShown l v c
      in_frames zero m j c some on s = absurd (false≢true on)
      in_frames (suc k) m j c some on s = shown (s (suc k) (omega arith) (tested (suc k) j on))
        where
          shown : IsCovered (frame_at l.frames (suc k)) c → IsShown l v c
          shown (p, d, lt, is, part) = record {
            frame = suc k;
            from_one = omega arith;
            part = d;
            stands = (p, lt, is);
            is_part = part;
            holds = member_true v (frame_at frames (suc k)) d m (subst (λ (fs : List (List (List Literal))). Contains (frame_at fs (suc k)) d) same_frames (p, lt, is));
          }

      first_agrees : (i : ℕ) (m : MeetsFrame system frames i v) (x : ℕ) → asks_first i ≡ true → x ≤ places_of system → first_values i m x ≡ v x
      first_agrees zero m x on le = m.agree x le
      first_agrees (suc k) m x on le = refl

      step_agrees : (b : Beside) (n : MeetsBeside system list b v) (x : ℕ) → asks_step b ≡ true → x ≤ places_of system → step_values b n x ≡ v x
      step_agrees Nothing n x on le = refl
      step_agrees Step n x on le = n.agree x le
      step_agrees Bad n x on le = refl

      bad_agrees : (b : Beside) (n : MeetsBeside system list b v) (x : ℕ) → asks_bad b ≡ true → x ≤ places_of system → bad_values b n x ≡ v x
      bad_agrees Nothing n x on le = refl
      bad_agrees Step n x on le = refl
      bad_agrees Bad n x on le = n.agree x le

      agree : (which : Listed) (x : ℕ) → asked_list i b which ≡ true → x ≤ places_of system → asked_values i b m n which x ≡ v x
      agree first x on le = first_agrees i m x on le
      agree step x on le = step_agrees b n x on le
      agree bad x on le = bad_agrees b n x on le

      first_true : (i : ℕ) (m : MeetsFrame system frames i v) (c : List Literal) → asks_first i ≡ true → Contains system.first c → clause_value (first_values i m) c ≡ true
      first_true zero m c on in_list = member_true m.values system.first c m.all in_list
      first_true (suc k) m c on in_list = absurd (false≢true on)

      step_true : (b : Beside) (n : MeetsBeside system list b v) (c : List Literal) → asks_step b ≡ true → Contains system.step c → clause_value (step_values b n) c ≡ true
      step_true Nothing n c on in_list = absurd (false≢true on)
      step_true Step n c on in_list = member_true n.values system.step c n.all in_list
      step_true Bad n c on in_list = absurd (false≢true on)

      bad_true : (b : Beside) (n : MeetsBeside system list b v) (c : List Literal) → asks_bad b ≡ true → Contains list c → clause_value (bad_values b n) c ≡ true
      bad_true Nothing n c on in_list = absurd (false≢true on)
      bad_true Step n c on in_list = absurd (false≢true on)
      bad_true Bad n c on in_list = member_true n.values list c n.all in_list

      lists : (which : Listed) (c : List Literal) → asked_list i b which ≡ true → Contains (l.list which) c → clause_value (asked_values i b m n which) c ≡ true
      lists first c on in_list = first_true i m c on (subst (λ (cs : List (List Literal)). Contains cs c) same_first in_list)
      lists step c on in_list = step_true b n c on (subst (λ (cs : List (List Literal)). Contains cs c) same_step in_list)
      lists bad c on in_list = bad_true b n c on (subst (λ (cs : List (List Literal)). Contains cs c) same_bad in_list)

-- a core under the guards, without them
pub tells_unsat : (g : Guarded) (cores : Bool) (b : Beside) (i : ℕ) (all : List (List Literal)) (assumptions core : List Literal) → IsWell g → i < length g.frames.items → All (IsUpTo g.places) assumptions →
    IsRefuted cores (added_in g) all (asked_guards g b i ++ assumptions) core → Tells g b i assumptions (Unsat (unguarded g.places core))
tells_unsat g cores b i all assumptions core w lt low r system list frames h = record {
  negated = core_negated g.places (asked_guards g b i) assumptions core (λ l m. (are_guards g b i w lt l m).above) r.negated;
  follows = λ v m n. core_follows layout g.search.kept.vars (added_in g) h.held (asked_of held_system held_list frames v i b (frame_held v i m) (beside_held v b n)) v (asked_guards g b i) assumptions core
      (are_asked held_system held_list frames v layout i b (frame_held v i m) (beside_held v b n) h.places refl refl refl refl) r.follows r.negated (λ l c. on v (frame_held v i m) (beside_held v b n) l c) low;
}
  where
    layout : Layout
    layout = layout_of g.places h.lists frames (guard_of g) h.top h.base (guard_at g) h.role

    -- the lists that the search holds, in the place of those whose meaning they have
    held_system : System
    held_system = record system { first = h.lists first; step = h.lists step }

    held_list : List (List Literal)
    held_list = h.lists bad

    frame_held : (v : TotalAssignment) (i : ℕ) → MeetsFrame system frames i v → MeetsFrame held_system frames i v
    frame_held v zero m = (h.alike first).stays v m
    frame_held v (suc k) m = m

    beside_held : (v : TotalAssignment) (b : Beside) → MeetsBeside system list b v → MeetsBeside held_system held_list b v
    beside_held v Nothing n = n
    beside_held v Step n = (h.alike step).stays v n
    beside_held v Bad n = (h.alike bad).stays v n

    at_frame : (v : TotalAssignment) (i : ℕ) (b : Beside) (m : MeetsFrame held_system frames i v) (n : MeetsBeside held_system held_list b v) → i < length g.frames.items → spread (asked_of held_system held_list frames v i b m n) h.role v (guard_at g i) ≡ true
    at_frame v zero b m n lt = spread_at (asked_of held_system held_list frames v 0 b m n) h.role v (guard_at g 0) (list_guard first) (h.held.is_guard first)
    at_frame v (suc k) b m n lt =
        spread_at (asked_of held_system held_list frames v (suc k) b m n) h.role v (guard_at g (suc k)) (roles.frame_guard (suc k)) (h.held.is_frame (suc k) (omega arith) (subst (λ (n : ℕ). suc k < n) h.count lt))
        ∙ le-leb (suc k) (suc k) (omega arith)

    on : (v : TotalAssignment) (m : MeetsFrame held_system frames i v) (n : MeetsBeside held_system held_list b v) (l : Literal) → Contains (asked_guards g b i) l → literal_value (spread (asked_of held_system held_list frames v i b m n) h.role v) l ≡ true
    on v m n l c = all_guards (λ k. literal_value u k ≡ true) g b i (ap (literal_value u) (frame_plain g i well lt) ∙ at_frame v i b m n lt)
        (λ e. ap (literal_value u) (plain_guard g.step well.step.positive) ∙ spread_at (asked_of held_system held_list frames v i b m n) h.role v g.step.var (list_guard step) (h.held.is_guard step) ∙ ap asks_step e)
        (λ e. ap (literal_value u) (plain_guard g.bad well.bad.positive) ∙ spread_at (asked_of held_system held_list frames v i b m n) h.role v g.bad.var (list_guard bad) (h.held.is_guard bad) ∙ ap asks_bad e) l c
      where
        u : TotalAssignment
        u = spread (asked_of held_system held_list frames v i b m n) h.role v

        well : IsWell g
        well = h.well
