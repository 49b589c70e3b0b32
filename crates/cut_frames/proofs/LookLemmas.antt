-- What the answers of the queries of `clear` say of states and frames.
use Rattle.std.proofs.Common.{◌≡◌, ◌≤◌, ◌<◌, ◌⊎◌, inl, inr, ℕ, zero, suc, ◌+◌, ◌-◌, ◌*◌, Bool, true, false, not, ◌&&◌, List, [], ◌∷◌, refl, sym, ◌∙◌, ap, subst, arith, length, map}
use Rattle.std.specs.Prelude.{slice_index_or, Contains, IsTrue, All, nat_le, if◌then◌else◌}
use Rattle.std.proofs.lemmas.Bool.{cases_lt}
use Rattle.std.proofs.lemmas.List.Elements.{All-head, All-tail}
use Rattle.sat_clauses.specs.Literal.{Literal, opposite, signed}
use Rattle.sat_clauses.specs.Assignment.{Assignment}
use Rattle.sat_clauses.specs.Models.{TotalAssignment, literal_value, clause_value, all_true, values_of}
use Rattle.sat_clauses.specs.declared.system.System.{System}
use Rattle.cut_frames.specs.Chain.{State, Agrees, IsState, IsFirstState, IsBad, Makes, IsOverBits}
use Rattle.cut_frames.specs.Condition.{IsFit, IsOverNow}
use Rattle.cut_frames.specs.FrameLists.{frame_at, InNumber, IsFramed, IsClear}
use Rattle.cut_frames.specs.Bits.{literal_for, literals_from, read_from, moved_back}
use Rattle.cut_frames.specs.GuardedSearch.{places_of}
use Rattle.sat_simplify.specs.SamePlaces.{IsMet}
use Rattle.cut_frames.specs.OwnVariables.{IsMetFrame, IsFound, IsExcluded}
use Rattle.cut_frames.specs.declared.guarded.Beside.TheVariants.{Nothing, Step, Bad}
use Rattle.cut_frames.specs.Path.{Gives, Leads, IsStepUnder, IsStateMoment, IsStepMoment, state_in, inputs_in}
use Rattle.cut_frames.proofs.MomentLemmas.{taken_read, taken_gives}
use Rattle.cut_frames.proofs.Framing.{all_members}
use Rattle.cut_frames.proofs.BitLemmas.{agrees_read, agrees_at, length_read, IsOpposed, all_opposed, back_at, over_value}

-- assumed literals give the values
pub agrees_assumed : (v : TotalAssignment) (n : ℕ) (s : State) → All (λ l. IsTrue (literal_value v l)) (literals_from n s) → Agrees v n s
agrees_assumed v n [] a = tt
agrees_assumed v n (b ∷ s) a = (
  signed_true b (v n) (All-head (λ l. IsTrue (literal_value v l)) (literal_for n b) (literals_from (n + 1) s) a),
  agrees_assumed v (n + 1) s (All-tail (λ l. IsTrue (literal_value v l)) (literal_for n b) (literals_from (n + 1) s) a),
)
  where
    signed_true : (b x : Bool) → signed (not b) x ≡ true → x ≡ b
    signed_true true x e = e
    signed_true false true e = let clash : false ≡ true = e in cc
    signed_true false false e = refl

module _ (bits : ℕ) (v : TotalAssignment) (s : State) (e : length s ≡ bits) (g : Agrees v 2 s) where
  pub clause_over : (c : List Literal) → All (λ l. (2 ≤ l.var) × (l.var < bits + 2)) c → clause_value v c ≡ clause_value (λ v. slice_index_or s (v - 2) false) c
  clause_over [] a = refl
  clause_over (l ∷ c) a =
      let here = All-head (λ l. (2 ≤ l.var) × (l.var < bits + 2)) l c a in
      let one : literal_value v l ≡ literal_value (λ v. slice_index_or s (v - 2) false) l = over_value bits v s l e g here.0 here.1 in
      let rest = clause_over c (All-tail (λ l. (2 ≤ l.var) × (l.var < bits + 2)) l c a) in
      rw (one, rest) refl

  pub list_over : (f : List (List Literal)) → All (All (λ l. (2 ≤ l.var) × (l.var < bits + 2))) f → all_true v f ≡ all_true (λ v. slice_index_or s (v - 2) false) f
  list_over [] a = refl
  list_over (c ∷ f) a =
      let one = clause_over c (All-head (All (λ l. (2 ≤ l.var) × (l.var < bits + 2))) c f a) in
      let rest = list_over f (All-tail (All (λ l. (2 ≤ l.var) × (l.var < bits + 2))) c f a) in
      rw (one, rest) refl

-- literals turned round
pub opposed_over : (bits : ℕ) (s : State) (c : List Literal) → length s ≡ bits → All (IsOpposed 2 s) c → All (λ l. (2 ≤ l.var) × (l.var < bits + 2)) c
opposed_over bits s c e a = λ k d lt. over (slice_index_or c k d) (a k d lt)
  where
    low : (i : ℕ) → 2 ≤ 2 + i
    low i = omega arith

    high : (i n b : ℕ) → n ≡ b → i < n → 2 + i < b + 2
    high i n b e lt = omega arith

    over : (l : Literal) → IsOpposed 2 s l → (2 ≤ l.var) × (l.var < bits + 2)
    over l o =
        let var : l.var ≡ 2 + o.place = ap (λ (m : Literal). m.var) o.is_it in
        (subst (λ n. 2 ≤ n) (sym var) (low o.place), subst (λ n. n < bits + 2) (sym var) (high o.place (length s) bits e o.inside))

-- a clause over state bits next says of the state next what the clause put back says of it as the state now
pub next_over : (bits : ℕ) (v : TotalAssignment) (s t : State) (c : List Literal) → length s ≡ bits → length t ≡ bits → Agrees v (bits + 2) t → All (IsOpposed (bits + 2) s) c →
    clause_value v c ≡ clause_value (λ v. slice_index_or t (v - 2) false) (map (moved_back bits) c)
next_over bits v s t [] e f g a = refl
next_over bits v s t (l ∷ c) e f g a =
    let one = same l (All-head (IsOpposed (bits + 2) s) l c a) in
    let rest = next_over bits v s t c e f g (All-tail (IsOpposed (bits + 2) s) l c a) in
    rw (one, rest) refl
  where
    less_two : (i : ℕ) → i ≡ 2 + i - 2
    less_two i = omega arith

    in_other : (i n b m : ℕ) → n ≡ b → m ≡ b → i < n → i < m
    in_other i n b m e f lt = omega arith

    same : (l : Literal) → IsOpposed (bits + 2) s l → literal_value v l ≡ literal_value (λ v. slice_index_or t (v - 2) false) (moved_back bits l)
    same l o =
        let b : Bool = not (slice_index_or s o.place false) in
        ap (literal_value v) o.is_it
        ∙ ap (signed (not b)) (agrees_at v (bits + 2) o.place t g (in_other o.place (length s) bits (length t) e f o.inside) ∙ ap (λ i. slice_index_or t i false) (less_two o.place))
        ∙ ap (literal_value (λ v. slice_index_or t (v - 2) false)) (sym (ap (moved_back bits) o.is_it ∙ back_at bits o.place b))

-- values that agree with others where the state's variables are
pub agrees_on : (v w : TotalAssignment) (n : ℕ) (s : State) → ((x : ℕ) → n ≤ x → x < n + length s → w x ≡ v x) → Agrees v n s → Agrees w n s
agrees_on v w n [] f g = tt
agrees_on v w n (b ∷ s) f g = (f n (here_is n (length s)).0 (here_is n (length s)).1 ∙ g.0, agrees_on v w (n + 1) s (λ x le lt. f x (low n x le) (high n (length s) x lt)) g.1)
  where
    here_is : (n k : ℕ) → (n ≤ n) × (n < n + suc k)
    here_is n k = (omega arith, omega arith)

    low : (n x : ℕ) → n + 1 ≤ x → n ≤ x
    low n x le = omega (arith, le)

    high : (n k x : ℕ) → x < n + 1 + k → x < n + suc k
    high n k x lt = omega (arith, lt)

-- the values of places from one assignment, and all others from another one
abbrev mixed : ℕ → TotalAssignment → TotalAssignment → TotalAssignment
mixed places v w x = if nat_le 2 x && nat_le x places then v x else w x

mixed_in : (places : ℕ) (v w : TotalAssignment) (x : ℕ) → 2 ≤ x → x ≤ places → mixed places v w x ≡ v x
mixed_in places v w x low high = go (nat_le 2 x) (nat_le x places) refl refl
  where
    go : (a b : Bool) → nat_le 2 x ≡ a → nat_le x places ≡ b → (if a && b then v x else w x) ≡ v x
    go true true e f = refl
    go true false e f = absurd (grind (arith, high, f))
    go false b e f = absurd (grind (arith, low, e))

mixed_out : (places : ℕ) (v w : TotalAssignment) (x : ℕ) → (x < 2) ⊎ (places < x) → mixed places v w x ≡ w x
mixed_out places v w x (inl lt) = go (nat_le 2 x) refl
  where
    go : (a : Bool) → nat_le 2 x ≡ a → (if a && nat_le x places then v x else w x) ≡ w x
    go true e = absurd (grind (arith, lt, e))
    go false e = refl
mixed_out places v w x (inr lt) = go (nat_le 2 x) (nat_le x places) refl refl
  where
    go : (a b : Bool) → nat_le 2 x ≡ a → nat_le x places ≡ b → (if a && b then v x else w x) ≡ w x
    go a true e f = absurd (grind (arith, lt, f))
    go true false e f = refl
    go false false e f = refl

-- lists whose literals have the same values
clause_same : (v w : TotalAssignment) (c : List Literal) → All (λ (l : Literal). v l.var ≡ w l.var) c → clause_value v c ≡ clause_value w c
clause_same v w [] a = refl
clause_same v w (l ∷ c) a =
    let one : literal_value v l ≡ literal_value w l = ap (signed l.negated) (All-head (λ (l : Literal). v l.var ≡ w l.var) l c a) in
    let rest = clause_same v w c (All-tail (λ (l : Literal). v l.var ≡ w l.var) l c a) in
    rw (one, rest) refl

list_same : (v w : TotalAssignment) (f : List (List Literal)) → All (All (λ (l : Literal). v l.var ≡ w l.var)) f → all_true v f ≡ all_true w f
list_same v w [] a = refl
list_same v w (c ∷ f) a =
    let one = clause_same v w c (All-head (All (λ (l : Literal). v l.var ≡ w l.var)) c f a) in
    let rest = list_same v w f (All-tail (All (λ (l : Literal). v l.var ≡ w l.var)) c f a) in
    rw (one, rest) refl

module _ (system : System) where
  -- the places of the state now, of the state next and of the inputs
  in_now : (k x b u : ℕ) → k ≡ b → x < 2 + k → x ≤ 2 * b + u + 1
  in_now k x b u e lt = omega (arith, e, lt)

  in_next : (k x b u : ℕ) → k ≡ b → x < b + 2 + k → x ≤ 2 * b + u + 1
  in_next k x b u e lt = omega (arith, e, lt)

  in_inputs : (k x b u : ℕ) → k ≡ u → x < 2 * b + 2 + k → x ≤ 2 * b + u + 1
  in_inputs k x b u e lt = omega (arith, e, lt)

  from_two : (b x : ℕ) → b + 2 ≤ x → 2 ≤ x
  from_two b x le = omega (arith, le)

  from_inputs : (b x : ℕ) → 2 * b + 2 ≤ x → 2 ≤ x
  from_inputs b x le = omega (arith, le)

  -- a list that is met has the state of the values
  pub now_met : (list : List (List Literal)) (v : TotalAssignment) (s : State) → IsState system s → Agrees v 2 s → (m : IsMet (places_of system) list v) → Agrees m.values 2 s
  now_met list v s e g m = agrees_on v m.values 2 s (λ x low lt. m.agree x low (in_now (length s) x system.state_bits system.input_bits e lt)) g

  pub next_met : (list : List (List Literal)) (v : TotalAssignment) (s : State) → IsState system s → Agrees v (system.state_bits + 2) s → (m : IsMet (places_of system) list v) → Agrees m.values (system.state_bits + 2) s
  next_met list v s e g m = agrees_on v m.values (system.state_bits + 2) s (λ x low lt. m.agree x (from_two system.state_bits x low) (in_next (length s) x system.state_bits system.input_bits e lt)) g

  pub inputs_met : (list : List (List Literal)) (v : TotalAssignment) (u : List Bool) → length u ≡ system.input_bits → Agrees v (2 * system.state_bits + 2) u → (m : IsMet (places_of system) list v) → Agrees m.values (2 * system.state_bits + 2) u
  inputs_met list v u e g m = agrees_on v m.values (2 * system.state_bits + 2) u (λ x low lt. m.agree x (from_inputs system.state_bits x low) (in_inputs (length u) x system.state_bits system.input_bits e lt)) g

  pub met_itself : (list : List (List Literal)) (v : TotalAssignment) → IsTrue (all_true v list) → IsMet (places_of system) list v
  met_itself list v t = record { values = v; agree = λ x low high. refl; all = t }

  -- values that meet the frame of a number read as a state of it
  pub read_number : (fs : List (List (List Literal))) (i : ℕ) (a : Assignment) → IsFramed system fs → IsMetFrame system fs i (values_of a) → InNumber system fs i (read_from 2 system.state_bits a)
  read_number fs zero a f m = (
    length_read 2 system.state_bits a,
    (m.values, now_met system.first (values_of a) (read_from 2 system.state_bits a) (length_read 2 system.state_bits a) (agrees_read 2 system.state_bits a) m, m.all),
  )
  read_number fs (suc i) a f m = (
    length_read 2 system.state_bits a,
    sym (list_over system.state_bits (values_of a) (read_from 2 system.state_bits a) (length_read 2 system.state_bits a) (agrees_read 2 system.state_bits a) (frame_at fs (suc i))
        (all_members (IsOverBits system) (frame_at fs (suc i)) (f.over_bits (suc i)))) ∙ m,
  )

  -- values of a state of the frame of a number meet it: `first` has variables of its own but for those of the state
  pub met_number : (fs : List (List (List Literal))) (i : ℕ) (s : State) (v : TotalAssignment) → IsFit system → IsFramed system fs → Agrees v 2 s → InNumber system fs i s → IsMetFrame system fs i v
  met_number fs zero s v fit f g h = record {
    values = mixed (places_of system) v h.1.0;
    agree = λ x low high. mixed_in (places_of system) v h.1.0 x low high;
    all = list_same (mixed (places_of system) v h.1.0) h.1.0 system.first (λ k c lt j l in_clause. same (slice_index_or (slice_index_or system.first k c) j l) (fit.first k c lt j l in_clause)) ∙ h.1.2;
  }
    where
      within : (x b u : ℕ) → x < b + 2 → x ≤ 2 * b + u + 1
      within x b u lt = omega (arith, lt)

      below : (x b k : ℕ) → k ≡ b → 2 ≤ x → x < b + 2 → x - 2 < k
      below x b k e le lt = omega (arith, e, le, lt)

      around : (x : ℕ) → 2 ≤ x → x ≡ 2 + (x - 2)
      around x le = omega (arith, le)

      state_place : (x : ℕ) → 2 ≤ x → x < system.state_bits + 2 → mixed (places_of system) v h.1.0 x ≡ h.1.0 x
      state_place x low lt =
          mixed_in (places_of system) v h.1.0 x low (within x system.state_bits system.input_bits lt)
          ∙ ap v (around x low) ∙ agrees_at v 2 (x - 2) s g (below x system.state_bits (length s) h.0 low lt)
          ∙ sym (ap h.1.0 (around x low) ∙ agrees_at h.1.0 2 (x - 2) s h.1.1 (below x system.state_bits (length s) h.0 low lt))

      low_place : (x : ℕ) → x < system.state_bits + 2 → (x < 2) ⊎ (2 ≤ x) → mixed (places_of system) v h.1.0 x ≡ h.1.0 x
      low_place x lt (inl less) = mixed_out (places_of system) v h.1.0 x (inl less)
      low_place x lt (inr le) = state_place x le lt

      place : (x : ℕ) → (x < system.state_bits + 2) ⊎ (2 * system.state_bits + system.input_bits + 1 < x) → mixed (places_of system) v h.1.0 x ≡ h.1.0 x
      place x (inl lt) = low_place x lt (cases_lt x 2)
      place x (inr lt) = mixed_out (places_of system) v h.1.0 x (inr lt)

      same : (l : Literal) → IsOverNow system l → mixed (places_of system) v h.1.0 l.var ≡ h.1.0 l.var
      same l over = place l.var over.1
  met_number fs (suc i) s v fit f g h =
      list_over system.state_bits v s h.0 g (frame_at fs (suc i)) (all_members (IsOverBits system) (frame_at fs (suc i)) (f.over_bits (suc i))) ∙ h.1

  pub bad_deeper : (fs : List (List (List Literal))) (i : ℕ) (bad : List (List Literal)) (values a : Assignment) → IsFramed system fs → IsFound system bad fs Bad i [] values → IsStateMoment system values a →
      InNumber system fs i (state_in system a) × IsBad system bad (state_in system a) × Gives 2 system.state_bits a
  bad_deeper fs i bad values a f m moment =
      let is : state_in system a ≡ read_from 2 system.state_bits values = taken_read 2 system.state_bits values a moment.state in
      let e : IsState system (read_from 2 system.state_bits values) = length_read 2 system.state_bits values in
      let found : InNumber system fs i (read_from 2 system.state_bits values) × IsBad system bad (read_from 2 system.state_bits values) = (
        read_number fs i values f m.frame,
        (e, (m.beside.values, now_met bad (values_of values) (read_from 2 system.state_bits values) e (agrees_read 2 system.state_bits values) m.beside, m.beside.all)),
      ) in
      let there = subst (λ (s : State). InNumber system fs i s × IsBad system bad s) (sym is) found in
      (there.0, there.1, taken_gives 2 system.state_bits values a moment.state)

  pub bad_nothing : (fs : List (List (List Literal))) (i : ℕ) (bad : List (List Literal)) (core : List Literal) → IsFit system → IsFramed system fs → IsExcluded system bad fs Bad i [] core →
      (s : State) → InNumber system fs i s → IsBad system bad s → ⊥
  bad_nothing fs i bad core fit f c s h b = no_clause core c.negated (c.follows b.1.0 (met_number fs i s b.1.0 fit f b.1.1 h) (met_itself bad b.1.0 b.1.2))
    where
      no_clause : (core : List Literal) → All (λ l. Contains [] (opposite l)) core → clause_value b.1.0 core ≡ true → ⊥
      no_clause [] a t = cc
      no_clause (l ∷ k) a t = let m = a 0 l (grind arith) in omega (arith, m.1)

  pub before_first : (fs : List (List (List Literal))) (bad : List (List Literal)) (s : State) (values : Assignment) → IsState system s → IsFound system bad fs Nothing 0 (literals_from 2 s) values → IsFirstState system s
  before_first fs bad s values e m =
      (e, (m.frame.values, now_met system.first (values_of values) s e (agrees_assumed (values_of values) 2 s m.assumed) m.frame, m.frame.all))

  pub before_deeper : (fs : List (List (List Literal))) (i : ℕ) (bad : List (List Literal)) (s : State) (values a : Assignment) → IsFramed system fs → IsState system s →
      IsFound system bad fs Step i (literals_from (system.state_bits + 2) s) values → IsStepMoment system values a → InNumber system fs i (state_in system a) × Leads system a s
  before_deeper fs i bad s values a f e m moment =
      let is : state_in system a ≡ read_from 2 system.state_bits values = taken_read 2 system.state_bits values a moment.state in
      let are : inputs_in system a ≡ read_from (2 * system.state_bits + 2) system.input_bits values = taken_read (2 * system.state_bits + 2) system.input_bits values a moment.inputs in
      let now : IsState system (read_from 2 system.state_bits values) = length_read 2 system.state_bits values in
      let step : IsStepUnder system (read_from (2 * system.state_bits + 2) system.input_bits values) (read_from 2 system.state_bits values) s = (
        now,
        e,
        (
          m.beside.values,
          now_met system.step (values_of values) (read_from 2 system.state_bits values) now (agrees_read 2 system.state_bits values) m.beside,
          next_met system.step (values_of values) s e (agrees_assumed (values_of values) (system.state_bits + 2) s m.assumed) m.beside,
          inputs_met system.step (values_of values) (read_from (2 * system.state_bits + 2) system.input_bits values) (length_read (2 * system.state_bits + 2) system.input_bits values)
              (agrees_read (2 * system.state_bits + 2) system.input_bits values) m.beside,
          m.beside.all,
        ),
      ) in (
        subst (InNumber system fs i) (sym is) (read_number fs i values f m.frame),
        (
          taken_gives 2 system.state_bits values a moment.state,
          taken_gives (2 * system.state_bits + 2) system.input_bits values a moment.inputs,
          subst (λ (u : List Bool). IsStepUnder system u (state_in system a) s) (sym are) (subst (λ (r : State). IsStepUnder system (read_from (2 * system.state_bits + 2) system.input_bits values) r s) (sym is) step),
        ),
      )

  pub first_makes : (fs : List (List (List Literal))) (bad : List (List Literal)) (s : State) (core : List Literal) → IsState system s → IsExcluded system bad fs Nothing 0 (literals_from 2 s) core → (t : State) → IsFirstState system t → Makes system t core
  first_makes fs bad s core e c t h =
      sym (clause_over system.state_bits h.1.0 t h.0 h.1.1 core (opposed_over system.state_bits s core e (all_opposed 2 s core c.negated))) ∙ c.follows h.1.0 (met_itself system.first h.1.0 h.1.2) tt

  -- a look at the last frame
  pub look_at_bad : (fs : List (List (List Literal))) (last : ℕ) (bad : List (List Literal)) (values a : Assignment) → length fs ≡ suc last → IsFramed system fs → IsFound system bad fs Bad last [] values → IsStateMoment system values a →
      InNumber system fs (length fs - 1) (state_in system a) × IsBad system bad (state_in system a) × Gives 2 system.state_bits a
  look_at_bad fs last bad values a e f m moment =
      let found = bad_deeper fs last bad values a f m moment in
      (subst (λ n. InNumber system fs n (state_in system a)) (omega (arith, e)) found.0, found.1, found.2)

  pub look_at_none : (fs : List (List (List Literal))) (last : ℕ) (bad : List (List Literal)) (core : List Literal) → length fs ≡ suc last → IsFit system → IsFramed system fs → IsExcluded system bad fs Bad last [] core → IsClear system bad fs
  look_at_none fs last bad core e fit f c = λ s h b. bad_nothing fs last bad core fit f c s (subst (λ n. InNumber system fs n s) (omega (arith, e)) h) b
