-- The clause lists of a model mean it.
use Rattle.std.proofs.Common.{◌≡◌, ℕ, ◌+◌, Bool, true, false, not, cond, ◌&&◌, ◌++◌, List, [], ◌∷◌, length, refl, sym, ◌∙◌, subst, arith}
use Rattle.smv_language.specs.Language.{Each, AllLeaves, Value, FlatLeaf, FlatVariable, FlatFormula, FlatModel, Holds}
use Rattle.smv_flat_laws.specs.FlatTrace.{AreInDomains, IsFlatMoment, IsFlatStep}
use Rattle.smv_type_laws.specs.Models.{judged_in}
use Rattle.smv_type_laws.specs.Costs.{state_bits}
use Rattle.smv_type_laws.specs.Laws.{IsDecided}
use Rattle.smv_type_laws.proofs.Typed.{parts_of, conditions_decided}
use Rattle.sat_clauses.specs.States.{Agrees, IsFirstState, IsStepUnder}
use Rattle.sat_clauses.specs.Models.{TotalAssignment, Satisfies}
use Rattle.sat_circuits.specs.Circuit.{Circuit}
use Rattle.sat_encoding_laws.specs.Signals.{Signal}
use Rattle.sat_encoding_laws.specs.Meanings.{IsReady}
use Rattle.sat_encoding_laws.specs.ReadNames.{Reads}
use Rattle.sat_encoding_laws.specs.Inputs.{is_input, reads_input}
use Rattle.sat_encoding_laws.specs.Layout.{input_bits, next_place, input_place, gates_place, variable_signals, signals_now, signals_next}
use Rattle.sat_encoding_laws.specs.Lists.{Copy, names_of, formulas_gates, copy_gates, start_of, state_circuit, first_circuit, step_circuit, first_list, system_of}
use Rattle.sat_encoding_laws.specs.Bits.{state_of, inputs_of}
use Rattle.sat_encoding_laws.specs.Encodable.{IsEncodable, is_input_name, reads_next_input}
use Rattle.sat_encoding_laws.specs.Encodings.{IsFlatFirst, IsEncodingOf}
use Rattle.sat_encoding_laws.proofs.InputsFree.{each_free, each_next_free, moment_free}
use Rattle.sat_encoding_laws.proofs.NameMeans.{AreSignals, KnownTo, naming, left_out, VariablesRight, SoFar, fit_copies, reads_kept, reads_under}
use Rattle.sat_encoding_laws.proofs.Readings.{reading, signals_below, reading_is, reading_bits}
use Rattle.sat_encoding_laws.proofs.Says.{Says, says_start}
use Rattle.sat_encoding_laws.proofs.MomentMeans.{signals_moved, model_types, formulas_right, Goes, formulas_say}
use Rattle.sat_encoding_laws.proofs.CopyMeans.{read_copy, InsideCopy, IsPlaced, copy_right, copy_inside, copy_same, CopySays, copy_says}
use Rattle.sat_encoding_laws.proofs.VariableMeans.{read_as}
use Rattle.sat_encoding_laws.proofs.StateBits.{agrees_one, agrees_same, with_bits, with_bits_truth, bits_first, bits_second, bits_third, length-states, length-inputs, states_from, inputs_from, bits_placed, some_values}

module _ (m : FlatModel) (is : IsEncodable m) where
  -- ---- places

  pub start_ready : IsReady (start_of m)
  start_ready = (says_start (gates_place m) (omega arith)).ready

  starts : Says (gates_place m) (start_of m) (λ v. Unit {0}) (λ v. Unit {0})
  starts = says_start (gates_place m) (omega arith)

  pub placed_now : IsPlaced m is (start_of m) 2 (input_place m)
  placed_now = signals_below m.symbols is.symbols (start_of m) start_ready m.variables (model_types m is) 2 (input_place m) (omega arith) (omega arith)

  pub placed_next : IsPlaced m is (start_of m) (next_place m) (input_place m)
  placed_next = signals_below m.symbols is.symbols (start_of m) start_ready m.variables (model_types m is) (next_place m) (input_place m) (omega arith) (omega arith)

  pub defaults : (us : List Value) × AreInDomains m.variables us
  defaults = some_values m.symbols is.symbols m.variables (model_types m is)

  pub states_long : (x : List Value) → AreInDomains m.variables x → length (state_of m x) ≡ state_bits m
  states_long x h = length-states m.symbols is.symbols m.variables x h

  inputs_long : (x : List Value) → AreInDomains m.variables x → length (inputs_of m x) ≡ input_bits m
  inputs_long x h = length-inputs m.symbols is.symbols m.variables x h

  -- ---- formulas over one copy

  -- formulas that read no input, over a copy whose definitions are right
  pub copy_formulas : (all : Bool) (p q : ℕ) (us : List Value) → AreInDomains m.variables us → IsPlaced m is (start_of m) p q → (copy : Copy) → copy.variables ≡ variable_signals m.symbols p q m.variables
      → (t : Circuit) (C F : TotalAssignment → Type 0) → Says (gates_place m) t C F → ((v : TotalAssignment) → C v → InsideCopy m is all p q v)
      → ((v : TotalAssignment) → F v → SoFar m is (variable_signals m.symbols p q m.variables) all v copy.definitions) → AreSignals t copy.definitions → length copy.definitions ≡ length m.definitions
      → (fs : List FlatFormula) → Each (λ f. AllLeaves (KnownTo m is (length m.definitions)) f.value) fs → Each (λ f. reads_input m f.value ≡ false) fs → Each (λ f. (judged_in m false f.value).broken ≡ []) fs
      → ((x : List Value) → AreInDomains m.variables x → Each (IsDecided m x x) fs)
      → Goes (gates_place m) t (formulas_gates (names_of m copy copy) fs t) (λ v. C v × Each (Holds m (read_copy m is all p q us v) (read_copy m is all p q us v)) fs) F
  copy_formulas all p q us inside placed copy same t C F says in_copy facts hd long fs own none right decided =
      let k = length m.definitions in
      formulas_say m is (names_of m copy copy) (left_out m all) (left_out m all) (read_copy m is all p q us) (read_copy m is all p q us) k (gates_place m) fs
      (reads_kept m is all fs own none) right
      (λ v w below. let e = copy_same m is all p q us (start_of m) placed v w below in (e, e))
      t C F says
      (λ u ready more.
      let hv = subst (λ (es : List Signal). AreSignals u es) (sym same) (signals_moved (start_of m) u (omega (arith, says.from, more)) (variable_signals m.symbols p q m.variables) placed) in
      let hd' = signals_moved t u more copy.definitions hd in
      naming m is u ready copy copy hv hd' hv hd' k)
      (λ v one_true c f.
      let here = in_copy v c in
      let right' = subst (λ (es : List Signal). VariablesRight m is all v es (read_copy m is all p q us v)) (sym same) (copy_right m is all p q us v here) in
      let x = copy_inside m is all p q us v inside here in
      let defs = facts v f (read_copy m is all p q us v) x (copy_right m is all p q us v here) in
      fit_copies m is all all v one_true copy copy (read_copy m is all p q us v) (read_copy m is all p q us v) x x right' defs right' defs k (omega arith) (omega (arith, long)) (omega (arith, long)))
      (λ v c. decided (read_copy m is all p q us v) (copy_inside m is all p q us v inside (in_copy v c)))

  -- ---- the lists of states and of first states

  abbrev pub Now : List Value → TotalAssignment → List Value
  Now us v = read_copy m is false 2 (input_place m) us v

  pub state_says : (us : List Value) → AreInDomains m.variables us → CopySays m is false 2 (input_place m) (gates_place m) us (start_of m) (λ v. Unit {0}) (λ v. Unit {0}) (state_circuit m)
  state_says us h = copy_says m is false 2 (input_place m) (gates_place m) us h (start_of m) refl placed_now (start_of m) (λ v. Unit {0}) (λ v. Unit {0}) starts

  pub first_says : (us : List Value) → AreInDomains m.variables us
      → Says (gates_place m) (first_circuit m) (λ v. ((Unit {0} × InsideCopy m is false 2 (input_place m) v) × Each (Holds m (Now us v) (Now us v)) m.at_each) × Each (Holds m (Now us v) (Now us v)) m.at_first)
      (λ v. Unit {0} × SoFar m is (variable_signals m.symbols 2 (input_place m) m.variables) false v (state_circuit m).1.definitions)
  first_says us h =
      let c = state_says us h in
      (copy_formulas false 2 (input_place m) us h placed_now (state_circuit m).1 c.variables (state_circuit m).0 _ _ c.goes.says (λ v k. k.0.1) (λ v f. f.1) c.usable c.long m.at_first is.closed.at_first is.at_first
      (formulas_right m m.at_first (parts_of m is.typed).at_first) (λ x hx. (conditions_decided m is.closed is.typed x x hx hx).0)).says

  -- an assignment with the bits of a state reads as its valuation
  pub now_reads : (x : List Value) (a : TotalAssignment) → AreInDomains m.variables x → a 1 ≡ true → Agrees a 2 (state_of m x) → (Now x a ≡ x) × InsideCopy m is false 2 (input_place m) a
  now_reads x a h one_true bits =
      reading_is m.symbols is.symbols false m.variables (model_types m is) 2 (input_place m) x a one_true h
      (bits_placed m.symbols is.symbols false m.variables 2 (input_place m) x a h bits (λ e. cc e))

  -- and an assignment that makes a list true has the bits of what it reads as
  pub now_bits : (us : List Value) (a : TotalAssignment) → AreInDomains m.variables us → a 1 ≡ true → InsideCopy m is false 2 (input_place m) a → Agrees a 2 (state_of m (Now us a))
  now_bits us a h one_true inside =
      states_from m.symbols is.symbols false m.variables 2 (input_place m) (Now us a) a (copy_inside m is false 2 (input_place m) us a h inside)
      (reading_bits m.symbols is.symbols false m.variables (model_types m is) 2 (input_place m) us a one_true inside)

  moment_is : (x y : List Value) → x ≡ y → AreInDomains m.variables y → Each (Holds m x x) m.at_each → IsFlatMoment m y
  moment_is x y e h k = record { domains = h; holds = subst (λ (z : List Value). Each (Holds m z z) m.at_each) e k }

  first_tells : (x : List Value) (a : TotalAssignment) → AreInDomains m.variables x → Agrees a 2 (state_of m x) → Satisfies a (first_list m) → IsFlatMoment m x × Each (Holds m x x) m.at_first
  first_tells x a h bits sat =
      let says = first_says x h in
      let reads = now_reads x a h (says.ready.truth a sat) bits in
      let told = (says.sound a sat).0 in
      (moment_is (Now x a) x reads.0 h told.0.1, subst (λ (z : List Value). Each (Holds m z z) m.at_first) reads.0 told.1)

  first_true : (x : List Value) → IsFlatMoment m x → Each (Holds m x x) m.at_first → (a : TotalAssignment) × Agrees a 2 (state_of m x) × Satisfies a (first_list m)
  first_true x k first =
      let says = first_says x k.domains in
      let a = with_bits (state_of m x ++ ([] ++ [])) in
      let one_true = with_bits_truth (state_of m x ++ ([] ++ [])) in
      let bits = bits_first (state_of m x) [] [] in
      let reads = now_reads x a k.domains one_true bits in
      let made =
      says.complete a one_true
      (((tt, reads.1), subst (λ (z : List Value). Each (Holds m z z) m.at_each) (sym reads.0) k.holds), subst (λ (z : List Value). Each (Holds m z z) m.at_first) (sym reads.0) first) in
      let long = states_long x k.domains in
      (made.0, agrees_same (gates_place m) a made.0 made.1 2 (state_of m x) (omega (arith, long)) bits, made.2)

  first_spelled : (s : List Bool) → length s ≡ state_bits m → (a : TotalAssignment) → Agrees a 2 s → Satisfies a (first_list m) → (x : List Value) × (state_of m x ≡ s) × AreInDomains m.variables x
  first_spelled s long a bits sat =
      let us = defaults in
      let says = first_says us.0 us.1 in
      let one_true = says.ready.truth a sat in
      let inside = (says.sound a sat).0.0.0.1 in
      let x = Now us.0 a in
      let hx = copy_inside m is false 2 (input_place m) us.0 a us.1 inside in
      (x, agrees_one a 2 (state_of m x) s (states_long x hx ∙ sym long) (now_bits us.0 a us.1 one_true inside) bits, hx)

  first_means : (s : List Bool) → IsFirstState (system_of m) s → (v : List Value) × IsFlatMoment m v × IsFlatFirst m v × (state_of m v ≡ s)
  first_means s h =
      let a = h.1.0 in
      let x = first_spelled s h.0 a h.1.1 h.1.2 in
      let told = first_tells x.0 a x.2 (subst (λ (bs : List Bool). Agrees a 2 bs) (sym x.1) h.1.1) h.1.2 in
      (x.0, told.0, told.1, x.1)

  first_comes : (v : List Value) → IsFlatMoment m v → Each (Holds m v v) m.at_first → IsFirstState (system_of m) (state_of m v)
  first_comes v k first = (states_long v k.domains, first_true v k first)

  -- ---- the list of steps

  abbrev pub StepNow : List Value → TotalAssignment → List Value
  StepNow us v = read_copy m is true 2 (input_place m) us v

  abbrev pub StepNext : List Value → TotalAssignment → List Value
  StepNext ws v = read_copy m is false (next_place m) (input_place m) ws v

  abbrev pub step_now : Circuit × Copy
  step_now = copy_gates m (signals_now m) true (start_of m)

  abbrev pub step_next : Circuit × Copy
  step_next = copy_gates m (signals_next m) false step_now.0

  now_says : (us : List Value) → AreInDomains m.variables us → CopySays m is true 2 (input_place m) (gates_place m) us (start_of m) (λ v. Unit {0}) (λ v. Unit {0}) step_now
  now_says us h = copy_says m is true 2 (input_place m) (gates_place m) us h (start_of m) refl placed_now (start_of m) (λ v. Unit {0}) (λ v. Unit {0}) starts

  -- what the now copy says of a step
  abbrev pub SaysNow : List Value → TotalAssignment → Type 0
  SaysNow us v = (Unit {0} × InsideCopy m is true 2 (input_place m) v) × Each (Holds m (StepNow us v) (StepNow us v)) m.at_each

  abbrev pub KnowsNow : TotalAssignment → Type 0
  KnowsNow v = Unit {0} × SoFar m is (variable_signals m.symbols 2 (input_place m) m.variables) true v step_now.1.definitions

  next_says : (us ws : List Value) → AreInDomains m.variables us → AreInDomains m.variables ws
      → CopySays m is false (next_place m) (input_place m) (gates_place m) ws step_now.0 (SaysNow us) KnowsNow step_next
  next_says us ws h k = copy_says m is false (next_place m) (input_place m) (gates_place m) ws k (start_of m) refl placed_next step_now.0 (SaysNow us) KnowsNow (now_says us h).goes.says

  -- nothing is left out where all is encoded
  all_kept : (l : FlatLeaf) → false ≡ left_out m true l
  all_kept l = by (is_input_name m l)
    where
      by : (b : Bool) → false ≡ (b && not true)
      by true = refl
      by false = refl

  inputs_kept : (l : FlatLeaf) → is_input_name m l ≡ left_out m false l
  inputs_kept l = by (is_input_name m l)
    where
      by : (b : Bool) → b ≡ (b && not false)
      by true = refl
      by false = refl

  steps_read : (fs : List FlatFormula) → Each (λ f. AllLeaves (KnownTo m is (length m.definitions)) f.value) fs → Each (λ f. reads_next_input m f.value ≡ false) fs
      → Each (λ f. Reads (KnownTo m is (length m.definitions)) (left_out m true) (left_out m false) f.value) fs
  steps_read [] own h = tt
  steps_read (f ∷ fs) own h = (
    subst (λ (tx : FlatLeaf → Bool). Reads (KnownTo m is (length m.definitions)) (left_out m true) tx f.value) (λ i l. inputs_kept l i)
        (subst (λ (tn : FlatLeaf → Bool). Reads (KnownTo m is (length m.definitions)) tn (is_input_name m) f.value) (λ i l. all_kept l i)
        (reads_under (KnownTo m is (length m.definitions)) (is_input_name m) f.value own.0 h.0)),
    steps_read fs own.1 h.1,
  )

  pub step_says : (us ws : List Value) → AreInDomains m.variables us → AreInDomains m.variables ws
      → Says (gates_place m) (step_circuit m)
      (λ v. ((SaysNow us v × InsideCopy m is false (next_place m) (input_place m) v) × Each (Holds m (StepNext ws v) (StepNext ws v)) m.at_each) × Each (Holds m (StepNow us v) (StepNext ws v)) m.at_step)
      (λ v. KnowsNow v × SoFar m is (variable_signals m.symbols (next_place m) (input_place m) m.variables) false v step_next.1.definitions)
  step_says us ws hu hw =
      let now = now_says us hu in
      let next = next_says us ws hu hw in
      let k = length m.definitions in
      (formulas_say m is (names_of m step_now.1 step_next.1) (left_out m true) (left_out m false) (StepNow us) (StepNext ws) k (gates_place m) m.at_step
      (steps_read m.at_step is.closed.at_step is.at_step) (formulas_right m m.at_step (parts_of m is.typed).at_step)
      (λ v w below. (copy_same m is true 2 (input_place m) us (start_of m) placed_now v w below, copy_same m is false (next_place m) (input_place m) ws (start_of m) placed_next v w below))
      step_next.0 _ _ next.goes.says
      (λ u ready more.
      let vn = subst (λ (es : List Signal). AreSignals u es) (sym now.variables) (signals_moved (start_of m) u (omega (arith, next.goes.says.from, more)) (variable_signals m.symbols 2 (input_place m) m.variables) placed_now) in
      let vx = subst (λ (es : List Signal). AreSignals u es) (sym next.variables) (signals_moved (start_of m) u (omega (arith, next.goes.says.from, more)) (variable_signals m.symbols (next_place m) (input_place m) m.variables) placed_next) in
      naming m is u ready step_now.1 step_next.1 vn (signals_moved step_now.0 u (omega (arith, next.goes.grows, more)) step_now.1.definitions now.usable) vx
      (signals_moved step_next.0 u more step_next.1.definitions next.usable) k)
      (λ v one_true c f.
      let here = c.0.0.0.1 in
      let there = c.0.1 in
      let x = copy_inside m is true 2 (input_place m) us v hu here in
      let y = copy_inside m is false (next_place m) (input_place m) ws v hw there in
      let right_x = copy_right m is true 2 (input_place m) us v here in
      let right_y = copy_right m is false (next_place m) (input_place m) ws v there in
      fit_copies m is true false v one_true step_now.1 step_next.1 (StepNow us v) (StepNext ws v) x y
      (subst (λ (es : List Signal). VariablesRight m is true v es (StepNow us v)) (sym now.variables) right_x) (f.0.1 (StepNow us v) x right_x)
      (subst (λ (es : List Signal). VariablesRight m is false v es (StepNext ws v)) (sym next.variables) right_y) (f.1 (StepNext ws v) y right_y) k (omega arith) (omega (arith, now.long)) (omega (arith, next.long)))
      (λ v c. (conditions_decided m is.closed is.typed (StepNow us v) (StepNext ws v) (copy_inside m is true 2 (input_place m) us v hu c.0.0.0.1)
      (copy_inside m is false (next_place m) (input_place m) ws v hw c.0.1)).2)).says

  -- an assignment with the bits of a state and of inputs, and of a next state, reads as their valuations
  step_now_reads : (x us : List Value) (a : TotalAssignment) → AreInDomains m.variables x → a 1 ≡ true → Agrees a 2 (state_of m x) → Agrees a (input_place m) (inputs_of m x)
      → (StepNow x a ≡ x) × InsideCopy m is true 2 (input_place m) a
  step_now_reads x us a h one_true bits inputs =
      reading_is m.symbols is.symbols true m.variables (model_types m is) 2 (input_place m) x a one_true h (bits_placed m.symbols is.symbols true m.variables 2 (input_place m) x a h bits (λ e. inputs))

  step_next_reads : (y : List Value) (a : TotalAssignment) → AreInDomains m.variables y → a 1 ≡ true → Agrees a (next_place m) (state_of m y)
      → (StepNext y a ≡ y) × InsideCopy m is false (next_place m) (input_place m) a
  step_next_reads y a h one_true bits =
      reading_is m.symbols is.symbols false m.variables (model_types m is) (next_place m) (input_place m) y a one_true h (bits_placed m.symbols is.symbols false m.variables (next_place m) (input_place m) y a h bits (λ e. cc e))

  step_means : (inputs s t : List Bool) → length inputs ≡ input_bits m → IsStepUnder (system_of m) inputs s t
      → (v w : List Value) × IsFlatMoment m v × IsFlatMoment m w × IsFlatStep m v w × (state_of m v ≡ s) × (inputs_of m v ≡ inputs) × (state_of m w ≡ t)
  step_means inputs s t long h =
      let us = defaults in
      let says = step_says us.0 us.0 us.1 us.1 in
      let a = h.2.0 in
      let sat = h.2.4 in
      let one_true = says.ready.truth a sat in
      let told = (says.sound a sat).0 in
      let here = told.0.0.0.0.1 in
      let there = told.0.0.1 in
      let x = StepNow us.0 a in
      let y = StepNext us.0 a in
      let hx = copy_inside m is true 2 (input_place m) us.0 a us.1 here in
      let hy = copy_inside m is false (next_place m) (input_place m) us.0 a us.1 there in
      let bits_x = reading_bits m.symbols is.symbols true m.variables (model_types m is) 2 (input_place m) us.0 a one_true here in
      let bits_y = reading_bits m.symbols is.symbols false m.variables (model_types m is) (next_place m) (input_place m) us.0 a one_true there in (
        x,
        y,
        record { domains = hx; holds = told.0.0.0.1 },
        record { domains = hy; holds = told.0.1 },
        told.1,
        agrees_one a 2 (state_of m x) s (states_long x hx ∙ sym h.0) (states_from m.symbols is.symbols true m.variables 2 (input_place m) x a hx bits_x) h.2.1,
        agrees_one a (input_place m) (inputs_of m x) inputs (inputs_long x hx ∙ sym long) (inputs_from m.symbols is.symbols m.variables 2 (input_place m) x a hx bits_x) h.2.3,
        agrees_one a (next_place m) (state_of m y) t (states_long y hy ∙ sym h.1) (states_from m.symbols is.symbols false m.variables (next_place m) (input_place m) y a hy bits_y) h.2.2,
      )

  step_comes : (v w : List Value) → IsFlatMoment m v → IsFlatMoment m w → IsFlatStep m v w → IsStepUnder (system_of m) (inputs_of m v) (state_of m v) (state_of m w)
  step_comes v w kv kw step =
      let says = step_says v w kv.domains kw.domains in
      let s = state_of m v in
      let t = state_of m w in
      let u = inputs_of m v in
      let a = with_bits (s ++ (t ++ u)) in
      let one_true = with_bits_truth (s ++ (t ++ u)) in
      let long_s = states_long v kv.domains in
      let long_t = states_long w kw.domains in
      let long_u = inputs_long v kv.domains in
      let at_next : 2 + length s ≡ next_place m = omega (arith, long_s) in
      let at_inputs : 2 + length s + length t ≡ input_place m = omega (arith, long_s, long_t) in
      let bits_s = bits_first s t u in
      let bits_t = subst (λ (i : ℕ). Agrees a i t) at_next (bits_second s t u) in
      let bits_u = subst (λ (i : ℕ). Agrees a i u) at_inputs (bits_third s t u) in
      let now = step_now_reads v v a kv.domains one_true bits_s bits_u in
      let next = step_next_reads w a kw.domains one_true bits_t in
      let each_now = subst (λ (z : List Value). Each (Holds m z z) m.at_each) (sym now.0) kv.holds in
      let each_next = subst (λ (z : List Value). Each (Holds m z z) m.at_each) (sym next.0) kw.holds in
      let steps = subst (λ (z : List Value). Each (Holds m (StepNow v a) z) m.at_step) (sym next.0) (subst (λ (z : List Value). Each (Holds m z w) m.at_step) (sym now.0) step) in
      let made = says.complete a one_true (((((tt, now.1), each_now), next.1), each_next), steps) in (
        long_s,
        long_t,
        (
          made.0,
          agrees_same (gates_place m) a made.0 made.1 2 s (omega (arith, long_s)) bits_s,
          agrees_same (gates_place m) a made.0 made.1 (next_place m) t (omega (arith, long_t)) bits_t,
          agrees_same (gates_place m) a made.0 made.1 (input_place m) u (omega (arith, long_u)) bits_u,
          made.2,
        ),
      )

  -- ---- one valuation, and no inputs

  reading_any : (xs : List FlatVariable) (es : List Signal) (us ws : List Value) (a : TotalAssignment) → AreInDomains xs us → AreInDomains xs ws
      → reading m.symbols is.symbols true xs es us a ≡ reading m.symbols is.symbols true xs es ws a
  reading_any [] es us ws a h k = refl
  reading_any (x ∷ xs) [] us ws a h k = refl
  reading_any (x ∷ xs) (e ∷ es) [] ws a h k = absurd h
  reading_any (x ∷ xs) (e ∷ es) (u ∷ us) [] a h k = absurd k
  reading_any (x ∷ xs) (e ∷ es) (u ∷ us) (w ∷ ws) a h k = (λ i. by (is_input x.role) (read_as m.symbols x.declared a e) i ∷ reading_any xs es us ws a h.1 k.1 i)
    where
      by : (b : Bool) (r : Value) → cond (b && not true) u r ≡ cond (b && not true) w r
      by true r = refl
      by false r = refl

  one_valuation : (v w : List Value) → AreInDomains m.variables v → AreInDomains m.variables w → state_of m v ≡ state_of m w → inputs_of m v ≡ inputs_of m w → v ≡ w
  one_valuation v w hv hw e f =
      let s = state_of m v in
      let u = inputs_of m v in
      let a = with_bits (s ++ (s ++ u)) in
      let one_true = with_bits_truth (s ++ (s ++ u)) in
      let long = states_long v hv in
      let at_inputs : 2 + length s + length s ≡ input_place m = omega (arith, long) in
      let bits_s = bits_first s s u in
      let bits_u = subst (λ (i : ℕ). Agrees a i u) at_inputs (bits_third s s u) in
      let one = step_now_reads v v a hv one_true bits_s bits_u in
      let two = step_now_reads w w a hw one_true (subst (λ (bs : List Bool). Agrees a 2 bs) e bits_s) (subst (λ (bs : List Bool). Agrees a (input_place m) bs) f bits_u) in
      sym one.0 ∙ reading_any m.variables (variable_signals m.symbols 2 (input_place m) m.variables) v w a hv hw ∙ two.0

  first_free : (v w : List Value) → AreInDomains m.variables v → AreInDomains m.variables w → state_of m v ≡ state_of m w → IsFlatFirst m v → IsFlatFirst m w
  first_free v w hv hw e h = each_free m is v w hv hw e m.at_first is.at_first h

  states_free : (v w : List Value) → AreInDomains m.variables w → state_of m v ≡ state_of m w → IsFlatMoment m v → IsFlatMoment m w
  states_free v w hw e k = moment_free m is v w k.domains hw e k

  next_free : (u v w : List Value) → AreInDomains m.variables v → AreInDomains m.variables w → state_of m v ≡ state_of m w → IsFlatStep m u v → IsFlatStep m u w
  next_free u v w hv hw e h = each_next_free m is v w hv hw e u m.at_step is.at_step h

  -- The clause lists of an encodable model mean it.
  pub encoding_of : IsEncodingOf m (system_of m) (state_of m) (inputs_of m)
  encoding_of = record {
    first_means = first_means;
    first_comes = first_comes;
    step_means = step_means;
    step_comes = step_comes;
    one_valuation = one_valuation;
    first_free = first_free;
    moment_free = states_free;
    next_free = next_free;
  }
