-- The list of bad states means them.
use Rattle.std.proofs.Common.{◌≡◌, inl, inr, ℕ, zero, suc, ◌+◌, ◌-◌, ◌≤◌, leb, ltb, Bool, true, false, not, cond, ◌&&◌, ◌||◌, ◌++◌, List, [], ◌∷◌, length, map, Some, refl, sym, ◌∙◌, ap, subst, arith}
use Rattle.std.proofs.lemmas.Bool.{leb-true, le-leb, ltb-false, and_parts}
use Rattle.std.specs.Prelude.{slice_get, filter}
use Rattle.std.proofs.lemmas.List.{length-map}
use Rattle.smv_language.specs.Language.{Tree, DeclaredTree, boolean, Each, AtSome, in_domain, Value, symbol, FlatLeaf, flat_variable, FlatVariable, FlatFormula, FlatModel, Holds, FlatMay}
use Rattle.smv_language.specs.Values.{truth, number}
use Rattle.smv_flat_laws.specs.FlatTrace.{AreInDomains}
use Rattle.smv_type_laws.specs.ExpressionKinds.{truth_class, not_boolean, unless_class}
use Rattle.smv_type_laws.specs.Models.{judged_in}
use Rattle.smv_type_laws.specs.Laws.{IsDecided}
use Rattle.smv_type_laws.proofs.Parts.{none_second}
use Rattle.smv_type_laws.proofs.Typed.{decided}
use Rattle.sat_clauses.specs.States.{IsBad}
use Rattle.sat_clauses.specs.Literal.{Literal, opposite}
use Rattle.sat_clauses.specs.Models.{TotalAssignment, literal_value, clause_value, Satisfies}
use Rattle.sat_clauses.proofs.ModelLemmas.{literal_value-opposite, Satisfies-front, Satisfies-back, Satisfies-append}
use Rattle.sat_circuits.specs.Circuit.{Circuit}
use Rattle.sat_circuits.specs.Meaning.{AllBelow}
use Rattle.sat_circuits.specs.Bits.{bit_value}
use Rattle.sat_circuits.specs.Counts.{true_count, at_most_gates}
use Rattle.sat_circuits.proofs.CountMeans.{at_most_gates-gives}
use Rattle.sat_circuits.proofs.DigitMeans.{constant-value}
use Rattle.sat_encoding_laws.specs.Signals.{literal_in, as_bit}
use Rattle.sat_encoding_laws.specs.Expressions.{its_value, encoded}
use Rattle.sat_encoding_laws.specs.Meanings.{HasValue, IsReady}
use Rattle.sat_encoding_laws.specs.Inputs.{is_input_variable}
use Rattle.sat_encoding_laws.specs.Layout.{input_place, gates_place, variable_signals, signals_now}
use Rattle.sat_encoding_laws.specs.Lists.{names_of, signal_or_false, asserted_signal, start_of, state_circuit, system_of, history_literals, literal_at, unlisted_clause, size_gates, bad_list}
use Rattle.sat_encoding_laws.specs.Bits.{state_of}
use Rattle.sat_encoding_laws.specs.Encodable.{IsEncodable, IsFitTop, IsStateBoolean}
use Rattle.sat_encoding_laws.specs.Encodings.{is_true_value, is_true_at, is_true_in, bit_of, IsBadMoment, IsBadListOf}
use Rattle.sat_encoding_laws.proofs.Parts.{literal_below, truth_in_bit, IsLiteral}
use Rattle.sat_encoding_laws.proofs.NameMeans.{AreSignals, signal_at_usable, left_out, SoFar}
use Rattle.sat_encoding_laws.proofs.Says.{Says, says_built, says_asserted, says_same}
use Rattle.sat_encoding_laws.proofs.MomentMeans.{signals_moved}
use Rattle.sat_encoding_laws.proofs.CopyMeans.{InsideCopy, copy_right, copy_inside, copy_same}
use Rattle.sat_encoding_laws.proofs.StateBits.{agrees_one, agrees_same, with_bits, with_bits_truth, bits_first}
use Rattle.sat_encoding_laws.proofs.InputsFree.{moment_free, top_free, count_free, sets_free}
use Rattle.sat_encoding_laws.proofs.SystemMeans.{placed_now, defaults, states_long, copy_formulas, Now, state_says, now_reads, now_bits}
use Rattle.std.proofs.Math.Nat.{zero-add}

-- ---- history bits

-- a value of each variable
domain_at : (xs : List FlatVariable) (us : List Value) (i : ℕ) (x : FlatVariable) → AreInDomains xs us → slice_get xs i ≡ Some x → (u : Value) × (slice_get us i ≡ Some u) × (in_domain x.declared u ≡ true)
domain_at [] us i x h e = cc
domain_at (y ∷ xs) [] i x h e = absurd h
domain_at (y ∷ xs) (u ∷ us) zero x h e = let same : y ≡ x = cc in (u, refl, subst (λ (z : FlatVariable). in_domain z.declared u ≡ true) same h.0)
domain_at (y ∷ xs) (u ∷ us) (suc i) x h e = domain_at xs us i x h.1 e

-- how many of the history variables are TRUE
abbrev failed_count : List ℕ → List Value → ℕ
failed_count is x = length (filter (is_true_at x) is)

-- some fault of the set has not failed
abbrev HasNotFailed : List ℕ → List Value → List ℕ → Type 0
HasNotFailed history v set = AtSome (λ n. bit_of history v n ≡ false) set

-- a literal for each number, which says whether the variable is TRUE
abbrev Tells : List Value → TotalAssignment → List ℕ → List Literal → Type 0
Tells x v [] [] = Unit {0}
Tells x v (i ∷ is) (l ∷ ls) = (literal_value v l ≡ is_true_value (slice_get x i)) × Tells x v is ls
Tells x v _ _ = ⊥

one_more : (n : ℕ) → 1 + n ≡ suc n
one_more n = omega arith

tells_count : (x : List Value) (v : TotalAssignment) (is : List ℕ) (ls : List Literal) → Tells x v is ls → true_count v ls ≡ failed_count is x
tells_count x v [] [] h = refl
tells_count x v [] (l ∷ ls) h = absurd h
tells_count x v (i ∷ is) [] h = absurd h
tells_count x v (i ∷ is) (l ∷ ls) h = (λ j. bit_value (h.0 j) + tells_count x v is ls h.1 j) ∙ by (is_true_at x i)
  where
    by : (b : Bool) → bit_value b + length (filter (is_true_at x) is) ≡ length (cond b (i ∷ filter (is_true_at x) is) (filter (is_true_at x) is))
    by true = one_more (length (filter (is_true_at x) is))
    by false = zero-add (length (filter (is_true_at x) is))

tells_at : (x : List Value) (v : TotalAssignment) → v 1 ≡ true → (is : List ℕ) (ls : List Literal) → Tells x v is ls → (i : ℕ) → literal_value v (literal_at ls i) ≡ is_true_in x (slice_get is i)
tells_at x v t [] [] h i = constant-value v false t
tells_at x v t [] (l ∷ ls) h i = absurd h
tells_at x v t (j ∷ is) [] h i = absurd h
tells_at x v t (j ∷ is) (l ∷ ls) h zero = h.0
tells_at x v t (j ∷ is) (l ∷ ls) h (suc i) = tells_at x v t is ls h.1 i

no_more : (is : List ℕ) (x : List Value) → failed_count is x ≤ length is
no_more [] x = omega arith
no_more (i ∷ is) x = by (is_true_at x i) (no_more is x)
  where
    by : (b : Bool) → failed_count is x ≤ length is → length (cond b (i ∷ filter (is_true_at x) is) (filter (is_true_at x) is)) ≤ suc (length is)
    by true h = omega (arith, h)
    by false h = omega (arith, h)

-- ---- listed sets

module _ (x : List Value) (v : TotalAssignment) (one_true : v 1 ≡ true) (is : List ℕ) (ls : List Literal) (tells : Tells x v is ls) where
  not_true : (b : Bool) → not b ≡ true → b ≡ false
  not_true true h = cc
  not_true false h = refl

  one_says : (n : ℕ) → literal_value v (opposite (literal_at ls (n - 1))) ≡ not (is_true_in x (slice_get is (n - 1)))
  one_says n = literal_value-opposite v (literal_at ls (n - 1)) ∙ ap not (tells_at x v one_true is ls tells (n - 1))

  set_to : (set : List ℕ) → clause_value v (unlisted_clause ls set) ≡ true → HasNotFailed is x set
  set_to [] h = cc
  set_to (n ∷ set) h = by (literal_value v (opposite (literal_at ls (n - 1)))) refl h (set_to set)
    where
      by : (b : Bool) → literal_value v (opposite (literal_at ls (n - 1))) ≡ b → (b || clause_value v (unlisted_clause ls set)) ≡ true → (clause_value v (unlisted_clause ls set) ≡ true → HasNotFailed is x set)
          → HasNotFailed is x (n ∷ set)
      by true e h more = inl (not_true _ (sym (one_says n) ∙ e))
      by false e h more = inr (more h)

  set_from : (set : List ℕ) → HasNotFailed is x set → clause_value v (unlisted_clause ls set) ≡ true
  set_from [] h = absurd h
  set_from (n ∷ set) (inl e) = (λ i. (one_says n ∙ ap not e) i || clause_value v (unlisted_clause ls set))
  set_from (n ∷ set) (inr h) = either (literal_value v (opposite (literal_at ls (n - 1)))) (set_from set h)
    where
      either : (b : Bool) → clause_value v (unlisted_clause ls set) ≡ true → (b || clause_value v (unlisted_clause ls set)) ≡ true
      either true h = refl
      either false h = h

  sets_to : (sets : List (List ℕ)) → Satisfies v (map (unlisted_clause ls) sets) → Each (HasNotFailed is x) sets
  sets_to [] h = tt
  sets_to (set ∷ sets) h = let parts = and_parts _ _ h in (set_to set parts.0, sets_to sets parts.1)

  sets_from : (sets : List (List ℕ)) → Each (HasNotFailed is x) sets → Satisfies v (map (unlisted_clause ls) sets)
  sets_from [] h = refl
  sets_from (set ∷ sets) h = (λ i. set_from set h.0 i && sets_from sets h.1 i)

-- ---- the list

module _ (m : FlatModel) (is : IsEncodable m) (top : Tree FlatLeaf) (fit : IsFitTop m top) (history : List ℕ) (bits : Each (IsStateBoolean m) history) where
  top_formula : FlatFormula
  top_formula = record { value = top; item = 0; number = 0 }

  top_decided : (x : List Value) → AreInDomains m.variables x → Each (IsDecided m x x) (record { value = top; item = 0; number = 0 } ∷ [])
  top_decided x h = decided m x x is.closed is.typed h h (record { value = top; item = 0; number = 0 } ∷ []) (rw (fit.right) refl) (fit.own, tt)

  literals_usable : (t : Circuit) → IsReady t → AreSignals t (signals_now m) → (is : List ℕ) → AllBelow t.free (history_literals m is)
  literals_usable t ready h [] = tt
  literals_usable t ready h (i ∷ is) = (literal_below t ready.least (signal_or_false (slice_get (signals_now m) i)) (signal_at_usable t ready (signals_now m) i h), literals_usable t ready h is)

  -- the history literals say which history bits are TRUE
  history_tells : (us : List Value) (v : TotalAssignment) → AreInDomains m.variables us → InsideCopy m is false 2 (input_place m) v → (hs : List ℕ) → Each (IsStateBoolean m) hs
      → Tells (Now m is us v) v hs (history_literals m hs)
  history_tells us v h inside [] b = tt
  history_tells us v h inside (i ∷ hs) b =
      let k = b.0 in
      let at = domain_at m.variables (Now m is us v) i k.variable (copy_inside m is false 2 (input_place m) us v h inside) k.is_variable in
      let kept : left_out m false (flat_variable i) ≡ false = (λ j. is_input_variable (k.is_variable j) && not false) ∙ (λ j. k.is_state j && not false) in
      let has = copy_right m is false 2 (input_place m) us v inside i kept at.0 at.1 in
      let truth_there : in_domain boolean at.0 ≡ true = subst (λ (d : DeclaredTree). in_domain d at.0 ≡ true) k.is_boolean at.2 in (
        told at.0 truth_there has ∙ sym (ap is_true_value at.1),
        history_tells us v h inside hs b.1,
      )
    where
      told : (u : Value) → in_domain boolean u ≡ true → HasValue m.symbols v (signal_or_false (slice_get (signals_now m) i)) u
          → literal_value v (literal_in (signal_or_false (slice_get (signals_now m) i))) ≡ is_true_value (Some u)
      told (truth c) e has = truth_in_bit m.symbols v _ c has
      told (number n) e has = cc
      told (symbol y) e has = cc

  abbrev pub Few : List Value → ℕ → TotalAssignment → Type 0
  Few us size v = failed_count history (Now m is us v) ≤ size

  -- what holds of a state at which the top event does
  abbrev pub AtTop : List Value → TotalAssignment → Type 0
  AtTop us v = ((Unit {0} × InsideCopy m is false 2 (input_place m) v) × Each (Holds m (Now m is us v) (Now m is us v)) m.at_each) × Each (Holds m (Now m is us v) (Now m is us v)) (record { value = top; item = 0; number = 0 } ∷ [])

  abbrev pub Knows : TotalAssignment → Type 0
  Knows v = Unit {0} × SoFar m is (variable_signals m.symbols 2 (input_place m) m.variables) false v (state_circuit m).1.definitions

  abbrev pub top_circuit : Circuit
  top_circuit = asserted_signal (encoded (names_of m (state_circuit m).1 (state_circuit m).1) its_value top (state_circuit m).0)

  top_says : (us : List Value) → AreInDomains m.variables us → Says (gates_place m) top_circuit (AtTop us) Knows
  top_says us h =
      let c = state_says m is us h in
      let j = judged_in m false top in
      (copy_formulas m is false 2 (input_place m) us h (placed_now m is) (state_circuit m).1 c.variables (state_circuit m).0 _ _ c.goes.says (λ v k. k.0.1) (λ v f. f.1) c.usable c.long
      (record { value = top; item = 0; number = 0 } ∷ []) (fit.own, tt) (fit.no_input, tt) (none_second (unless_class truth_class not_boolean j.kind) j.broken fit.right, tt) (λ x hx. top_decided x hx)).says

  pub size_says : (us : List Value) → AreInDomains m.variables us → (size : ℕ) → Says (gates_place m) (size_gates (history_literals m history) size top_circuit) (λ v. AtTop us v × Few us size v) Knows
  size_says us h size = by (ltb size (length (history_literals m history))) refl
    where
      says : Says (gates_place m) top_circuit (AtTop us) Knows
      says = top_says us h

      long : length (history_literals m history) ≡ length history
      long = length-map history _

      by : (b : Bool) → ltb size (length (history_literals m history)) ≡ b
          → Says (gates_place m) (cond b (asserted_signal (as_bit (at_most_gates (history_literals m history) size top_circuit))) top_circuit) (λ v. AtTop us v × Few us size v) Knows
      by false e =
          says_same (gates_place m) top_circuit (AtTop us) (λ v. AtTop us v × Few us size v) Knows Knows says
          (λ v c. (c, (let most = no_more history (Now m is us v) in omega (arith, most, long, ltb-false size (length (history_literals m history)) e)))) (λ v c. c.0) (λ v f. f)
      by true e =
          let usable = literals_usable top_circuit says.ready (signals_moved (start_of m) top_circuit says.from (signals_now m) (placed_now m is)) history in
          let g = at_most_gates-gives (history_literals m history) size top_circuit says.ready.truth says.ready.least usable in
          let built = says_built (gates_place m) top_circuit (AtTop us) Knows (at_most_gates (history_literals m history) size top_circuit) IsLiteral _ says g in
          says_same (gates_place m) _ _ _ _ Knows
          (says_asserted (gates_place m) _ (AtTop us) _ (Few us size) _ g.shape
          (λ v w below few. subst (λ (x : List Value). failed_count history x ≤ size) (copy_same m is false 2 (input_place m) us (start_of m) (placed_now m is) v w below) few) built
          (λ v sat.
          let told = built.sound v sat in
          let count = tells_count (Now m is us v) v history (history_literals m history) (history_tells us v h told.0.0.0.1 history bits) in
          let value = told.1.1 ∙ ap (λ k. leb k size) count in
          ((λ q. leb-true (failed_count history (Now m is us v)) size (sym value ∙ q)), (λ q. value ∙ le-leb (failed_count history (Now m is us v)) size q))))
          (λ v c. c) (λ v c. c) (λ v f. f.0)

  bad_means : (sets : List (List ℕ)) (size : ℕ) (s : List Bool) → IsBad (system_of m) (bad_list m top history sets size) s → (v : List Value) × IsBadMoment m top history sets size v × (state_of m v ≡ s)
  bad_means sets size s h =
      let us = defaults m is in
      let says = size_says us.0 us.1 size in
      let a = h.1.0 in
      let front = Satisfies-front a (size_gates (history_literals m history) size top_circuit).clauses (map (unlisted_clause (history_literals m history)) sets) h.1.2 in
      let back = Satisfies-back a (size_gates (history_literals m history) size top_circuit).clauses (map (unlisted_clause (history_literals m history)) sets) h.1.2 in
      let one_true = says.ready.truth a front in
      let told = (says.sound a front).0 in
      let inside = told.0.0.0.1 in
      let x = Now m is us.0 a in
      let hx = copy_inside m is false 2 (input_place m) us.0 a us.1 inside in (
        x,
        record {
          moment = record { domains = hx; holds = told.0.0.1 };
          reaches = told.0.1.0;
          small = told.1;
          unlisted = sets_to x a one_true history (history_literals m history) (history_tells us.0 a us.1 inside history bits) sets back;
        },
        agrees_one a 2 (state_of m x) s (states_long m is x hx ∙ sym h.0) (now_bits m is us.0 a us.1 one_true inside) h.1.1,
      )

  bad_comes : (sets : List (List ℕ)) (size : ℕ) (v : List Value) → IsBadMoment m top history sets size v → IsBad (system_of m) (bad_list m top history sets size) (state_of m v)
  bad_comes sets size x k =
      let h = k.moment.domains in
      let says = size_says x h size in
      let a = with_bits (state_of m x ++ ([] ++ [])) in
      let one_true = with_bits_truth (state_of m x ++ ([] ++ [])) in
      let bits_x = bits_first (state_of m x) [] [] in
      let reads = now_reads m is x a h one_true bits_x in
      let back = sym reads.0 in
      let made =
      says.complete a one_true (
        (
          ((tt, reads.1), subst (λ (z : List Value). Each (Holds m z z) m.at_each) back k.moment.holds),
          (subst (λ (z : List Value). FlatMay m z z top (truth true)) back k.reaches, tt),
        ),
        subst (λ (z : List Value). failed_count history z ≤ size) back k.small,
      ) in
      let w = made.0 in
      let told = says.sound w made.2 in
      let inside = told.0.0.0.0.1 in
      let same : Now m is x w ≡ x = sym (copy_same m is false 2 (input_place m) x (start_of m) (placed_now m is) a w made.1) ∙ reads.0 in
      let tells = subst (λ (z : List Value). Tells z w history (history_literals m history)) same (history_tells x w h inside history bits) in
      let long = states_long m is x h in (
        long,
        (
          w,
          agrees_same (gates_place m) a w made.1 2 (state_of m x) (omega (arith, long)) bits_x,
          Satisfies-append w (size_gates (history_literals m history) size top_circuit).clauses (map (unlisted_clause (history_literals m history)) sets) made.2
              (sets_from x w (says.ready.truth w made.2) history (history_literals m history) tells sets k.unlisted),
        ),
      )

  -- a bad moment is one with all inputs
  bad_free : (sets : List (List ℕ)) (size : ℕ) (v w : List Value) → AreInDomains m.variables w → state_of m v ≡ state_of m w → IsBadMoment m top history sets size v → IsBadMoment m top history sets size w
  bad_free sets size v w hw e k =
      let hv = k.moment.domains in
      record {
        moment = moment_free m is v w hv hw e k.moment;
        reaches = top_free m is v w hv hw e top fit.no_input k.reaches;
        small = subst (λ n. n ≤ size) (count_free m is v w hv hw e history bits) k.small;
        unlisted = sets_free m is v w hv hw e history bits sets k.unlisted;
      }

  -- the list of bad states means them
  pub bad_list_of : (sets : List (List ℕ)) (size : ℕ) → IsBadListOf m (system_of m) (state_of m) top history sets size (bad_list m top history sets size)
  bad_list_of sets size = record { bad_means = bad_means sets size; bad_comes = bad_comes sets size; bad_free = bad_free sets size }
