-- The lists of states use the bits of the state now, the constant and their gates' variables.
use Rattle.std.proofs.Common.{◌≡◌, ◌⊎◌, inl, inr, ℕ, zero, suc, ◌+◌, ◌-◌, ◌<◌, ◌≤◌, nat_lt, Bool, true, false, not, cond, ◌&&◌, ◌++◌, ℤ, pos, negsuc, List, [], ◌∷◌, length, map, Some, refl, sym, ◌∙◌, ap, subst, arith}
use Rattle.std.proofs.lemmas.List.Sums.{sum_by-cons}
use Rattle.std.proofs.lemmas.List.Elements.{All-from_recursion}
use Rattle.std.specs.Prelude.{slice_get, sum_by, All}
use Rattle.std.specs.List.{AllByRecursion}
use Rattle.smv_language.specs.declared.program.Member.{Member}
use Rattle.smv_language.specs.declared.program.Member.TheVariants as member
use Rattle.smv_language.specs.Language.{Tree, trees_from, DeclaredTree, boolean, range, members, instance, Role, state, input, frozen_role, Each, FlatLeaf, flat_variable, flat_symbol, flat_definition, FlatVariable, FlatFormula, FlatModel}
use Rattle.smv_type_laws.specs.DeclaredKinds.{judged_declared}
use Rattle.smv_type_laws.specs.Costs.{state_bits, declared_width, role_width, width_of}
use Rattle.sat_clauses.specs.Literal.{Literal}
use Rattle.sat_circuits.specs.Circuit.{Circuit, after, fold_gates}
use Rattle.sat_circuits.specs.Gates.{constant_lit}
use Rattle.sat_circuits.specs.Counts.{at_most_gates}
use Rattle.sat_circuits.specs.Numbers.{number_word}
use Rattle.sat_encoding_laws.specs.Widths.{kind_width, symbol_width}
use Rattle.sat_encoding_laws.specs.Signals.{Signal, bit, literal_in, as_bit}
use Rattle.sat_encoding_laws.specs.Expressions.{its_value, whether_has, encoded}
use Rattle.sat_encoding_laws.specs.ReadNames.{Reads, ReadsTrees}
use Rattle.sat_encoding_laws.specs.Inputs.{is_input, is_input_variable, reads_input}
use Rattle.sat_encoding_laws.specs.Layout.{state_width, input_width, literals_from, with_sign, variable_signal, place_of, variable_signals, signals_now, input_place, gates_place}
use Rattle.sat_encoding_laws.specs.Lists.{signal_or_false, leaf_signal, Copy, copy_of, names_of, definition_gates, definitions_gates, asserted, asserted_signal, formulas_gates, member_tree, type_tree, type_gates, domains_gates, start_of, state_circuit, history_literals, literal_at, unlisted_clause, size_gates}
use Rattle.sat_encoding_laws.specs.Encodable.{IsListedType, IsEncodable, IsFitTop, IsStateBoolean}
use Rattle.sat_encoding_laws.specs.Variables.{IsOfState, UseStates, ListsUseStates}
use Rattle.sat_encoding_laws.proofs.CleanGates.{IsOpen, CleanLiteral, CleanWord, IsClean, Clean, clean_after, clean_fit, clean_number, clean_append, clean_at_most}
use Rattle.sat_encoding_laws.proofs.CleanExpressions.{CleanSignal, CleanNames, clean_encoded, clean_bit, clean_literal}
use Rattle.sat_encoding_laws.proofs.TypeMeans.{IsNumbers, numbers_of}
use Rattle.sat_encoding_laws.proofs.VariableMeans.{numbers_signal, numbers_width}
use Rattle.sat_encoding_laws.proofs.NameMeans.{KnownTo, left_out, reads_kept, definition_reads, StandFrom, stand_here, stand_later}
use Rattle.sat_encoding_laws.proofs.Readings.{IsRightType}
use Rattle.sat_encoding_laws.proofs.MomentMeans.{model_types}
use Rattle.base_values.proofs.ListLaws.{all_more, all_joined}

module _ (m : FlatModel) (is : IsEncodable m) where
  states_open : IsOpen (gates_place m) (IsOfState m)
  states_open = record { one = inl refl; gates = λ x h. inr (inr h) }

  abbrev CleanHere : Signal → Type 0
  CleanHere e = CleanSignal (gates_place m) (IsOfState m) states_open e

  abbrev LiteralHere : Literal → Type 0
  LiteralHere l = CleanLiteral (gates_place m) (IsOfState m) states_open l

  abbrev WordHere : List Literal → Type 0
  WordHere w = CleanWord (gates_place m) (IsOfState m) states_open w

  abbrev CircuitHere : Circuit → Type 0
  CircuitHere s = IsClean (gates_place m) (IsOfState m) states_open s

  abbrev BuiltHere : {B : Type 0} → (B → Type 0) → Circuit × B → Type 0
  BuiltHere P r = Clean (gates_place m) (IsOfState m) states_open P r

  -- ---- variables

  bits_clean : (k p : ℕ) → 2 ≤ p → p + k ≤ state_bits m + 2 → WordHere (literals_from k p)
  bits_clean zero p h g = tt
  bits_clean (suc k) p h g = (inr (inl (h, omega (arith, g))), bits_clean k (p + 1) (omega (arith, h)) (omega (arith, g)))

  signed_clean : (lo : ℤ) (w : List Literal) → WordHere w → WordHere (with_sign lo w)
  signed_clean (pos a) w h = clean_append (gates_place m) (IsOfState m) states_open w (constant_lit false ∷ []) h (states_open.one, tt)
  signed_clean (negsuc a) w h = h

  type_clean : (d : DeclaredTree) → (judged_declared d).broken ≡ [] → IsListedType m.symbols d → (p : ℕ) → 2 ≤ p → p + declared_width m.symbols d ≤ state_bits m + 2 → CleanHere (variable_signal m.symbols d p)
  type_clean d right listed p h g = by d (numbers_of m.symbols is.symbols d right listed) g
    where
      by : (d : DeclaredTree) → (d ≡ boolean) ⊎ IsNumbers m.symbols d → p + declared_width m.symbols d ≤ state_bits m + 2 → CleanHere (variable_signal m.symbols d p)
      by d (inl b) g =
          let here : p + declared_width m.symbols boolean ≤ state_bits m + 2 = subst (λ (t : DeclaredTree). p + declared_width m.symbols t ≤ state_bits m + 2) b g in
          let less : p < state_bits m + 2 = omega (arith, here) in
          subst (λ (t : DeclaredTree). CleanHere (variable_signal m.symbols t p)) (sym b) (inr (inl (h, less)))
      by d (inr k) g =
          let width = numbers_width m.symbols d k in
          subst CleanHere (sym (numbers_signal m.symbols d k p))
          (clean_fit (gates_place m) (IsOfState m) states_open (kind_width m.symbols (judged_declared d).kind) (with_sign k.interval.lo (literals_from (width_of k.interval) p))
          (signed_clean k.interval.lo (literals_from (width_of k.interval) p) (bits_clean (width_of k.interval) p h (omega (arith, g, width)))))

  -- a variable of the state stands among the state's bits
  state_place : (r : Role) (p q w : ℕ) → (is_input r && not false) ≡ false → (place_of r p q ≡ p) × (role_width r w ≡ w)
  state_place state p q w h = (refl, refl)
  state_place frozen_role p q w h = (refl, refl)
  state_place input p q w h = cc

  one_clean : (x : FlatVariable) → IsRightType m.symbols x → (p q : ℕ) → 2 ≤ p → p + state_width m.symbols x ≤ state_bits m + 2 → (is_input x.role && not false) ≡ false → CleanHere (variable_signal m.symbols x.declared (place_of x.role p q))
  one_clean x right p q h g kept =
      let at = state_place x.role p q (declared_width m.symbols x.declared) kept in
      subst (λ (i : ℕ). CleanHere (variable_signal m.symbols x.declared i)) (sym at.0) (type_clean x.declared right.0 right.1 p h (omega (arith, g, at.1)))

  variables_clean : (xs : List FlatVariable) → Each (IsRightType m.symbols) xs → (p q : ℕ) → 2 ≤ p → p + sum_by (state_width m.symbols) xs ≤ state_bits m + 2 → (i : ℕ) → (is_input_variable (slice_get xs i) && not false) ≡ false
      → CleanHere (signal_or_false (slice_get (variable_signals m.symbols p q xs) i))
  variables_clean [] right p q h g i kept = states_open.one
  variables_clean (x ∷ xs) right p q h g zero kept = let sum = sum_by-cons (state_width m.symbols) x xs in one_clean x right.0 p q h (omega (arith, g, sum)) kept
  variables_clean (x ∷ xs) right p q h g (suc i) kept =
      let sum = sum_by-cons (state_width m.symbols) x xs in
      variables_clean xs right.1 (p + state_width m.symbols x) (q + input_width m.symbols x) (omega (arith, h)) (omega (arith, g, sum)) i kept

  now_clean : (i : ℕ) → (is_input_variable (slice_get m.variables i) && not false) ≡ false → CleanHere (signal_or_false (slice_get (signals_now m) i))
  now_clean i kept = variables_clean m.variables (model_types m is) 2 (input_place m) (omega arith) (omega arith) i kept

  listed_clean : (ds : List Signal) → AllByRecursion CleanHere ds → (i : ℕ) → CleanHere (signal_or_false (slice_get ds i))
  listed_clean [] h i = states_open.one
  listed_clean (d ∷ ds) h zero = h.0
  listed_clean (d ∷ ds) h (suc i) = listed_clean ds h.1 i

  -- the names of a copy that are not left out
  leaf_clean : (ds : List Signal) → AllByRecursion CleanHere ds → (l : FlatLeaf) → left_out m false l ≡ false → CleanHere (leaf_signal m.symbols (signals_now m) ds l)
  leaf_clean ds h (flat_variable i) kept = now_clean i kept
  leaf_clean ds h (flat_symbol i) kept = clean_fit (gates_place m) (IsOfState m) states_open (symbol_width m.symbols) (number_word (pos i)) (clean_number (gates_place m) (IsOfState m) states_open (pos i))
  leaf_clean ds h (flat_definition i) kept = listed_clean ds h i

  copy_clean : (good : FlatLeaf → Type 0) (ds : List Signal) → AllByRecursion CleanHere ds
      → CleanNames (gates_place m) (IsOfState m) states_open FlatLeaf good (names_of m (copy_of (signals_now m) ds) (copy_of (signals_now m) ds)) (left_out m false) (left_out m false)
  copy_clean good ds h = record { now = λ l g kept. leaf_clean ds h l kept; next = λ l g kept. leaf_clean ds h l kept }

  -- ---- definitions

  abbrev SignalsHere : List Signal → Type 0
  SignalsHere ds = AllByRecursion CleanHere ds

  definition_clean : (k : ℕ) (d : FlatFormula) → slice_get m.definitions k ≡ Some d → (ds : List Signal) (s : Circuit) → CircuitHere s → SignalsHere ds → BuiltHere SignalsHere (definition_gates m (signals_now m) false d ds s)
  definition_clean k d at ds s h hd = by (reads_input m d.value && not false) refl
    where
      by : (b : Bool) → (reads_input m d.value && not false) ≡ b
          → BuiltHere SignalsHere (cond b (s, ds ++ bit (constant_lit false) ∷ [])
          (after (encoded (names_of m (copy_of (signals_now m) ds) (copy_of (signals_now m) ds)) its_value d.value s) (λ e t. (t, ds ++ e ∷ []))))
      by true out = record { circuit = h; given = all_joined CleanHere ds (bit (constant_lit false) ∷ []) hd (states_open.one, tt) }
      by false out =
          clean_after (gates_place m) (IsOfState m) states_open CleanHere SignalsHere _ _
          (clean_encoded (gates_place m) (IsOfState m) states_open FlatLeaf (KnownTo m is k) (names_of m (copy_of (signals_now m) ds) (copy_of (signals_now m) ds)) (left_out m false) (left_out m false)
          (copy_clean (KnownTo m is k) ds hd) its_value tt d.value (definition_reads m is false k d at out) s h)
          (λ e t ht he. record { circuit = ht; given = all_joined CleanHere ds (e ∷ []) hd (he, tt) })

  definitions_clean : (ds : List FlatFormula) (k : ℕ) → StandFrom m is k ds → (done : List Signal) (s : Circuit) → CircuitHere s → SignalsHere done → BuiltHere SignalsHere (fold_gates (definition_gates m (signals_now m) false) ds done s)
  unfolding fold_gates
  definitions_clean [] k stand done s h hd = record { circuit = h; given = hd }
  definitions_clean (d ∷ ds) k stand done s h hd =
      clean_after (gates_place m) (IsOfState m) states_open SignalsHere SignalsHere _ _ (definition_clean k d (stand_here m is k d ds stand) done s h hd)
      (λ es t ht he. definitions_clean ds (suc k) (stand_later m is k d ds stand) es t ht he)

  -- ---- assertions

  asserted_clean : (r : Circuit × Signal) → BuiltHere CleanHere r → CircuitHere (asserted_signal r)
  unfolding asserted
  asserted_clean r c =
      record {
        clauses = all_joined WordHere r.0.clauses ((literal_in r.1 ∷ []) ∷ []) c.circuit.clauses ((clean_literal (gates_place m) (IsOfState m) states_open r.1 c.given, tt), tt);
        from = c.circuit.from;
      }

  formulas_clean : (ds : List Signal) → SignalsHere ds → (fs : List FlatFormula) → Each (λ f. Reads (KnownTo m is (length m.definitions)) (left_out m false) (left_out m false) f.value) fs → (s : Circuit) → CircuitHere s
      → CircuitHere (formulas_gates (names_of m (copy_of (signals_now m) ds) (copy_of (signals_now m) ds)) fs s)
  formulas_clean ds hd [] r s h = h
  formulas_clean ds hd (f ∷ fs) r s h =
      formulas_clean ds hd fs r.1 _
      (asserted_clean _ (clean_encoded (gates_place m) (IsOfState m) states_open FlatLeaf (KnownTo m is (length m.definitions)) (names_of m (copy_of (signals_now m) ds) (copy_of (signals_now m) ds)) (left_out m false) (left_out m false)
      (copy_clean (KnownTo m is (length m.definitions)) ds hd) its_value tt f.value r.0 s h))

  abbrev AnyName : FlatLeaf → Type 0
  AnyName l = Unit {0}

  members_read : (ms : List Member) → ReadsTrees AnyName (left_out m false) (left_out m false) (trees_from (map (member_tree m.symbols) ms))
  members_read [] = tt
  members_read (member.Number z ∷ ms) = (tt, members_read ms)
  members_read (member.Symbol x ∷ ms) = ((tt, refl), members_read ms)

  type_read : (d : DeclaredTree) → Reads AnyName (left_out m false) (left_out m false) (type_tree m.symbols d)
  type_read boolean = (tt, (tt, tt))
  type_read (range lo hi) = tt
  type_read (members ms) = members_read ms
  type_read (instance f actuals) = tt

  type_gates_clean : (ds : List Signal) → SignalsHere ds → (d : DeclaredTree) (e : Signal) → CleanHere e → (s : Circuit) → CircuitHere s
      → CircuitHere (type_gates m (names_of m (copy_of (signals_now m) ds) (copy_of (signals_now m) ds)) d e s)
  type_gates_clean ds hd d e he s h = by d
    where
      gate : (d : DeclaredTree) → CircuitHere (asserted_signal (encoded (names_of m (copy_of (signals_now m) ds) (copy_of (signals_now m) ds)) (whether_has e) (type_tree m.symbols d) s))
      gate d =
          asserted_clean _ (clean_encoded (gates_place m) (IsOfState m) states_open FlatLeaf AnyName (names_of m (copy_of (signals_now m) ds) (copy_of (signals_now m) ds)) (left_out m false) (left_out m false)
          (copy_clean AnyName ds hd) (whether_has e) he (type_tree m.symbols d) (type_read d) s h)

      by : (d : DeclaredTree) → CircuitHere (type_gates m (names_of m (copy_of (signals_now m) ds) (copy_of (signals_now m) ds)) d e s)
      by boolean = h
      by (range lo hi) = gate (range lo hi)
      by (members ms) = gate (members ms)
      by (instance f actuals) = gate (instance f actuals)

  domains_clean : (ds : List Signal) → SignalsHere ds → (xs : List FlatVariable) → Each (IsRightType m.symbols) xs → (p q : ℕ) → 2 ≤ p → p + sum_by (state_width m.symbols) xs ≤ state_bits m + 2 → (s : Circuit) → CircuitHere s
      → CircuitHere (domains_gates m (names_of m (copy_of (signals_now m) ds) (copy_of (signals_now m) ds)) false xs (variable_signals m.symbols p q xs) s)
  domains_clean ds hd [] right p q h g s hs = hs
  domains_clean ds hd (x ∷ xs) right p q h g s hs =
      let sum = sum_by-cons (state_width m.symbols) x xs in
      domains_clean ds hd xs right.1 (p + state_width m.symbols x) (q + input_width m.symbols x) (omega (arith, h)) (omega (arith, g, sum)) _
      (by (is_input x.role && not false) (λ kept. one_clean x right.0 p q h (omega (arith, g, sum)) kept))
    where
      by : (b : Bool) → (b ≡ false → CleanHere (variable_signal m.symbols x.declared (place_of x.role p q)))
          → CircuitHere (cond b s (type_gates m (names_of m (copy_of (signals_now m) ds) (copy_of (signals_now m) ds)) x.declared (variable_signal m.symbols x.declared (place_of x.role p q)) s))
      by true f = hs
      by false f = type_gates_clean ds hd x.declared _ (f refl) s hs

  -- ---- the lists

  start_clean : CircuitHere (start_of m)
  start_clean = record { clauses = ((inl refl, tt), tt); from = omega arith }

  -- the definitions of the copy now, and the circuit of the states
  record StatesClean : Type 0 where
    circuit : CircuitHere (state_circuit m).0
    definitions : SignalsHere (state_circuit m).1.definitions
    copy : (state_circuit m).1 ≡ copy_of (signals_now m) (state_circuit m).1.definitions

  states_clean : StatesClean
  unfolding after
  states_clean =
      let d = definitions_clean m.definitions 0 (λ j d e. let at : j ≡ 0 + j = omega arith in ap (slice_get m.definitions) (sym at) ∙ e) [] (start_of m) start_clean tt in
      let ds = (definitions_gates m (signals_now m) false (start_of m)).1 in
      let t = (definitions_gates m (signals_now m) false (start_of m)).0 in
      record {
        circuit =
            formulas_clean ds d.given m.at_each (reads_kept m is false m.at_each is.closed.at_each is.at_each) _
            (domains_clean ds d.given m.variables (model_types m is) 2 (input_place m) (omega arith) (omega arith) t d.circuit);
        definitions = d.given;
        copy = refl;
      }

  first_clean : CircuitHere (formulas_gates (names_of m (state_circuit m).1 (state_circuit m).1) m.at_first (state_circuit m).0)
  first_clean =
      let c = states_clean in
      subst (λ (x : Copy). CircuitHere (formulas_gates (names_of m x x) m.at_first (state_circuit m).0)) (sym c.copy)
      (formulas_clean (state_circuit m).1.definitions c.definitions m.at_first (reads_kept m is false m.at_first is.closed.at_first is.at_first) (state_circuit m).0 c.circuit)

  top_clean : (top : Tree FlatLeaf) → IsFitTop m top → CircuitHere (asserted_signal (encoded (names_of m (state_circuit m).1 (state_circuit m).1) its_value top (state_circuit m).0))
  top_clean top fit =
      let c = states_clean in
      subst (λ (x : Copy). CircuitHere (asserted_signal (encoded (names_of m x x) its_value top (state_circuit m).0))) (sym c.copy)
      (formulas_clean (state_circuit m).1.definitions c.definitions (record { value = top; item = 0; number = 0 } ∷ [])
      (reads_kept m is false (record { value = top; item = 0; number = 0 } ∷ []) (fit.own, tt) (fit.no_input, tt)) (state_circuit m).0 c.circuit)

  history_clean : (hs : List ℕ) → Each (IsStateBoolean m) hs → WordHere (history_literals m hs)
  history_clean [] h = tt
  history_clean (i ∷ hs) h =
      let kept : (is_input_variable (slice_get m.variables i) && not false) ≡ false = (λ j. is_input_variable (h.0.is_variable j) && not false) ∙ (λ j. h.0.is_state j && not false) in
      (clean_literal (gates_place m) (IsOfState m) states_open _ (now_clean i kept), history_clean hs h.1)

  literal_at_clean : (ls : List Literal) → WordHere ls → (i : ℕ) → LiteralHere (literal_at ls i)
  literal_at_clean [] h i = states_open.one
  literal_at_clean (l ∷ ls) h zero = h.0
  literal_at_clean (l ∷ ls) h (suc i) = literal_at_clean ls h.1 i

  set_clean : (ls : List Literal) → WordHere ls → (set : List ℕ) → WordHere (unlisted_clause ls set)
  set_clean ls h [] = tt
  set_clean ls h (n ∷ set) = (literal_at_clean ls h (n - 1), set_clean ls h set)

  sets_clean : (ls : List Literal) → WordHere ls → (sets : List (List ℕ)) → AllByRecursion WordHere (map (unlisted_clause ls) sets)
  sets_clean ls h [] = tt
  sets_clean ls h (set ∷ sets) = (set_clean ls h set, sets_clean ls h sets)

  size_clean : (ls : List Literal) → WordHere ls → (size : ℕ) (s : Circuit) → CircuitHere s → CircuitHere (size_gates ls size s)
  size_clean ls h size s hs = by (nat_lt size (length ls))
    where
      by : (b : Bool) → CircuitHere (cond b (asserted_signal (as_bit (at_most_gates ls size s))) s)
      by true = asserted_clean _ (clean_bit (gates_place m) (IsOfState m) states_open _ (clean_at_most (gates_place m) (IsOfState m) states_open ls size s hs h))
      by false = hs

  as_all : (cs : List (List Literal)) → AllByRecursion WordHere cs → UseStates m cs
  as_all cs h =
      All-from_recursion (All (λ (l : Literal). IsOfState m l.var)) cs
      (all_more WordHere (All (λ (l : Literal). IsOfState m l.var)) (λ w k. All-from_recursion (λ (l : Literal). IsOfState m l.var) w k) cs h)

pub lists_use_states : ListsUseStates
lists_use_states m is = (
  as_all m is _ (first_clean m is).clauses,
  as_all m is _ (states_clean m is).circuit.clauses,
  (λ top history sets size fit bits.
      let ls = history_literals m history in
      let hl = history_clean m is history bits in
      as_all m is _ (all_joined (WordHere m is) _ (map (unlisted_clause ls) sets) (size_clean m is ls hl size _ (top_clean m is top fit)).clauses (sets_clean m is ls hl sets))),
)
