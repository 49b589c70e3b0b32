-- How many variables the lists of a model take.
use Rattle.std.proofs.Common.{◌≡◌, ◌⊎◌, inl, inr, ℕ, zero, suc, ◌+◌, ◌-◌, ◌*◌, ◌/◌, ◌<◌, ◌≤◌, ◌^◌, nat_eq, nat_lt, Bool, true, false, not, cond, ◌&&◌, ◌++◌, ℤ, pos, negsuc, List, [], ◌∷◌, length, map, Option, Some, None, refl, sym, ap, subst, arith}
use Rattle.std.proofs.lemmas.List.Sums.{sum_by-cons}
use Rattle.std.specs.Prelude.{slice_get, sum_by, max}
use Rattle.smv_language.specs.declared.program.Member.{Member}
use Rattle.smv_language.specs.declared.program.Member.TheVariants as member
use Rattle.smv_language.specs.Language.{Tree, trees_from, Text, DeclaredTree, boolean, range, members, instance, Each, Role, state, input, frozen_role, FlatLeaf, flat_variable, flat_symbol, flat_definition, FlatVariable, FlatFormula, FlatModel}
use Rattle.smv_type_laws.specs.Intervals.{Interval}
use Rattle.smv_type_laws.specs.ExpressionKinds.{Class, truth_class, number_class, symbol_class, hull_of}
use Rattle.smv_type_laws.specs.DeclaredKinds.{judged_declared}
use Rattle.smv_type_laws.specs.Costs.{digits_in, digits_of, digits_above, cost_of, trees_cost, declared_cost, width_of, width_in, declared_width, member_number, number_kind, formulas_cost, model_cost, state_bits}
use Rattle.smv_type_laws.specs.Models.{judged_in}
use Rattle.sat_clauses.specs.Literal.{Literal}
use Rattle.sat_clauses.specs.Models.{IsBelow, ClauseBelow, ClausesBelow}
use Rattle.sat_clauses.proofs.ModelLemmas.{Satisfies-front}
use Rattle.sat_circuits.specs.Circuit.{Circuit, after, fold_gates}
use Rattle.sat_circuits.specs.Gates.{constant_lit}
use Rattle.sat_circuits.specs.Numbers.{number_word}
use Rattle.sat_circuits.proofs.WordMeans.{length-fit}
use Rattle.sat_encoding_laws.specs.Widths.{digits_beside_sign, word_width, symbol_interval, symbol_width, width_by, kind_width}
use Rattle.sat_encoding_laws.specs.Signals.{Signal, bit, literal_in, as_bit}
use Rattle.sat_encoding_laws.specs.Expressions.{its_value, whether_has, encoded}
use Rattle.sat_encoding_laws.specs.Meanings.{IsSignal, IsReady}
use Rattle.sat_encoding_laws.specs.Inputs.{is_input, reads_input}
use Rattle.sat_encoding_laws.specs.Layout.{literals_from, with_sign, state_width, width_as_input, input_width, variable_signal, place_of, variable_signals, signals_now, signals_next, input_place, next_place, gates_place, input_bits}
use Rattle.sat_encoding_laws.specs.Lists.{signal_or_false, leaf_signal, Copy, copy_of, names_of, definition_gates, definitions_gates, asserted, asserted_signal, formulas_gates, member_tree, type_tree, type_gates, domains_gates, copy_gates, start_of, state_circuit, first_circuit, step_circuit, state_list, first_list, step_list, bad_list, history_literals, literal_at, unlisted_clause, size_gates}
use Rattle.sat_encoding_laws.specs.Encodable.{IsListedType, IsEncodable, IsFitTop, IsStateBoolean}
use Rattle.sat_encoding_laws.specs.Variables.{lists_room, bad_room, AreSmallLists, ListsAreSmall, most_asked_cost}
use Rattle.sat_encoding_laws.proofs.ExpressionMeans.{some_width}
use Rattle.sat_encoding_laws.proofs.Parts.{ready_later, literal_below}
use Rattle.sat_encoding_laws.proofs.TypeMeans.{IsNumbers, numbers_of}
use Rattle.sat_encoding_laws.proofs.VariableMeans.{numbers_signal}
use Rattle.sat_encoding_laws.proofs.NameMeans.{signal_at_usable, AreSignals, signals_later, leaf_usable}
use Rattle.sat_encoding_laws.proofs.Readings.{IsRightType}
use Rattle.sat_encoding_laws.proofs.MomentMeans.{signals_moved, model_types}
use Rattle.sat_encoding_laws.proofs.SystemMeans.{placed_now, placed_next, start_ready, defaults, state_says, first_says, step_says}
use Rattle.sat_encoding_laws.proofs.BadMeans.{size_says}
use Rattle.sat_circuits.specs.Counts.{at_most_gates}
use Rattle.sat_circuits.proofs.CountMeans.{at_most_gates-means}
use Rattle.sat_circuits.specs.Meaning.{AllBelow}
use Rattle.sat_circuits.proofs.Extension.{AllBelow-more, ClausesBelow-from, ClausesBelow-more}
use Rattle.std.proofs.lemmas.List.Elements.{All-append}
use Rattle.std.proofs.lemmas.List.{length-map}
use Rattle.std.proofs.lemmas.Bool.{ltb-false, or_parts as both_false}
use Rattle.std.proofs.Math.Nat.{mul-le-mul_left}
use Rattle.std.specs.List.{AllByRecursion}
use Rattle.base_values.specs.declared.limits.TheConstants.{MOST_FAULTS, MOST_BITS, MOST_COST}
use Rattle.sat_encoding_laws.proofs.SizeExpressions.{IsShort, Takes, AreShortNames, encoded_takes}
use Rattle.smv_flat_laws.proofs.Conditions.{each_join}

-- ---- short words

pub digits_most : (most n : ℕ) → digits_in most n ≤ most
unfolding digits_in
digits_most zero n = omega arith
digits_most (suc most) n = by (nat_eq n 0) (digits_most most (n / 2))
  where
    by : (b : Bool) → digits_in most (n / 2) ≤ most → elim b as (λ c. ℕ) [ true ↦ 0 | false ↦ suc (digits_in most (n / 2)) ] ≤ suc most
    by true h = omega arith
    by false h = omega (arith, h)

end_most : (z : ℤ) → digits_beside_sign z ≤ 64
end_most (pos n) = digits_most 64 n
end_most (negsuc n) = digits_most 64 n

width_most : (i : Interval) → word_width i ≤ 66
width_most i = let a = end_most i.lo in let b = end_most i.hi in omega (arith, a, b)

kind_most : (symbols : List Text) (c : Class) (i : Option Interval) → width_by symbols c i ≤ 66
kind_most symbols number_class (Some i) = width_most i
kind_most symbols number_class None = width_most (symbol_interval symbols)
kind_most symbols truth_class i = width_most (symbol_interval symbols)
kind_most symbols symbol_class i = width_most (symbol_interval symbols)

above_most : (z : ℤ) → digits_above z ≤ 64
above_most (pos n) = digits_most 64 n
above_most (negsuc n) = omega arith

interval_most : (i : Interval) → width_of i ≤ 65
interval_most i = by i.lo
  where
    by : (z : ℤ) → elim z as (λ c. ℕ) [ pos n ↦ max 1 (digits_above i.hi) | negsuc n ↦ suc (max (digits_of n) (digits_above i.hi)) ] ≤ 65
    by (pos n) = let a = above_most i.hi in omega (arith, a)
    by (negsuc n) = let a = above_most i.hi in let b = digits_most 64 n in omega (arith, a, b)

known_most : (o : Option Interval) → width_in o ≤ 65
known_most None = omega arith
known_most (Some i) = interval_most i

declared_most : (symbols : List Text) (d : DeclaredTree) → declared_width symbols d ≤ 65
declared_most symbols boolean = omega arith
declared_most symbols (range lo hi) = interval_most (record { lo = lo; hi = hi })
declared_most symbols (members ms) = known_most (hull_of (map (λ m. number_kind (member_number symbols m)) ms))
declared_most symbols (instance m actuals) = omega arith

input_most : (symbols : List Text) (x : FlatVariable) → input_width symbols x ≤ 65
input_most symbols x = by x.role
  where
    by : (role : Role) → width_as_input role (declared_width symbols x.declared) ≤ 65
    by state = omega arith
    by frozen_role = omega arith
    by input = declared_most symbols x.declared

-- the bits of inputs are at most 65 for each variable
pub inputs_most : (symbols : List Text) (xs : List FlatVariable) → sum_by (input_width symbols) xs ≤ 65 * length xs
inputs_most symbols [] = omega arith
inputs_most symbols (x ∷ xs) =
    let one = input_most symbols x in
    let more = inputs_most symbols xs in
    let sum = sum_by-cons (input_width symbols) x xs in
    omega (arith, one, more, sum)

abbrev AreShort : List Signal → Type 0
AreShort es = Each IsShort es

short_at : (es : List Signal) → AreShort es → (i : ℕ) → IsShort (signal_or_false (slice_get es i))
short_at [] h i = tt
short_at (e ∷ es) h zero = h.0
short_at (e ∷ es) h (suc i) = short_at es h.1 i

leaf_short : (m : FlatModel) (vs ds : List Signal) → AreShort vs → AreShort ds → (l : FlatLeaf) → IsShort (leaf_signal m.symbols vs ds l)
leaf_short m vs ds hv hd (flat_variable i) = short_at vs hv i
leaf_short m vs ds hv hd (flat_symbol i) = let w = kind_most m.symbols symbol_class None in omega (arith, length-fit (symbol_width m.symbols) (number_word (pos i)), w)
leaf_short m vs ds hv hd (flat_definition i) = short_at ds hd i

-- a copy's signals, short and usable
record IsShortCopy (s : Circuit) (c : Copy) : Type 0 where
  variables : AreSignals s c.variables
  definitions : AreSignals s c.definitions
  short_variables : AreShort c.variables
  short_definitions : AreShort c.definitions

copy_moved : (s t : Circuit) → s.free ≤ t.free → (c : Copy) → IsShortCopy s c → IsShortCopy t c
copy_moved s t h c k = record {
  variables = signals_moved s t h c.variables k.variables;
  definitions = signals_moved s t h c.definitions k.definitions;
  short_variables = k.short_variables;
  short_definitions = k.short_definitions;
}

short_names : (m : FlatModel) (s : Circuit) → IsReady s → (now next : Copy) → IsShortCopy s now → IsShortCopy s next → AreShortNames s (names_of m now next)
short_names m s ready now next a b = record {
  now = λ l. (leaf_usable m s ready now.variables now.definitions a.variables a.definitions l, leaf_short m now.variables now.definitions a.short_variables a.short_definitions l);
  next = λ l. (leaf_usable m s ready next.variables next.definitions b.variables b.definitions l, leaf_short m next.variables next.definitions b.short_variables b.short_definitions l);
  some = λ t. some_width m.symbols (judged_in m false t).kind.class (judged_in m false t).kind.interval;
  small = λ t. kind_most m.symbols (judged_in m false t).kind.class (judged_in m false t).kind.interval;
}

-- ---- assertions

asserted_ready : (r : Circuit × Signal) → IsReady r.0 → IsReady (asserted_signal r)
unfolding asserted
asserted_ready r h = record { truth = λ v k. h.truth v (Satisfies-front v r.0.clauses ((literal_in r.1 ∷ []) ∷ []) k); least = h.least }

-- from s on at most k variables are taken
record Reaches (s : Circuit) (k : ℕ) (t : Circuit) : Type 0 where
  ready : IsReady t
  grows : s.free ≤ t.free
  most : t.free ≤ s.free + k

asserted_reaches : (s : Circuit) → IsReady s → (k : ℕ) (r : Circuit × Signal) → Takes s k r → Reaches s k (asserted_signal r)
unfolding asserted
asserted_reaches s ready k r m = record { ready = asserted_ready r (ready_later s r.0 m.extends ready); grows = m.extends.counted; most = m.shape.2 }

reaches_none : (s : Circuit) (k : ℕ) → IsReady s → Reaches s k s
reaches_none s k h = record { ready = h; grows = omega arith; most = omega arith }

reaches_then : (s t u : Circuit) (j k n : ℕ) → j + k ≤ n → Reaches s j t → Reaches t k u → Reaches s n u
reaches_then s t u j k n h a b = record { ready = b.ready; grows = omega (arith, a.grows, b.grows); most = omega (arith, h, a.most, b.most) }

formulas_reach : (m : FlatModel) (now next : Copy) (fs : List FlatFormula) (s : Circuit) → IsReady s → IsShortCopy s now → IsShortCopy s next → Reaches s (1024 * formulas_cost fs) (formulas_gates (names_of m now next) fs s)
formulas_reach m now next [] s ready a b = reaches_none s _ ready
formulas_reach m now next (f ∷ fs) s ready a b =
    let first = asserted_reaches s ready _ _ (encoded_takes FlatLeaf (names_of m now next) its_value f.value s ready (short_names m s ready now next a b) tt) in
    let sum = sum_by-cons (λ (g : FlatFormula). cost_of g.value) f fs in
    reaches_then s _ _ _ _ _ (omega (arith, sum)) first (formulas_reach m now next fs _ first.ready (copy_moved s _ first.grows now a) (copy_moved s _ first.grows next b))

-- ---- domains

members_cost : (symbols : List Text) (ms : List Member) → trees_cost (trees_from (map (member_tree symbols) ms)) ≡ length ms
members_cost symbols [] = refl
members_cost symbols (member.Number n ∷ ms) = let more = members_cost symbols ms in omega (arith, more)
members_cost symbols (member.Symbol x ∷ ms) = let more = members_cost symbols ms in omega (arith, more)

type_reaches : (m : FlatModel) (c : Copy) (d : DeclaredTree) → IsListedType m.symbols d → (e : Signal) (s : Circuit) → IsReady s → IsShortCopy s c → IsSignal s e → IsShort e
    → Reaches s (2048 * declared_cost d) (type_gates m (names_of m c c) d e s)
type_reaches m c boolean l e s ready a he ge = reaches_none s _ ready
type_reaches m c (range lo hi) l e s ready a he ge =
    reaches_then s _ _ _ 0 _ (omega arith) (asserted_reaches s ready _ _ (encoded_takes FlatLeaf (names_of m c c) (whether_has e) (type_tree m.symbols (range lo hi)) s ready (short_names m s ready c c a a) (he, ge)))
    (reaches_none _ 0 (asserted_reaches s ready _ _ (encoded_takes FlatLeaf (names_of m c c) (whether_has e) (type_tree m.symbols (range lo hi)) s ready (short_names m s ready c c a a) (he, ge))).ready)
type_reaches m c (members []) l e s ready a he ge = absurd (l.0 refl)
type_reaches m c (members (k ∷ ms)) l e s ready a he ge =
    let first = asserted_reaches s ready _ _ (encoded_takes FlatLeaf (names_of m c c) (whether_has e) (type_tree m.symbols (members (k ∷ ms))) s ready (short_names m s ready c c a a) (he, ge)) in
    let cost = members_cost m.symbols (k ∷ ms) in
    reaches_then s _ _ _ 0 _ (omega (arith, cost)) first (reaches_none _ 0 first.ready)
type_reaches m c (instance f actuals) l e s ready a he ge = absurd l

variable_short : (m : FlatModel) → IsEncodable m → (x : FlatVariable) → IsRightType m.symbols x → (p : ℕ) → IsShort (variable_signal m.symbols x.declared p)
variable_short m is x right p = by x.declared (numbers_of m.symbols is.symbols x.declared right.0 right.1)
  where
    by : (d : DeclaredTree) → (d ≡ boolean) ⊎ IsNumbers m.symbols d → IsShort (variable_signal m.symbols d p)
    by d (inl b) = subst (λ (t : DeclaredTree). IsShort (variable_signal m.symbols t p)) (sym b) tt
    by d (inr k) =
        let w = kind_most m.symbols (judged_declared d).kind.class (judged_declared d).kind.interval in
        subst IsShort (sym (numbers_signal m.symbols d k p)) (omega (arith, length-fit (kind_width m.symbols (judged_declared d).kind) (with_sign k.interval.lo (literals_from (width_of k.interval) p)), w))

variables_short : (m : FlatModel) → IsEncodable m → (xs : List FlatVariable) → Each (IsRightType m.symbols) xs → (p q : ℕ) → AreShort (variable_signals m.symbols p q xs)
variables_short m is [] right p q = tt
variables_short m is (x ∷ xs) right p q = (variable_short m is x right.0 (place_of x.role p q), variables_short m is xs right.1 (p + state_width m.symbols x) (q + input_width m.symbols x))

domains_reach : (m : FlatModel) → IsEncodable m → (c : Copy) (all : Bool) (xs : List FlatVariable) → Each (IsRightType m.symbols) xs → (es : List Signal) (s : Circuit) → IsReady s → IsShortCopy s c → AreSignals s es → AreShort es
    → Reaches s (2048 * sum_by (λ (x : FlatVariable). declared_cost x.declared) xs) (domains_gates m (names_of m c c) all xs es s)
domains_reach m is c all [] right es s ready a he ge = reaches_none s _ ready
domains_reach m is c all (x ∷ xs) right [] s ready a he ge = reaches_none s _ ready
domains_reach m is c all (x ∷ xs) right (e ∷ es) s ready a he ge =
    let first = by (is_input x.role && not all) in
    let sum = sum_by-cons (λ (y : FlatVariable). declared_cost y.declared) x xs in
    reaches_then s _ _ _ _ _ (omega (arith, sum)) first (domains_reach m is c all xs right.1 es _ first.ready (copy_moved s _ first.grows c a) (signals_moved s _ first.grows es he.1) ge.1)
  where
    by : (b : Bool) → Reaches s (2048 * declared_cost x.declared) (cond b s (type_gates m (names_of m c c) x.declared e s))
    by true = reaches_none s _ ready
    by false = type_reaches m c x.declared right.0.1 e s ready a he.0 ge.0

asserted_free : (r : Circuit × Signal) → (asserted_signal r).free ≡ r.0.free
unfolding asserted
asserted_free r = refl

-- ---- definitions and copies

module _ (m : FlatModel) (is : IsEncodable m) (vs : List Signal) (all : Bool) where
  -- so many variables are taken, and the definitions are short
  record Defines (s : Circuit) (k : ℕ) (r : Circuit × List Signal) : Type 0 where
    reaches : Reaches s k r.0
    usable : AreSignals r.0 r.1
    short : AreShort r.1

  defines_after : (s : Circuit) (j k n : ℕ) → j + k ≤ n → (r : Circuit × List Signal) (f : List Signal → Circuit → Circuit × List Signal) → Defines s j r
      → ((es : List Signal) (t : Circuit) → IsReady t → s.free ≤ t.free → AreSignals t es → AreShort es → Defines t k (f es t)) → Defines s n (after r f)
  unfolding after
  defines_after s j k n h r f d more =
      let e = more r.1 r.0 d.reaches.ready d.reaches.grows d.usable d.short in
      record { reaches = reaches_then s r.0 (f r.1 r.0).0 j k n h d.reaches e.reaches; usable = e.usable; short = e.short }

  definition_defines : (d : FlatFormula) (ds : List Signal) (s : Circuit) → IsReady s → AreSignals s vs → AreShort vs → AreSignals s ds → AreShort ds → Defines s (1024 * cost_of d.value) (definition_gates m vs all d ds s)
  unfolding after
  definition_defines d ds s ready hv gv hd gd = by (reads_input m d.value && not all)
    where
      copy : IsShortCopy s (copy_of vs ds)
      copy = record { variables = hv; definitions = hd; short_variables = gv; short_definitions = gd }

      by : (b : Bool) → Defines s (1024 * cost_of d.value) (cond b (s, ds ++ bit (constant_lit false) ∷ []) (after (encoded (names_of m (copy_of vs ds) (copy_of vs ds)) its_value d.value s) (λ e t. (t, ds ++ e ∷ []))))
      by true = record { reaches = reaches_none s _ ready; usable = each_join (IsSignal s) ds _ hd (ready.least, tt); short = each_join IsShort ds _ gd (tt, tt) }
      by false =
          let g = encoded_takes FlatLeaf (names_of m (copy_of vs ds) (copy_of vs ds)) its_value d.value s ready (short_names m s ready (copy_of vs ds) (copy_of vs ds) copy copy) tt in
          record {
            reaches = record { ready = ready_later s _ g.extends ready; grows = g.extends.counted; most = omega (arith, g.shape.2) };
            usable = each_join (IsSignal _) ds _ (signals_later s _ g.extends ds hd) (g.shape.0, tt);
            short = each_join IsShort ds _ gd (g.shape.1, tt);
          }

  definitions_define : (fs : List FlatFormula) (ds : List Signal) (s : Circuit) → IsReady s → AreSignals s vs → AreShort vs → AreSignals s ds → AreShort ds
      → Defines s (1024 * formulas_cost fs) (fold_gates (definition_gates m vs all) fs ds s)
  unfolding fold_gates
  definitions_define [] ds s ready hv gv hd gd = record { reaches = reaches_none s _ ready; usable = hd; short = gd }
  definitions_define (f ∷ fs) ds s ready hv gv hd gd =
      let sum = sum_by-cons (λ (g : FlatFormula). cost_of g.value) f fs in
      defines_after s (1024 * cost_of f.value) (1024 * formulas_cost fs) _ (omega (arith, sum)) _ _ (definition_defines f ds s ready hv gv hd gd)
      (λ es t rt more he ge. definitions_define fs es t rt (signals_moved s t more vs hv) gv he ge)

-- a copy takes at most so many, and is short
record CopyReaches (s : Circuit) (k : ℕ) (r : Circuit × Copy) : Type 0 where
  reaches : Reaches s k r.0
  copy : IsShortCopy r.0 r.1

domains_cost : FlatModel → ℕ
domains_cost m = sum_by (λ (x : FlatVariable). declared_cost x.declared) m.variables

copy_room : FlatModel → ℕ
unfolding domains_cost
copy_room m = 1024 * formulas_cost m.definitions + (2048 * domains_cost m + 1024 * formulas_cost m.at_each)

copy_reaches : (m : FlatModel) → IsEncodable m → (vs : List Signal) (all : Bool) (s : Circuit) → IsReady s → AreSignals s vs → AreShort vs → CopyReaches s (copy_room m) (copy_gates m vs all s)
unfolding after copy_room domains_cost
copy_reaches m is vs all s ready hv gv =
    let d = definitions_define m is vs all m.definitions [] s ready hv gv tt tt in
    let t = (definitions_gates m vs all s).0 in
    let ds = (definitions_gates m vs all s).1 in
    let c0 : IsShortCopy t (copy_of vs ds) = record { variables = signals_moved s t d.reaches.grows vs hv; definitions = d.usable; short_variables = gv; short_definitions = d.short } in
    let domains = domains_reach m is (copy_of vs ds) all m.variables (model_types m is) vs t d.reaches.ready c0 c0.variables gv in
    let c1 = copy_moved t _ domains.grows (copy_of vs ds) c0 in
    let formulas = formulas_reach m (copy_of vs ds) (copy_of vs ds) m.at_each _ domains.ready c1 c1 in
    let moment = reaches_then t _ _ (2048 * domains_cost m) (1024 * formulas_cost m.at_each) (2048 * domains_cost m + 1024 * formulas_cost m.at_each) (omega arith) domains formulas in
    record { reaches = reaches_then s t _ _ _ _ (omega arith) d.reaches moment; copy = copy_moved _ _ formulas.grows (copy_of vs ds) c1 }

-- ---- the lists

module _ (m : FlatModel) (is : IsEncodable m) where
  states : CopyReaches (start_of m) (copy_room m) (state_circuit m)
  states = copy_reaches m is (signals_now m) false (start_of m) (start_ready m is) (placed_now m is) (variables_short m is m.variables (model_types m is) 2 (input_place m))

  cost_parts : model_cost m ≡ domains_cost m + formulas_cost m.definitions + formulas_cost m.at_first + formulas_cost m.at_each + formulas_cost m.at_step
  unfolding domains_cost
  cost_parts = refl

  -- how many variables each list takes
  record Counted : Type 0 where
    first : (first_circuit m).free ≤ lists_room m
    states : (state_circuit m).0.free ≤ lists_room m
    steps : (step_circuit m).free ≤ lists_room m

  counted : Counted
  unfolding copy_room
  counted =
      let s = states in
      let first = formulas_reach m (state_circuit m).1 (state_circuit m).1 m.at_first (state_circuit m).0 s.reaches.ready s.copy s.copy in
      let now = copy_reaches m is (signals_now m) true (start_of m) (start_ready m is) (placed_now m is) (variables_short m is m.variables (model_types m is) 2 (input_place m)) in
      let next =
      copy_reaches m is (signals_next m) false _ now.reaches.ready (signals_moved (start_of m) _ now.reaches.grows (signals_next m) (placed_next m is))
      (variables_short m is m.variables (model_types m is) (next_place m) (input_place m)) in
      let steps = formulas_reach m _ _ m.at_step _ next.reaches.ready (copy_moved _ _ next.reaches.grows _ now.copy) next.copy in
      let parts = cost_parts in
      record {
        first = omega (arith, s.reaches.most, first.most, parts);
        states = omega (arith, s.reaches.most, parts);
        steps = omega (arith, now.reaches.most, next.reaches.most, steps.most, parts);
      }

  module _ (top : Tree FlatLeaf) (fit : IsFitTop m top) (history : List ℕ) (bits : Each (IsStateBoolean m) history) where
    -- the circuit of the top event
    top_reaches : Reaches (state_circuit m).0 (1024 * cost_of top) (asserted_signal (encoded (names_of m (state_circuit m).1 (state_circuit m).1) its_value top (state_circuit m).0))
    top_reaches =
        let s = states in
        let r =
        asserted_reaches (state_circuit m).0 s.reaches.ready _ _ (encoded_takes FlatLeaf (names_of m (state_circuit m).1 (state_circuit m).1) its_value top (state_circuit m).0 s.reaches.ready
        (short_names m (state_circuit m).0 s.reaches.ready (state_circuit m).1 (state_circuit m).1 s.copy s.copy) tt) in
        record { ready = r.ready; grows = r.grows; most = omega (arith, r.most) }

    history_usable : (t : Circuit) → IsReady t → (start_of m).free ≤ t.free → (hs : List ℕ) → AllBelow t.free (history_literals m hs)
    history_usable t ready h [] = tt
    history_usable t ready h (i ∷ hs) =
        (literal_below t ready.least (signal_or_false (slice_get (signals_now m) i)) (signal_at_usable t ready (signals_now m) i (signals_moved (start_of m) t h (signals_now m) (placed_now m is))), history_usable t ready h hs)

    size_most : (size : ℕ) → (size_gates (history_literals m history) size (asserted_signal (encoded (names_of m (state_circuit m).1 (state_circuit m).1) its_value top (state_circuit m).0))).free ≤ bad_room m top history size
    size_most size = by (nat_lt size (length (history_literals m history)))
      where
        t : Circuit
        t = asserted_signal (encoded (names_of m (state_circuit m).1 (state_circuit m).1) its_value top (state_circuit m).0)

        base : t.free ≤ lists_room m + 1024 * cost_of top
        base = let c = counted in let r = top_reaches in omega (arith, c.states, r.most)

        from : (start_of m).free ≤ t.free
        from = let s = states in let r = top_reaches in omega (arith, s.reaches.grows, r.grows)

        long : length (history_literals m history) ≡ length history
        long = length-map history _

        by : (b : Bool) → (cond b (asserted_signal (as_bit (at_most_gates (history_literals m history) size t))) t).free ≤ bad_room m top history size
        by false = omega (arith, base)
        by true =
            let r = top_reaches in
            let g = at_most_gates-means (history_literals m history) size t r.ready.truth r.ready.least (history_usable t r.ready from history) in
            let same = asserted_free (as_bit (at_most_gates (history_literals m history) size t)) in
            let counters : (2 * (size + 1)) * length (history_literals m history) ≡ (2 * (size + 1)) * length history = ap (λ k. (2 * (size + 1)) * k) long in
            omega (arith, same, g.shape.1, base, counters)

    literal_below_at : (n : ℕ) → 1 < n → (ls : List Literal) → AllBelow n ls → (i : ℕ) → IsBelow n (literal_at ls i)
    literal_below_at n h [] k i = h
    literal_below_at n h (l ∷ ls) k zero = k.0
    literal_below_at n h (l ∷ ls) k (suc i) = literal_below_at n h ls k.1 i

    set_below : (n : ℕ) → 1 < n → (ls : List Literal) → AllBelow n ls → (set : List ℕ) → AllBelow n (unlisted_clause ls set)
    set_below n h ls k [] = tt
    set_below n h ls k (i ∷ set) = (literal_below_at n h ls k (i - 1), set_below n h ls k set)

    sets_below : (n : ℕ) → 1 < n → (ls : List Literal) → AllBelow n ls → (sets : List (List ℕ)) → AllByRecursion (λ c. AllBelow n c) (map (unlisted_clause ls) sets)
    sets_below n h ls k [] = tt
    sets_below n h ls k (set ∷ sets) = (set_below n h ls k set, sets_below n h ls k sets)

    bad_below : (sets : List (List ℕ)) (size : ℕ) → ClausesBelow (bad_room m top history size) (bad_list m top history sets size)
    bad_below sets size =
        let us = defaults m is in
        let says = size_says m is top fit history bits us.0 us.1 size in
        let ls = history_literals m history in
        let start = AllBelow-more (gates_place m) (bad_room m top history size) (omega arith) ls (history_usable (start_of m) (start_ready m is) (omega arith) history) in
        All-append (ClauseBelow (bad_room m top history size)) _ (map (unlisted_clause ls) sets)
        (ClausesBelow-more _ (bad_room m top history size) (size_most size) _ says.below)
        (ClausesBelow-from (bad_room m top history size) (map (unlisted_clause ls) sets) (sets_below (bad_room m top history size) (omega arith) ls start sets))

  rooms_fit : input_bits m ≤ 2 ^ 30 → (top : Tree FlatLeaf) (history : List ℕ) (size : ℕ) → cost_of top ≤ most_asked_cost → length history ≤ MOST_FAULTS → size ≤ MOST_FAULTS → bad_room m top history size ≤ 2 ^ 31 - 20000
  rooms_fit inputs top history size cost few least =
      let small = both_false (nat_lt MOST_COST (model_cost m)) (nat_lt MOST_BITS (state_bits m)) is.typed.small in
      let costs : model_cost m ≤ MOST_COST = let h = ltb-false MOST_COST (model_cost m) small.0 in omega (arith, h) in
      let states_few : state_bits m ≤ MOST_BITS = let h = ltb-false MOST_BITS (state_bits m) small.1 in omega (arith, h) in
      let counters : (2 * (size + 1)) * length history ≤ (2 * (size + 1)) * MOST_FAULTS = mul-le-mul_left (2 * (size + 1)) few in
      omega (arith, inputs, cost, least, costs, states_few, counters)

  pub small_lists : AreSmallLists m
  small_lists =
      let us = defaults m is in
      let c = counted in
      record {
        first = ClausesBelow-more (first_circuit m).free (lists_room m) c.first (first_list m) (first_says m is us.0 us.1).below;
        states = ClausesBelow-more (state_circuit m).0.free (lists_room m) c.states (state_list m) (state_says m is us.0 us.1).goes.says.below;
        steps = ClausesBelow-more (step_circuit m).free (lists_room m) c.steps (step_list m) (step_says m is us.0 us.0 us.1 us.1).below;
        bad = λ top history sets size fit bits. bad_below top fit history bits sets size;
        fits = λ inputs top history size cost few least. let room = rooms_fit inputs top history size cost few least in omega (arith, room);
        inputs = inputs_most m.symbols m.variables;
        first_ends = c.first;
        states_end = c.states;
        steps_end = c.steps;
        bad_ends = λ top history size fit bits. size_most top fit history bits size;
        room = rooms_fit;
      }

pub lists_small : ListsAreSmall
lists_small m is = small_lists m is
