-- The lists of a searchable model are such as frames take.
use Rattle.std.proofs.Common.{◌≡◌, ◌⊎◌, inl, inr, ℕ, ◌+◌, ◌*◌, ◌^◌, ◌<◌, ◌≤◌, false, List, length, All, refl, sym, subst, arith}
use Rattle.std.specs.Prelude.{nat_lt}
use Rattle.std.proofs.lemmas.Bool.{ltb-false, or_parts as neither}
use Rattle.std.proofs.lemmas.Nat.{mul-le}
use Rattle.std.proofs.lemmas.List.FromFn.{length-range_with_len}
use Rattle.base_values.specs.declared.limits.TheConstants.{MOST_BITS, MOST_COST}
use Rattle.smv_language.specs.Flat.{FlatModel}
use Rattle.smv_flat_laws.specs.History.{Mode, with_history}
use Rattle.smv_type_laws.specs.Costs.{cost_of, model_cost, state_bits}
use Rattle.smv_type_laws.specs.Models.{is_too_large}
use Rattle.sat_clauses.specs.Literal.{Literal}
use Rattle.sat_clauses.specs.Models.{ClausesBelow}
use Rattle.cut_frames.specs.Condition.{IsLow, IsOverNow}
use Rattle.sat_encoding_laws.specs.FlatTraces.{history_of}
use Rattle.sat_encoding_laws.specs.Layout.{input_bits, gates_place}
use Rattle.sat_encoding_laws.specs.Lists.{system_of, first_list, step_list, bad_list}
use Rattle.sat_encoding_laws.specs.Variables.{UseStates, lists_room, bad_room, most_asked_cost}
use Rattle.sat_encoding_laws.proofs.CleanLists.{lists_use_states}
use Rattle.sat_encoding_laws.proofs.SizeLists.{lists_small}
use Rattle.sat_encoding_laws.proofs.HistoryPlaces.{history_last}
use Rattle.cut_search_laws.specs.Searchable.{ListsFitFrames}

-- a typed model costs at most `MOST_COST` and has at most `MOST_BITS` bits of state
limits : (m : FlatModel) → is_too_large m ≡ false → (model_cost m ≤ MOST_COST) × (state_bits m ≤ MOST_BITS)
limits m e = let both = neither (nat_lt MOST_COST (model_cost m)) (nat_lt MOST_BITS (state_bits m)) e in (ltb-false MOST_COST (model_cost m) both.0, ltb-false MOST_BITS (state_bits m) both.1)

-- so has one with history at most `MOST_BITS` faults
pub few_faults : (m : FlatModel) (fs : List Mode) → is_too_large (with_history m fs) ≡ false → length fs ≤ MOST_BITS
few_faults m fs e = let bits = (limits (with_history m fs) e).1 in let more = (history_last m fs).1 in omega (arith, bits, more)

-- a variable of a state that is low is one that frames may ask for
over_one : (bits inputs x : ℕ) → (x ≡ 1) ⊎ (((2 ≤ x) × (x < bits + 2)) ⊎ (2 * bits + inputs + 2 ≤ x)) → x < 2 ^ 31 → (x < 2 ^ 31) × ((x < bits + 2) ⊎ (2 * bits + inputs + 1 < x))
over_one bits inputs x (inl e) low = (low, inl (omega (arith, e)))
over_one bits inputs x (inr (inl h)) low = (low, inl h.1)
over_one bits inputs x (inr (inr h)) low = (low, inr (omega (arith, h)))

module _ (m : FlatModel) (n : ℕ) (small : n ≤ 2 ^ 31) where
  lows : (clauses : List (List Literal)) → ClausesBelow n clauses → All (All IsLow) clauses
  lows clauses below k d l j e i = let one = below k d l j e i in omega (arith, one, small)

  overs : (clauses : List (List Literal)) → UseStates m clauses → ClausesBelow n clauses → All (All (IsOverNow (system_of m))) clauses
  overs clauses uses below k d l j e i = over_one (state_bits m) (input_bits m) _ (uses k d l j e i) (let one = below k d l j e i in omega (arith, one, small))

-- counters of so few faults take little room
small_counters : (size faults : ℕ) → size ≤ faults → faults ≤ MOST_BITS → 2 * (size + 1) * faults ≤ 2 * (MOST_BITS + 1) * MOST_BITS
small_counters size faults h few = mul-le (2 * (size + 1)) faults (2 * (MOST_BITS + 1)) MOST_BITS (omega (arith, h, few)) few

small_room : (gates bits inputs cost top counters : ℕ) → gates ≡ 2 * bits + inputs + 2 → bits ≤ MOST_BITS → inputs ≤ 2 ^ 30 → cost ≤ MOST_COST → top ≤ most_asked_cost → counters ≤ 2 * (MOST_BITS + 1) * MOST_BITS →
    gates + 4096 * cost + 1024 * top + counters < 2 ^ 31
small_room gates bits inputs cost top counters e b i c t n = omega (arith, e, b, i, c, t, n)

pub lists_fit : ListsFitFrames
lists_fit m fs top is =
    let w = with_history m fs in
    let uses = lists_use_states w is.encodable in
    let small = lists_small w is.encodable in
    let history = history_of m fs in
    let long : length history ≡ length fs = length-range_with_len (length m.variables) (length fs) in
    let few = few_faults m fs is.encodable.typed.small in
    let most = limits w is.encodable.typed.small in
    let room : (size : ℕ) → size ≤ length fs → bad_room w top history size < 2 ^ 31 =
    λ size h. subst (λ n. lists_room w + 1024 * cost_of top + 2 * (size + 1) * n < 2 ^ 31) (sym long)
    (small_room (gates_place w) (state_bits w) (input_bits w) (model_cost w) (cost_of top) (2 * (size + 1) * length fs) refl most.1 is.few_inputs most.0 is.small_top (small_counters size (length fs) h few)) in
    let lists : lists_room w ≤ 2 ^ 31 = let whole = room 0 (omega arith) in omega (arith, whole) in (
      record {
        bits = omega (arith, most.1, is.few_inputs);
        first = overs w (lists_room w) lists (first_list w) uses.0 small.first;
        step = lows w (lists_room w) lists (step_list w) small.steps;
      },
      (λ sets size h.
          overs w (bad_room w top history size) (let below = room size h in omega (arith, below)) (bad_list w top history sets size) (uses.2 top history sets size is.fits (history_last m fs).0)
          (small.bad top history sets size is.fits (history_last m fs).0)),
    )
