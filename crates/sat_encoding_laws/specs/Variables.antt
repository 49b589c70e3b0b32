-- Which variables the lists of states use.
use Rattle.std.specs.Prelude.{◌≡◌, ◌⊎◌, ℕ, ◌+◌, ◌-◌, ◌*◌, ◌<◌, ◌≤◌, ◌^◌, List, length, All}
use Rattle.base_values.specs.declared.limits.TheConstants.{MOST_FAULTS, MOST_TOP_COST}
use Rattle.smv_language.specs.Language.{Tree, Each, FlatLeaf, FlatModel}
use Rattle.smv_type_laws.specs.Costs.{cost_of, model_cost, state_bits}
use Rattle.sat_clauses.specs.Literal.{Literal}
use Rattle.sat_clauses.specs.Models.{ClausesBelow}
use Rattle.sat_circuits.specs.Circuit.{Circuit}
use Rattle.sat_encoding_laws.specs.Layout.{input_bits, gates_place}
use Rattle.sat_encoding_laws.specs.Expressions.{its_value, encoded}
use Rattle.sat_encoding_laws.specs.Lists.{names_of, asserted_signal, history_literals, size_gates, state_circuit, first_circuit}
use Rattle.sat_encoding_laws.specs.Lists.{step_circuit, state_list, first_list, step_list, bad_list}
use Rattle.sat_encoding_laws.specs.Encodable.{IsEncodable, IsFitTop, IsStateBoolean}

-- the variable is the constant's, a bit of the state now, or one past those of the inputs
abbrev pub IsOfState : FlatModel → ℕ → Type 0
IsOfState m x = (x ≡ 1) ⊎ (((2 ≤ x) × (x < state_bits m + 2)) ⊎ (gates_place m ≤ x))

-- the clauses use such variables alone
abbrev pub UseStates : FlatModel → List (List Literal) → Type 0
UseStates m clauses = All (All (λ l. IsOfState m l.var)) clauses

-- The lists of first states, of states and of bad states use no bits of a next state, and none of the inputs.
abbrev pub ListsUseStates : Type 0
ListsUseStates =
    (m : FlatModel) → IsEncodable m →
    UseStates m (first_list m)
    × UseStates m (state_list m)
    × ((top : Tree FlatLeaf) (history : List ℕ) (sets : List (List ℕ)) (size : ℕ) → IsFitTop m top → Each (IsStateBoolean m) history →
    UseStates m (bad_list m top history sets size))

-- below this number are the variables of a model's lists: 4,096 for each unit of its cost past those of its bits
abbrev pub lists_room : FlatModel → ℕ
lists_room m = gates_place m + 4096 * model_cost m

-- and of its list of bad states: with those of the top event, and of the counters of history bits
abbrev pub bad_room : FlatModel → Tree FlatLeaf → List ℕ → ℕ → ℕ
bad_room m top history size = lists_room m + 1024 * cost_of top + (2 * (size + 1)) * length history

-- the gates of bad states, before the clauses of listed sets
abbrev pub bad_circuit : FlatModel → Tree FlatLeaf → List ℕ → ℕ → Circuit
bad_circuit m top history size =
    let now = state_circuit m in
    size_gates (history_literals m history) size (asserted_signal (encoded (names_of m now.1 now.1) its_value top now.0))

-- the greatest cost of what is asked of a model: that of a top event, and what a set of its faults and a claim on them add
abbrev pub most_asked_cost : ℕ
most_asked_cost = MOST_TOP_COST + 10000

-- The variables of the lists are few: where the inputs have at most 2 ^ 30 bits, and the top event, the faults and the
-- size are within their limits, all are below 2 ^ 31. An input has at most 65 bits. The circuits of the lists end there too,
-- which leaves room for any one operation, and so does whatever they grow from.
pub record AreSmallLists (m : FlatModel) : Type 0 where
  pub first : ClausesBelow (lists_room m) (first_list m)
  pub states : ClausesBelow (lists_room m) (state_list m)
  pub steps : ClausesBelow (lists_room m) (step_list m)
  pub bad : (top : Tree FlatLeaf) (history : List ℕ) (sets : List (List ℕ)) (size : ℕ) → IsFitTop m top → Each (IsStateBoolean m) history
      → ClausesBelow (bad_room m top history size) (bad_list m top history sets size)
  pub fits : input_bits m ≤ 2 ^ 30 → (top : Tree FlatLeaf) (history : List ℕ) (size : ℕ) → cost_of top ≤ most_asked_cost →
      length history ≤ MOST_FAULTS → size ≤ MOST_FAULTS → bad_room m top history size < 2 ^ 31
  pub inputs : input_bits m ≤ 65 * length m.variables
  pub first_ends : (first_circuit m).free ≤ lists_room m
  pub states_end : (state_circuit m).0.free ≤ lists_room m
  pub steps_end : (step_circuit m).free ≤ lists_room m
  pub bad_ends : (top : Tree FlatLeaf) (history : List ℕ) (size : ℕ) → IsFitTop m top → Each (IsStateBoolean m) history
      → (bad_circuit m top history size).free ≤ bad_room m top history size
  pub room : input_bits m ≤ 2 ^ 30 → (top : Tree FlatLeaf) (history : List ℕ) (size : ℕ) → cost_of top ≤ most_asked_cost
      → length history ≤ MOST_FAULTS → size ≤ MOST_FAULTS → bad_room m top history size ≤ 2 ^ 31 - 20000

-- the lists of an encodable model are small
abbrev pub ListsAreSmall : Type 0
ListsAreSmall = (m : FlatModel) → IsEncodable m → AreSmallLists m
