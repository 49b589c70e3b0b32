-- What a model, its faults and a top event must be for a search on the lists of the model with history.
use Rattle.std.specs.Prelude.{◌≡◌, ℕ, ◌≤◌, ◌^◌, List, All, length}
use Rattle.smv_language.specs.Language.{Tree, Value, FlatLeaf, FlatModel}
use Rattle.smv_flat_laws.specs.History.{Mode, with_history}
use Rattle.smv_flat_laws.specs.FlatTrace.{AreInDomains}
use Rattle.smv_type_laws.specs.Costs.{cost_of}
use Rattle.sat_clauses.specs.Literal.{Literal}
use Rattle.cut_frames.specs.Condition.{IsFit, IsOverNow}
use Rattle.smv_type_laws.specs.LeastValues.{least_values, with_inputs}
use Rattle.sat_encoding_laws.specs.FlatTraces.{history_of}
use Rattle.sat_encoding_laws.specs.EncodedLaws.{AreOwn}
use Rattle.sat_encoding_laws.specs.Bits.{state_of, inputs_of}
use Rattle.sat_encoding_laws.specs.Layout.{input_bits}
use Rattle.sat_encoding_laws.specs.Lists.{system_of, bad_list}
use Rattle.sat_encoding_laws.specs.Encodable.{IsEncodable, IsFitTop}
use Rattle.cut_search_laws.specs.Problem.{Problem}
use Rattle.cut_search_laws.specs.FlatSearch.{IsBadFor}
use Rattle.sat_encoding_laws.specs.Variables.{most_asked_cost}

-- The model with history is encodable, its faults are modes of it, the top event fits it, and inputs and event are small.
pub record IsSearchable (m : FlatModel) (fs : List Mode) (top : Tree FlatLeaf) : Type 0 where
  pub own : AreOwn m fs top
  pub encodable : IsEncodable (with_history m fs)
  pub fits : IsFitTop (with_history m fs) top
  pub few_inputs : input_bits (with_history m fs) ≤ 2 ^ 30
  pub small_top : cost_of top ≤ most_asked_cost

-- the lists are such as frames are made of, and the list of bad states such as they clear
abbrev pub ListsFitFrames : Type 0
ListsFitFrames =
    (m : FlatModel) (fs : List Mode) (top : Tree FlatLeaf) → IsSearchable m fs top →
    IsFit (system_of (with_history m fs))
    × ((sets : List (List ℕ)) (size : ℕ) → size ≤ length fs →
    All (All (IsOverNow (system_of (with_history m fs)))) (bad_list (with_history m fs) top (history_of m fs) sets size))

-- a list of bad states with at most as many faults as there are is one for every larger size
abbrev pub LargerSizesServe : Type 0
LargerSizesServe =
    (problem : Problem) (size : ℕ) → length problem.modes ≤ size → (sets : List (List ℕ)) (bad : List (List Literal)) →
    IsBadFor problem (length problem.modes) sets bad → IsBadFor problem size sets bad

-- the valuation with the least inputs
abbrev pub with_least : FlatModel → List Value → List Value
with_least m v = with_inputs m.variables v (least_values m.symbols m.variables)

-- a valuation with the least inputs: one of the model, of the same state, with the inputs of the least values
pub record ShowsLeast (m : FlatModel) (v : List Value) : Type 0 where
  pub domains : AreInDomains m.variables (with_least m v)
  pub state : state_of m (with_least m v) ≡ state_of m v
  pub inputs : inputs_of m (with_least m v) ≡ inputs_of m (least_values m.symbols m.variables)

-- an encodable model has a valuation of least values, and each of its valuations one of the same state with the least inputs
abbrev pub LeastValuesShow : Type 0
LeastValuesShow =
    (m : FlatModel) → IsEncodable m →
    AreInDomains m.variables (least_values m.symbols m.variables) × ((v : List Value) → AreInDomains m.variables v → ShowsLeast m v)
