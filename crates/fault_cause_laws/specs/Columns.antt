-- One more value for each valuation of a trace, by its moment.
use Rattle.std.specs.Prelude.{ℕ, suc, List, [], ◌∷◌, ◌++◌}
use Rattle.smv_language.specs.Values.{Value}

-- each valuation with one more value, by its moment, where the first has this number
abbrev pub with_values : (ℕ → Value) → ℕ → List (List Value) → List (List Value)
with_values value k [] = []
with_values value k (v ∷ vs) = (v ++ value k ∷ []) ∷ with_values value (suc k) vs

-- where moments are counted from 0
abbrev pub with_value : (ℕ → Value) → List (List Value) → List (List Value)
with_value value trace = with_values value 0 trace
