-- Which systems frames are made of, and which lists they are asked to clear.
use Rattle.std.specs.Prelude.{◌+◌, ◌*◌, ◌^◌, ◌<◌, ◌⊎◌, All}
use Rattle.sat_clauses.specs.Literal.{Literal}
use Rattle.sat_clauses.specs.declared.system.System.{System}

-- the literal's variable is below 2^31
abbrev pub IsLow : Literal → Type 0
IsLow l = l.var < 2 ^ 31

-- the literal's variable is below 2^32, as those of a list are that is numbered apart
abbrev pub IsNear : Literal → Type 0
IsNear l = l.var < 2 ^ 32

-- the literal's variable is 1, a state bit now, or above all state and input bits
abbrev pub IsOverNow : System → Literal → Type 0
IsOverNow system l =
    IsLow l × ((l.var < system.state_bits + 2) ⊎ (2 * system.state_bits + system.input_bits + 1 < l.var))

-- `first` is over the state now and gates, and all variables are below 2^31
pub record IsFit (system : System) : Type 0 where
  pub bits : 2 * system.state_bits + system.input_bits + 1 < 2 ^ 31
  pub first : All (All (IsOverNow system)) system.first
  pub step : All (All IsLow) system.step
