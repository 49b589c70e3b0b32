-- The choices between the values of a case.
use Rattle.std.specs.Prelude.{ℕ, false, List, [], ◌∷◌}
use Rattle.sat_clauses.specs.Literal.{Literal}
use Rattle.sat_circuits.specs.Circuit.{Circuit, after}
use Rattle.sat_circuits.specs.Gates.{constant_lit}
use Rattle.sat_encoding_laws.specs.Signals.{Signal, bit, fitted, choice_gates}

-- the first of these, or FALSE
abbrev pub first_signal : List Signal → Signal
first_signal [] = bit (constant_lit false)
first_signal (e ∷ es) = e

-- the choices between values, of which there is one more than conditions, from the last but one to the first
unfoldable pub chosen_gates : ℕ → List Literal → List Signal → Circuit → Circuit × Signal
chosen_gates n [] es s = (s, fitted n (first_signal es))
chosen_gates n (p ∷ ps) [] s = (s, bit (constant_lit false))
chosen_gates n (p ∷ ps) (e ∷ es) s = after (chosen_gates n ps es s) (λ f w. choice_gates n p e f w)

-- the same choices, where the last of them is made already
unfoldable pub upward_gates : ℕ → List Literal → List Signal → Circuit × Signal → Circuit × Signal
upward_gates n [] es r = r
upward_gates n (p ∷ ps) [] r = (r.0, bit (constant_lit false))
upward_gates n (p ∷ ps) (e ∷ es) r = after (upward_gates n ps es r) (λ f w. choice_gates n p e f w)
