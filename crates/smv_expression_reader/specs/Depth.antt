-- How many groups are open on the stack of the machine.
use Rattle.std.specs.Prelude.{ℕ, ◌+◌, max, List, [], ◌∷◌}
use Rattle.smv_language.specs.Lexemes.{Lexeme}
use Rattle.smv_expression_reader.specs.Recogniser.{role_of, State, wants, wants_not, wants_low, wants_dots, wants_high}
use Rattle.smv_expression_reader.specs.Recogniser.{wants_digits, wants_name, wants_open, wants_branch, had, stuck, step}
use Rattle.smv_expression_reader.specs.declared.frames.OpenFrame.{OpenFrame as Frame}
use Rattle.smv_expression_reader.specs.declared.frames.OpenFrame.TheVariants as frame

-- how many of the open parts are groups
abbrev pub groups : List Frame → ℕ
groups [] = 0
groups (frame.Group ∷ s) = groups s + 1
groups (f ∷ s) = groups s

-- how many groups are open in a state
abbrev pub depth : State → ℕ
depth (wants s) = groups s
depth (wants_not s) = groups s
depth (wants_low s) = groups s
depth (wants_dots s) = groups s
depth (wants_high s) = groups s
depth (wants_digits s) = groups s
depth (wants_name s) = groups s
depth (wants_open s) = groups s
depth (wants_branch s) = groups s
depth (had e s) = groups s
depth stuck = 0

-- the most that are open at once, in the state and after each lexeme
abbrev pub peak : State → List Lexeme → ℕ
peak st [] = depth st
peak st (t ∷ ts) = max (depth st) (peak (step st (role_of t)) ts)
