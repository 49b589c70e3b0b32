-- The names that a slice adds to its module, and the state that a slice is in.
use Rattle.std.specs.Prelude.{◌++◌, Option, Some, None, codes}
use Rattle.smv_language.specs.ProgramTree.{Text}

-- a slice is nominal, or in the mode of this name
abbrev pub ModeState : Type 0
ModeState = Option Text

-- the variable that holds the own value of a variable
abbrev pub own_name : Text → Text
own_name x = x ++ codes "#nominal"

-- the variable that holds the state of a slice
abbrev pub mode_variable : Text → Text
mode_variable s = s ++ codes "#mode"

-- the symbol of a state of a slice
abbrev pub mode_symbol : Text → ModeState → Text
mode_symbol s None = s ++ codes "#nominal"
mode_symbol s (Some m) = s ++ codes "#" ++ m
