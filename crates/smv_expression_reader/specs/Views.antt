-- The code's roles, frames and modes, as those of the machine.
use Rattle.std.specs.Prelude.{Bool, true, false, List, [], ◌∷◌}
use Rattle.smv_expression_reader.specs.declared.frames.OpenFrame.{OpenFrame}
use Rattle.smv_expression_reader.specs.declared.machine.Mode.TheVariants as m
use Rattle.smv_expression_reader.specs.declared.machine.Mode.{Mode}
use Rattle.smv_expression_reader.specs.Recogniser as machine

-- the stack, whose top is the vector's last
abbrev pub stack_onto : List OpenFrame → List OpenFrame → List OpenFrame
stack_onto s [] = s
stack_onto s (x ∷ xs) = stack_onto (x ∷ s) xs

-- the stack of a vector of frames
unfoldable pub stack_of : List OpenFrame → List OpenFrame
stack_of xs = stack_onto [] xs

-- the state of a mode, with this stack
abbrev pub state_with : Mode → List OpenFrame → machine.State
state_with m.Wants s = machine.wants s
state_with m.WantsNot s = machine.wants_not s
state_with m.WantsLow s = machine.wants_low s
state_with m.WantsDots s = machine.wants_dots s
state_with m.WantsHigh s = machine.wants_high s
state_with m.WantsDigits s = machine.wants_digits s
state_with m.WantsName s = machine.wants_name s
state_with m.WantsOpen s = machine.wants_open s
state_with m.WantsBranch s = machine.wants_branch s
state_with m.HadNumber s = machine.had machine.by_number s
state_with m.HadName s = machine.had machine.by_name s
state_with m.Had s = machine.had machine.by_other s
state_with m.Stuck s = machine.stuck

-- nothing is open
abbrev pub has_no_frame : List OpenFrame → Bool
has_no_frame [] = true
has_no_frame (f ∷ s) = false
