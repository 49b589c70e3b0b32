-- The first fault of marks as it is found in order, and the units of a mode by its slice and name.
use Rattle.std.specs.Prelude.{◌≡◌, ◌⊎◌, ℕ, suc, List, [], ◌∷◌, Option, Some, None, if◌then◌else◌}
use Rattle.smv_language.specs.Language.{Text, same_text}
use Rattle.fault_instructions.specs.Instructions.{ModeTree, SliceTree, ExtensionTree, InstructionTree}
use Rattle.fault_odds.specs.declared.mode_marks.MarkFault.{MarkFault}
use Rattle.fault_odds.specs.declared.mode_marks.MarkFault.TheVariants as wrong
use Rattle.fault_odds.specs.declared.mode_marks.OddsFault.{OddsFault}
use Rattle.fault_odds.specs.declared.mode_marks.OddsFault.TheVariants as fault
use Rattle.fault_odds.specs.Units.{units_of}
use Rattle.fault_odds.specs.Marks.{IsFirstMarkFault}

-- a fault that is want of memory
abbrev pub IsWant : OddsFault → Type 0
IsWant e = e ≡ fault.OutOfMemory

-- a fault at the item of a number
abbrev pub fault_at : MarkFault → ℕ → OddsFault
fault_at wrong.NoMark n = fault.NoMark n
fault_at wrong.BadMark n = fault.BadMark n

-- the number of the first item whose mark is wrong, after so many items, and what is wrong with it
abbrev pub first_of : ℕ → List (Option MarkFault) → Option (ℕ × MarkFault)
first_of n [] = None
first_of n (None ∷ more) = first_of (suc n) more
first_of n (Some f ∷ more) = Some (suc n, f)

-- the fault is told of the first wrong mark, or is want of memory
abbrev pub IsFaultOf : Option (ℕ × MarkFault) → OddsFault → Type 0
IsFaultOf None e = ⊥
IsFaultOf (Some w) e = IsWant e ⊎ (e ≡ fault_at w.1 w.0)

-- what a fault says of the instructions
abbrev pub IsMarkFault : InstructionTree → OddsFault → Type 0
IsMarkFault i (fault.NoMark n) = IsFirstMarkFault i wrong.NoMark n
IsMarkFault i (fault.BadMark n) = IsFirstMarkFault i wrong.BadMark n
IsMarkFault i fault.OutOfMemory = Unit {0}

-- the units of a mark, where there is one
abbrev pub mark_units : Option (List Text) → Option ℕ
mark_units None = None
mark_units (Some mark) = units_of mark

-- the first of two numbers that is there
abbrev pub or_else : Option ℕ → Option ℕ → Option ℕ
or_else (Some n) other = Some n
or_else None other = other

-- the units of the first mode of the name
abbrev pub mode_units : Text → List ModeTree → Option ℕ
mode_units mode [] = None
mode_units mode (m ∷ ms) = if same_text m.name mode then mark_units m.mark else mode_units mode ms

-- the units of a mode in a slice, where it has the name
abbrev pub units_in_slice : Text → Text → SliceTree → Option ℕ
units_in_slice slice mode s = if same_text s.name slice then mode_units mode s.modes else None

-- in the first slice of the name that gives them
abbrev pub slice_units : Text → Text → List SliceTree → Option ℕ
slice_units slice mode [] = None
slice_units slice mode (s ∷ ss) = or_else (units_in_slice slice mode s) (slice_units slice mode ss)

-- in the first extension that gives them
abbrev pub extension_units : Text → Text → List ExtensionTree → Option ℕ
extension_units slice mode [] = None
extension_units slice mode (x ∷ xs) = or_else (slice_units slice mode x.slices) (extension_units slice mode xs)

-- the units of a mode, and 0 where the instructions give none
abbrev pub or_zero : Option ℕ → ℕ
or_zero None = 0
or_zero (Some n) = n

-- the units of a mode of a slice, by the names of both
abbrev pub units_at : InstructionTree → Text → Text → ℕ
units_at i slice mode = or_zero (extension_units slice mode i.extensions)
