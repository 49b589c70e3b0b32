-- The numbers of items and of faults, item by item, or the mode with which there are too many.
use Rattle.std.specs.Prelude.{ℕ, ◌+◌, Bool, List, [], ◌∷◌, Ok, Err, map, nat_le, nat_lt, ◌||◌, if◌then◌else◌}
use Rattle.std.specs.declared.result.Result.{Result}
use Rattle.std.specs.Borrow.{Bor}
use Rattle.base_values.specs.declared.limits.TheConstants.{MOST_FAULTS, MOST_MODES}
use Rattle.smv_language.specs.ProgramTree.{Text}
use Rattle.fault_instructions.specs.Instructions.{ModeTree, SliceTree, ExtensionTree}
use Rattle.fault_rules.specs.CountLimits.{instances_of}
use Rattle.fault_rules.specs.declared.count.Counted.{Counted}
use Rattle.fault_rules.specs.declared.fault.InstructionRule.TheVariants.{TooManyFaults}
use Rattle.fault_rules.specs.declared.fault.RuleFault.{RuleFault}

-- how far the counts are, or the first mode with which there are too many
abbrev pub Outcome : Type 0
Outcome = Result Counted RuleFault

-- what borrowed names are
abbrev pub module_names : List (Bor Text) → List Text
module_names names = map (λ name. name.now) names

-- before the first item
abbrev pub start : Counted
start = record { item = 0; faults = 0 }

-- what comes after, where there are not too many
abbrev pub and_then : Outcome → (Counted → Outcome) → Outcome
and_then (Ok counted) next = next counted
and_then (Err fault) next = Err fault

-- an EXTENSION or a SLICE is one item and no fault
abbrev pub next_item : Counted → Counted
next_item counted = record { item = counted.item + 1; faults = counted.faults }

-- one more mode, which is a fault at each of so many instances
abbrev pub with_mode : ℕ → Counted → Counted
with_mode instances counted = record { item = counted.item + 1; faults = counted.faults + instances }

-- a mode at this place of its slice
abbrev pub is_beyond : ℕ → ℕ → Counted → Bool
is_beyond instances place counted = nat_le MOST_MODES place || nat_lt MOST_FAULTS (counted.faults + instances)

-- the counts after a mode
abbrev pub counted_mode : ℕ → ℕ → Counted → Outcome
counted_mode instances place counted =
    if is_beyond instances place counted then Err (record {
      rule = TooManyFaults;
      item = counted.item + 1;
    }) else Ok (with_mode instances counted)

-- the counts after modes, which stand from a place of their slice on
abbrev pub counted_modes : ℕ → ℕ → List ModeTree → Counted → Outcome
counted_modes instances place [] counted = Ok counted
counted_modes instances place (m ∷ ms) counted =
    and_then (counted_mode instances place counted) (λ c. counted_modes instances (place + 1) ms c)

-- the counts after a slice
abbrev pub counted_slice : ℕ → SliceTree → Counted → Outcome
counted_slice instances s counted = counted_modes instances 0 s.modes (next_item counted)

-- the counts after slices
abbrev pub counted_slices : ℕ → List SliceTree → Counted → Outcome
counted_slices instances [] counted = Ok counted
counted_slices instances (s ∷ ss) counted = and_then (counted_slice instances s counted) (λ c. counted_slices instances ss c)

-- the counts after an extension, whose module has so many instances
abbrev pub counted_extension : List Text → ExtensionTree → Counted → Outcome
counted_extension names x counted = counted_slices (instances_of names x.of_module) x.slices (next_item counted)

-- the counts after extensions
abbrev pub counted_extensions : List Text → List ExtensionTree → Counted → Outcome
counted_extensions names [] counted = Ok counted
counted_extensions names (x ∷ xs) counted = and_then (counted_extension names x counted) (λ c. counted_extensions names xs c)
