-- The units of the faults of instructions, and the first mode whose mark is no probability.
use Rattle.std.specs.Prelude.{◌≡◌, ℕ, suc, List, ◌∷◌, ◌++◌, Option, Some, None, length, map, flat_map}
use Rattle.smv_language.specs.Language.{Text, Each, EachBoth}
use Rattle.fault_instructions.specs.Instructions.{ModeTree, SliceTree, ExtensionTree, InstructionTree}
use Rattle.fault_weave.specs.Faults.{Fault}
use Rattle.fault_odds.specs.declared.mode_marks.MarkFault.{MarkFault}
use Rattle.fault_odds.specs.declared.mode_marks.MarkFault.TheVariants as wrong
use Rattle.fault_odds.specs.Units.{units_of}

-- a mark that is there is a probability, or it is wrong
abbrev pub fault_of_units : Option ℕ → Option MarkFault
fault_of_units None = Some wrong.BadMark
fault_of_units (Some n) = None

-- what is wrong with a mark
abbrev pub fault_of_mark : Option (List Text) → Option MarkFault
fault_of_mark None = Some wrong.NoMark
fault_of_mark (Some mark) = fault_of_units (units_of mark)

-- what is wrong at an item: extensions and slices have no mark
abbrev pub slice_marks : SliceTree → List (Option MarkFault)
slice_marks s = None ∷ map (λ m. fault_of_mark m.mark) s.modes

-- what is wrong at the items of an extension
abbrev pub extension_marks : ExtensionTree → List (Option MarkFault)
extension_marks x = None ∷ flat_map slice_marks x.slices

-- what is wrong at each item of the instructions, in the order of the file
abbrev pub item_marks : InstructionTree → List (Option MarkFault)
item_marks i = flat_map extension_marks i.extensions

-- this is wrong at the item of the number, counted from 1, and nothing at an item before it
pub record IsFirstMarkFault (i : InstructionTree) (fault : MarkFault) (item : ℕ) : Type 0 where
  pub before : List (Option MarkFault)
  pub after : List (Option MarkFault)
  pub in_order : item_marks i ≡ before ++ Some fault ∷ after
  pub none_before : Each (λ f. f ≡ None) before
  pub at_item : item ≡ suc (length before)

-- every mode has a mark that is a probability
abbrev pub HasProbabilities : InstructionTree → Type 0
HasProbabilities i = Each (λ f. f ≡ None) (item_marks i)

-- the mode of this slice and name has a mark of so many units
pub record HasUnits (i : InstructionTree) (slice mode : Text) (units : ℕ) : Type 0 where
  pub extension : ExtensionTree
  pub of_slice : SliceTree
  pub of_mode : ModeTree
  pub mark : List Text
  pub is_extension : (before : List ExtensionTree) × (after : List ExtensionTree) × (i.extensions ≡ before ++ extension ∷ after)
  pub is_slice : (before : List SliceTree) × (after : List SliceTree) × (extension.slices ≡ before ++ of_slice ∷ after)
  pub is_mode : (before : List ModeTree) × (after : List ModeTree) × (of_slice.modes ≡ before ++ of_mode ∷ after)
  pub slice_name : of_slice.name ≡ slice
  pub mode_name : of_mode.name ≡ mode
  pub has_mark : of_mode.mark ≡ Some mark
  pub has_units : units_of mark ≡ Some units

-- the units of each fault, by its slice and mode
abbrev pub AreOdds : InstructionTree → List Fault → List ℕ → Type 0
AreOdds i faults odds = EachBoth (λ (f : Fault) (units : ℕ). HasUnits i f.slice f.mode units) faults odds
