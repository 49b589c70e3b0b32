-- The modes that are judged at an instance, slice by slice.
use Rattle.std.specs.Prelude.{ℕ, suc, List, [], ◌∷◌, flat_map, if◌then◌else◌}
use Rattle.smv_language.specs.Language.{DeclaredTree, Place, same_text, FlatInstance}
use Rattle.fault_instructions.specs.Instructions.{ModeTree}
use Rattle.fault_rules.specs.PlacedSlices.{PlacedSlice}
use Rattle.fault_extend_laws.specs.Uses.{Use}

-- modes at an instance, of which the first is the item of this number
abbrev pub modes_from : Place → DeclaredTree → ℕ → List ModeTree → List Use
modes_from at type n [] = []
modes_from at type n (m ∷ ms) = record { place = at; item = n; type = type; mode = m } ∷ modes_from at type (suc n) ms

-- the modes of a slice, where the instance is of its module
abbrev pub uses_of_slice : FlatInstance → PlacedSlice → List Use
uses_of_slice at s = if same_text s.of.owner at.module_name then modes_from at.place s.type (suc s.item) s.of.slice.modes else []

-- the modes of slices at an instance
abbrev pub uses_of_slices : List PlacedSlice → FlatInstance → List Use
uses_of_slices ss at = flat_map (uses_of_slice at) ss
