-- The items of instructions in written order, each with what stands before it.
use Rattle.std.specs.Prelude.{List, [], ◌∷◌, ◌++◌, map}
use Rattle.smv_language.specs.ProgramTree.{Text}
use Rattle.fault_instructions.specs.Instructions.{ModeTree, SliceTree, ExtensionTree, InstructionTree}

-- a slice with the module that it extends
pub record OwnedSlice : Type 0 where
  pub owner : Text
  pub slice : SliceTree

-- the slice with its module
abbrev pub owned : Text → SliceTree → OwnedSlice
owned owner s = record { owner = owner; slice = s }

-- an EXTENSION, a SLICE after others of the file, and a MODE after others of its slice
pub data Site : Type 0 where
  an_extension : Text → Site
  a_slice : List OwnedSlice → OwnedSlice → Site
  a_mode : List OwnedSlice → OwnedSlice → List ModeTree → ModeTree → Site

-- the items of modes, after these of their slice
abbrev pub mode_sites : List OwnedSlice → OwnedSlice → List ModeTree → List ModeTree → List Site
mode_sites before o earlier [] = []
mode_sites before o earlier (m ∷ ms) = a_mode before o earlier m ∷ mode_sites before o (earlier ++ m ∷ []) ms

-- the items of slices and their modes, after these slices of the file
abbrev pub slice_sites : List OwnedSlice → Text → List SliceTree → List Site
slice_sites before owner [] = []
slice_sites before owner (s ∷ ss) =
    a_slice before (owned owner s) ∷ (mode_sites before (owned owner s) [] s.modes ++ slice_sites (before ++ owned owner s ∷ []) owner ss)

-- the items of extensions, after these slices of the file
abbrev pub extension_sites : List OwnedSlice → List ExtensionTree → List Site
extension_sites before [] = []
extension_sites before (x ∷ xs) =
    an_extension x.of_module ∷ (slice_sites before x.of_module x.slices ++ extension_sites (before ++ map (owned x.of_module) x.slices) xs)

-- all items, of which the first has the number 1
abbrev pub item_sites : InstructionTree → List Site
item_sites i = extension_sites [] i.extensions
