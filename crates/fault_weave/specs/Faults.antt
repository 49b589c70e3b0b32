-- The faults of a program under instructions.
use Rattle.std.specs.Prelude.{◌≡◌, ℕ, zero, suc, List, [], ◌∷◌, ◌++◌, Option, Some, None, map, flat_map}
use Rattle.smv_language.specs.ProgramTree.{Text, boolean, range, members, instance, DeclTree, SectionTree, var, ModuleTree, ProgramTree}
use Rattle.smv_language.specs.Scope.{Place, module_at}
use Rattle.fault_instructions.specs.Instructions.{InstructionTree, SliceTree, slices_of}

-- a mode of a slice at an instance
pub record Fault : Type 0 where
  pub place : Place
  pub slice : Text
  pub mode : Text

-- the names of a module's instances, in the order of their declarations
abbrev pub instance_names_in : List DeclTree → List Text
instance_names_in [] = []
instance_names_in (d ∷ ds) =
    elim d.what [
      | boolean ↦ instance_names_in ds
      | range lo hi ↦ instance_names_in ds
      | members ms ↦ instance_names_in ds
      | instance m
          actuals ↦ d.name ∷ instance_names_in ds
    ]

-- the instances that the sections of a module declare
abbrev pub instance_names : List SectionTree → List Text
instance_names [] = []
instance_names (var ds ∷ ss) = instance_names_in ds ++ instance_names ss
instance_names (_ ∷ ss) = instance_names ss

-- one list after another, where each is given
abbrev pub joined : {A : Type 0} → Option (List A) → Option (List A) → Option (List A)
joined (Some xs) (Some ys) = Some (xs ++ ys)
joined _ _ = None

-- what a function gives for each name, one list after another, where it gives all
abbrev pub each_joined : (Text → Option (List Place)) → List Text → Option (List Place)
each_joined f [] = Some []
each_joined f (x ∷ xs) = joined (f x) (each_joined f xs)

-- an instance and those in it, where these are given of each
abbrev pub below : (Place → Option (List Place)) → Place → Option ModuleTree → Option (List Place)
below f at None = Some []
below f at (Some m) = joined (Some (at ∷ [])) (each_joined (λ x. f (x ∷ at)) (instance_names m.sections))

-- the instances from one on, depth first, where they lie at most n deep
abbrev pub instances_in : ℕ → ProgramTree → Place → Option (List Place)
instances_in zero p at = None
instances_in (suc n) p at = below (instances_in n p) at (module_at p at)

-- the instances of the program in depth-first order
abbrev pub HasInstances : ProgramTree → List Place → Type 0
HasInstances p places = (n : ℕ) × (instances_in n p [] ≡ Some places)

-- the faults of a slice at an instance, one for each mode
abbrev pub slice_faults : Place → SliceTree → List Fault
slice_faults at s = map (λ m. record { place = at; slice = s.name; mode = m.name }) s.modes

-- the slices of a module, where it is there
abbrev pub module_slices : InstructionTree → Option ModuleTree → List SliceTree
module_slices i None = []
module_slices i (Some m) = slices_of i m.name

-- the slices of the module of an instance
abbrev pub slices_at : ProgramTree → InstructionTree → Place → List SliceTree
slices_at p i at = module_slices i (module_at p at)

-- the faults of an instance
abbrev pub place_faults : ProgramTree → InstructionTree → Place → List Fault
place_faults p i at = flat_map (slice_faults at) (slices_at p i at)

-- by instances, then slices in the order of the file, then modes
abbrev pub HasFaults : ProgramTree → InstructionTree → List Fault → Type 0
HasFaults p i faults = (places : List Place) × HasInstances p places × (faults ≡ flat_map (place_faults p i) places)
