-- The list of faults that a weave gives, over the instances of a flat model.
use Rattle.std.specs.Prelude.{◌≡◌, List, map, flat_map}
use Rattle.smv_language.specs.Language.{ModuleTree, ProgramTree, Each, IsInstance, Place, place_of}
use Rattle.fault_instructions.specs.Instructions.{InstructionTree, slices_of}
use Rattle.smv_language.specs.declared.model.Instance.{Instance}
use Rattle.fault_weave.specs.Faults.{Fault, slice_faults, HasInstances}
use Rattle.fault_extend.specs.declared.faults.WovenFault.{WovenFault}

-- a fault of the code as one of the definitions
abbrev pub fault_tree : WovenFault → Fault
fault_tree f = record { place = place_of f.path; slice = f.slice; mode = f.mode }

-- the faults of an instance: by the slices of its module in the order of the file, then by modes
abbrev pub instance_faults : InstructionTree → Instance → List Fault
instance_faults i at = flat_map (slice_faults (place_of at.path)) (slices_of i at.«module»)

-- the faults by instances
abbrev pub faults_at : InstructionTree → List Instance → List Fault
faults_at i instances = flat_map (instance_faults i) instances

-- an instance with its own module
abbrev pub IsOfModule : ProgramTree → Instance → Type 0
IsOfModule p at = (m : ModuleTree) × IsInstance p (place_of at.path) m × (m.name ≡ at.«module»)

-- the places of instances of the code
abbrev pub places_of : List Instance → List Place
places_of instances = map (λ at. place_of at.path) instances

-- these are the program's instances in depth-first order, each with its module
pub record AreInstancesOf (p : ProgramTree) (instances : List Instance) : Type 0 where
  pub places : HasInstances p (places_of instances)
  pub modules : Each (IsOfModule p) instances
