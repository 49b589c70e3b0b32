-- Two lamps of one module, and the names of their faults.
use Rattle.std.specs.Prelude.{◌≡◌, false, List, [], ◌∷◌, None, codes, map}
use Rattle.smv_language.specs.ProgramTree.{Path, boolean, instance, var, ModuleTree, ProgramTree}
use Rattle.smv_language.specs.Values.{truth}
use Rattle.fault_instructions.specs.declared.instructions.Dynamics.TheVariants.{Permanent}
use Rattle.fault_instructions.specs.declared.instructions.Start.TheVariants.{Nominal}
use Rattle.fault_instructions.specs.declared.effects.ConstantEffect.TheVariants.{StuckAt}
use Rattle.fault_instructions.specs.Instructions.{InstructionTree, of_constant}
use Rattle.fault_weave.specs.Faults.{Fault}
use Rattle.fault_cause_laws.specs.CauseRules.{fault_path}
use Rattle.fault_cause_laws.specs.FaultNamesLaws.{AreFaultsOf}

-- MODULE Lamp VAR on : boolean;
abbrev pub lamp_module : ModuleTree
lamp_module = record { name = codes "Lamp"; formals = []; sections = var (record { name = codes "on"; what = boolean } ∷ []) ∷ [] }

-- MODULE main VAR a : Lamp; b : Lamp;
abbrev pub main_module : ModuleTree
main_module = record {
  name = codes "main";
  formals = [];
  sections = var (record { name = codes "a"; what = instance (codes "Lamp") [] }
      ∷ record { name = codes "b"; what = instance (codes "Lamp") [] } ∷ []) ∷ [];
}

-- the program of both modules
abbrev pub lamps : ProgramTree
lamps = lamp_module ∷ main_module ∷ []

-- EXTENSION OF MODULE Lamp SLICE Bulb AFFECTS on WITH MODE dark : Permanent StuckAt(FALSE);
abbrev pub bulbs : InstructionTree
bulbs = record {
  name = None;
  extensions = record {
    of_module = codes "Lamp";
    slices = record {
      name = codes "Bulb";
      target = codes "on";
      start = Nominal;
      modes = record { name = codes "dark"; mark = None; dynamics = Permanent; effect = of_constant StuckAt (truth false); guard = None }
          ∷ [];
    } ∷ [];
  } ∷ [];
}

-- a.Bulb.dark and b.Bulb.dark
abbrev pub two_names : List Path
two_names = (codes "a" ∷ codes "Bulb" ∷ codes "dark" ∷ []) ∷ (codes "b" ∷ codes "Bulb" ∷ codes "dark" ∷ []) ∷ []

-- nothing breaks a rule, and each lamp has its fault, with a name of its own
abbrev pub LampsHaveTwoNames : Type 0
LampsHaveTwoNames = (faults : List Fault) × AreFaultsOf lamps bulbs faults × (map fault_path faults ≡ two_names)
