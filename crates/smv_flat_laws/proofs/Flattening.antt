-- The model of an accepted program holds what the program's conditions hold.
use Rattle.std.proofs.Common.{◌≡◌, Some}
use Rattle.std.specs.Prelude.{codes}
use Rattle.smv_language.specs.Language.{ModuleTree, ProgramTree, find_module, FlatModel}
use Rattle.smv_flat_laws.specs.Rules.{IsWalkable, IsAccepted}
use Rattle.smv_flat_laws.specs.Model.{IsFlatOf, IsFlattened}
use Rattle.smv_flat_laws.proofs.Sections.{AreInstances, flattened}
use Rattle.smv_flat_laws.proofs.Places.{are_instances}
use Rattle.smv_flat_laws.proofs.Walkable.{accepted_walkable, main_is_there}

pub all_instances : (p : ProgramTree) → IsWalkable p → AreInstances p
all_instances p walkable =
    let main : (k : ModuleTree) × (find_module p (codes "main") ≡ Some k) = main_is_there p walkable in
    are_instances p walkable main.0 main.1

pub flattening : (p : ProgramTree) (m : FlatModel) → IsAccepted p → IsFlatOf p m → IsFlattened p m
flattening p m accepted is = flattened p (all_instances p (accepted_walkable p accepted)) m is
