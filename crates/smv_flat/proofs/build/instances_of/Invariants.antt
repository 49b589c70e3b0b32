-- The instances so far are those of what was read so far.
use Rattle.std.proofs.Common.{◌≡◌, ◌++◌, map, drop}
use Rattle.std.specs.List.{flat_map}
use Rattle.smv_language.specs.ModelTree.{instance_tree}
use Rattle.smv_flat.specs.FormulaLists.{instance_told}
use Rattle.smv_flat.proofs.build.instances_of.Given as goal

abbrev pub invariant-loop-spot : goal.invariant-loop-spot
invariant-loop-spot l = map instance_tree l.instances ++ flat_map (instance_told l.scene) (drop l.spot-index l.scene.spots.items) ≡ flat_map (instance_told l.scene) l.scene.spots.items
