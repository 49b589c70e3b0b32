use Rattle.std.proofs.Common.{◌≡◌, map, drop}
use Rattle.std.specs.Prelude.{flat_map}
use Rattle.smv_flat_laws.specs.Rules.{IsAccepted}
use Rattle.smv_flat_laws.specs.Model.{IsFlatOf}
use Rattle.smv_language.specs.ModelTree.{instance_tree}
use Rattle.fault_rules.specs.PlacedSlices.{seen_placed}
use Rattle.fault_extend_laws.specs.SliceUses.{uses_of_slices}
use Rattle.fault_extend.specs.GuardJudgement.{program_in, model_in}
use Rattle.fault_extend.proofs.Deciding.{Decides}
use Rattle.fault_extend.proofs.guards.judge_instances.Given as goal

abbrev pub invariant-loop-instance : goal.invariant-loop-instance
invariant-loop-instance l = record {
  number : l.number ≡ l.instance-index;
  decides : IsAccepted (program_in l.nominal) → IsFlatOf (program_in l.nominal) (model_in l.nominal) →
      Decides (program_in l.nominal) (model_in l.nominal) (flat_map (uses_of_slices (map seen_placed l.slices)) (map instance_tree (drop l.instance-index l.instance-items)))
      (flat_map (uses_of_slices (map seen_placed l.slices)) (map instance_tree l.instance-items));
}
