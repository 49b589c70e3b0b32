use Rattle.std.proofs.Common.{◌≡◌, map, drop}
use Rattle.smv_language.specs.Flat.{FlatInstance}
use Rattle.smv_flat.specs.ResolvedAt.{IsAt}
use Rattle.fault_rules.specs.PlacedSlices.{seen_placed}
use Rattle.fault_extend_laws.specs.SliceUses.{uses_of_slices}
use Rattle.fault_extend.specs.GuardJudgement.{program_in, model_in}
use Rattle.fault_extend.proofs.Deciding.{Decides}
use Rattle.fault_extend.proofs.guards.judge_instance.Given as goal

abbrev pub invariant-loop-placed : goal.invariant-loop-placed
invariant-loop-placed l =
    (at : FlatInstance) → IsAt (program_in l.nominal) (model_in l.nominal) l.instance at → at.module_name ≡ l.«module» →
    Decides (program_in l.nominal) (model_in l.nominal) (uses_of_slices (map seen_placed (drop l.placed-index l.slices)) at) (uses_of_slices (map seen_placed l.slices) at)
