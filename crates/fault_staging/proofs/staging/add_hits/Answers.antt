use Rattle.std.proofs.Common.{◌<◌, ◌≤◌, length, map}
use Rattle.smv_language.specs.ModelTree.{model_tree}
use Rattle.smv_flat_laws.specs.FaultModes.{mode_of}
use Rattle.fault_cause_laws.specs.StagedModel.{with_hits}
use Rattle.fault_staging.specs.CauseOf.{cause_of}
use Rattle.fault_staging.proofs.Counts.{each_get, hits_next}
use Rattle.fault_staging.proofs.staging.add_hits.Goals as goal

pub add_hit-requires : goal.add_hit-requires
add_hit-requires c = each_get (λ z. (0 < z) × (z ≤ length c.args.faults.now)) c.args.strikes.now c.loop-k.k 0 c.requires c.loop-k-test.true

pub loop-k-preserved : goal.loop-k-preserved
loop-k-preserved c =
    hits_next (map mode_of c.args.faults.now) (cause_of c.args.cause.now) c.args.age c.args.strikes.now c.loop-k.k 0 (model_tree c.loop-k.made) (model_tree c.add_hit.new.made)
    (with_hits (map mode_of c.args.faults.now) (cause_of c.args.cause.now) c.args.age 1 c.args.strikes.now (model_tree c.args.made.now)) c.loop-k-test.true c.in_ok-add_hit.ensures c.loop-k.invariant
