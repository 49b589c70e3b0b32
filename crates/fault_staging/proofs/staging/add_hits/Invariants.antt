use Rattle.std.proofs.Common.{◌≡◌, ◌+◌, map, drop}
use Rattle.smv_language.specs.ModelTree.{model_tree}
use Rattle.smv_flat_laws.specs.FaultModes.{mode_of}
use Rattle.fault_cause_laws.specs.StagedModel.{with_hits}
use Rattle.fault_staging.specs.CauseOf.{cause_of}
use Rattle.fault_staging.proofs.staging.add_hits.Given as goal

abbrev pub invariant-loop-k : goal.invariant-loop-k
invariant-loop-k l =
    with_hits (map mode_of l.faults) (cause_of l.cause) l.age (l.k + 1) (drop l.k l.strikes) (model_tree l.made)
    ≡ with_hits (map mode_of l.faults) (cause_of l.cause) l.age 1 l.strikes (model_tree l.fn.made)
