use Rattle.std.proofs.Common.{◌≡◌, ◌+◌, ◌++◌, length, map, drop}
use Rattle.smv_language.specs.ModelTree.{model_tree, name_of_fault}
use Rattle.smv_flat_laws.specs.FaultModes.{mode_of}
use Rattle.fault_cause_laws.specs.StagedModel.{with_owns, own_events}
use Rattle.fault_staging.specs.CauseOf.{cause_of}
use Rattle.fault_staging.proofs.events.add_own_events.Given as goal

abbrev pub invariant-loop-i : goal.invariant-loop-i
invariant-loop-i l = record {
  made : with_owns (map mode_of l.faults) (map cause_of l.causes) l.ages (l.i + 1) (map mode_of (drop l.i l.faults)) (model_tree l.made)
      ≡ with_owns (map mode_of l.faults) (map cause_of l.causes) l.ages 1 (map mode_of l.faults) (model_tree l.fn.made);
  events : map mode_of l.events ++ own_events (length (model_tree l.made).variables) (length (model_tree l.made).symbols) (map mode_of (drop l.i l.faults))
      ≡ map mode_of l.fn.events ++ own_events (length (model_tree l.fn.made).variables) (length (model_tree l.fn.made).symbols) (map mode_of l.faults);
  names : map name_of_fault l.events ++ map name_of_fault (drop l.i l.faults) ≡ map name_of_fault l.fn.events ++ map name_of_fault l.faults;
}
