use Rattle.std.proofs.Common.{◌≡◌, ◌++◌, length, map, drop}
use Rattle.smv_language.specs.ModelTree.{model_tree, name_of_fault}
use Rattle.smv_flat_laws.specs.FaultModes.{mode_of}
use Rattle.fault_cause_laws.specs.StagedModel.{with_each_cause, age_numbers, cause_events}
use Rattle.fault_staging.specs.CauseOf.{cause_of, told_cause}
use Rattle.fault_staging.proofs.staging.add_causes.Given as goal

abbrev pub invariant-loop-cause : goal.invariant-loop-cause
invariant-loop-cause l = record {
  made : with_each_cause (map mode_of l.faults) (model_tree l.made) (map cause_of (drop l.cause-index l.causes)) ≡ with_each_cause (map mode_of l.faults) (model_tree l.fn.made) (map cause_of l.causes);
  ages : l.ages.items ++ age_numbers (length (model_tree l.made).variables) (map cause_of (drop l.cause-index l.causes)) ≡ l.fn.ages.items ++ age_numbers (length (model_tree l.fn.made).variables) (map cause_of l.causes);
  events : map mode_of l.events ++ cause_events (length (model_tree l.made).variables) (length (model_tree l.made).symbols) (map cause_of (drop l.cause-index l.causes))
      ≡ map mode_of l.fn.events ++ cause_events (length (model_tree l.fn.made).variables) (length (model_tree l.fn.made).symbols) (map cause_of l.causes);
  names : map name_of_fault l.events ++ map told_cause (drop l.cause-index l.causes) ≡ map name_of_fault l.fn.events ++ map told_cause l.causes;
}
