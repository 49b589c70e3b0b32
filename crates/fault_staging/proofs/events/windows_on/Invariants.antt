use Rattle.std.proofs.Common.{◌≡◌, map, drop}
use Rattle.std.specs.Prelude.{option_map}
use Rattle.smv_language.specs.ModelTree.{flat_tree}
use Rattle.fault_cause_laws.specs.StagedModel.{joined, windows_on}
use Rattle.fault_staging.specs.CauseOf.{cause_of, joined_from}
use Rattle.fault_staging.proofs.events.windows_on.Given as goal

abbrev pub invariant-loop-k : goal.invariant-loop-k
invariant-loop-k l =
    joined_from (option_map flat_tree l.windows) (windows_on l.fault (map cause_of (drop l.k l.causes)) (drop l.k l.ages)) ≡ joined (windows_on l.fault (map cause_of l.causes) l.ages)
