use Rattle.std.proofs.Common.{map, take}
use Rattle.fault_staging.specs.CauseOf.{cause_of}
use Rattle.fault_causes_reader.specs.FaultPaths.{paths_of}
use Rattle.fault_causes_reader.specs.StageView.{written_trees}
use Rattle.fault_causes_reader.specs.CausesFile.{IsReadIn}
use Rattle.fault_causes_reader.proofs.rules.numbered_causes.Given as goal
use Rattle.smv_language.specs.Trace.{EachBoth}

abbrev pub invariant-loop-cause : goal.invariant-loop-cause
invariant-loop-cause l = EachBoth (IsReadIn (paths_of l.faults)) (written_trees (take l.cause-index l.written)) (map cause_of l.causes)
