use Rattle.std.proofs.Common.{take}
use Rattle.fault_causes_reader.specs.FaultPaths.{paths_of}
use Rattle.fault_causes_reader.specs.CausesFile.{IsNumberOf}
use Rattle.fault_causes_reader.proofs.rules.strikes_of.Given as goal
use Rattle.smv_language.specs.Trace.{EachBoth}

abbrev pub invariant-loop-name : goal.invariant-loop-name
invariant-loop-name l = EachBoth (IsNumberOf (paths_of l.faults)) (take l.name-index l.names) l.strikes
