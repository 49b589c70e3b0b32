-- No fault so far has the name.
use Rattle.std.proofs.Common.{◌≡◌, false, take}
use Rattle.fault_cause_laws.specs.CauseRules.{is_path_among}
use Rattle.fault_causes_reader.specs.FaultPaths.{paths_of}
use Rattle.fault_causes_reader.proofs.rules.fault_named.Given as goal

abbrev pub invariant-loop-place : goal.invariant-loop-place
invariant-loop-place l = is_path_among (take l.place (paths_of l.faults)) l.name ≡ false
