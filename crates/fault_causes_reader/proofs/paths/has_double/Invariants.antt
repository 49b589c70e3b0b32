use Rattle.std.proofs.Common.{◌≡◌, drop}
use Rattle.fault_cause_laws.specs.CauseRules.{has_double}
use Rattle.fault_causes_reader.proofs.paths.has_double.Given as goal

abbrev pub invariant-loop-i : goal.invariant-loop-i
invariant-loop-i l = has_double (drop l.i l.paths) ≡ has_double l.paths
