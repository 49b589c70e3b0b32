use Rattle.std.proofs.Common.{◌≡◌, drop}
use Rattle.fault_cause_laws.specs.CauseRules.{same_path}
use Rattle.fault_causes_reader.proofs.paths.is_same_path.Given as goal

abbrev pub invariant-loop-i : goal.invariant-loop-i
invariant-loop-i l = same_path (drop l.i l.x) (drop l.i l.y) ≡ same_path l.x l.y
