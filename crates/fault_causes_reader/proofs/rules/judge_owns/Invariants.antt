use Rattle.std.proofs.Common.{◌≡◌, ◌+◌, ◌-◌}
use Rattle.fault_cause_laws.specs.CauseRules.{own_names}
use Rattle.fault_causes_reader.specs.BrokenRules.{is_any_among, are_owns_among}
use Rattle.fault_causes_reader.proofs.rules.judge_owns.Given as goal

abbrev pub invariant-loop-i : goal.invariant-loop-i
invariant-loop-i l = is_any_among l.taken (own_names (l.i + 1) (l.faults - l.i)) ≡ are_owns_among l.taken l.faults
