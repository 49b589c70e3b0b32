use Rattle.std.proofs.Common.{◌≡◌, ◌+◌, ◌++◌, drop}
use Rattle.fault_cause_laws.specs.CauseRules.{hit_names, names_of_cause}
use Rattle.fault_causes_reader.specs.StageView.{written_tree}
use Rattle.fault_causes_reader.proofs.added.cause_names.Given as goal

abbrev pub invariant-loop-i : goal.invariant-loop-i
invariant-loop-i l = l.names ++ hit_names l.cause.name (l.i + 1) (drop l.i l.cause.strikes) ≡ names_of_cause (written_tree l.cause)
