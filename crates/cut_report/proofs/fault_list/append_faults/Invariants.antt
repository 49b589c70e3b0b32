use Rattle.std.proofs.Common.{◌≡◌, ◌++◌, ◌+◌, map, drop}
use Rattle.cut_report.specs.FaultText.{fault_lines}
use Rattle.cut_report.proofs.fault_list.append_faults.Given as goal
use Rattle.smv_language.specs.ModelTree.{name_of_fault}

abbrev pub invariant-loop-i : goal.invariant-loop-i
invariant-loop-i l = l.text ++ fault_lines (l.i + 1) (map name_of_fault (drop l.i l.faults)) ≡ l.initial.text ++ fault_lines 1 (map name_of_fault l.faults)
