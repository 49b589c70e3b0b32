use Rattle.std.proofs.Common.{◌≡◌, [], take, drop}
use Rattle.std.specs.Prelude.{flat_map}
use Rattle.fault_rules.specs.KeyedLists.{with_texts}
use Rattle.fault_cause_laws.specs.CauseRules.{names_of_cause}
use Rattle.fault_causes_reader.specs.FaultPaths.{paths_of}
use Rattle.fault_causes_reader.specs.StageView.{written_trees}
use Rattle.fault_causes_reader.specs.BrokenRules.{first_broken}
use Rattle.fault_causes_reader.proofs.rules.judge_causes.Given as goal

abbrev pub invariant-loop-i : goal.invariant-loop-i
invariant-loop-i l = record {
  rest : first_broken (paths_of l.faults) l.names (written_trees (take l.i l.written)) (written_trees (drop l.i l.written)) ≡ first_broken (paths_of l.faults) l.initial.names [] (written_trees l.written);
  names : l.names ≡ with_texts l.initial.names (flat_map names_of_cause (written_trees (take l.i l.written)));
}
