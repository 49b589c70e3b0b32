use Rattle.std.proofs.Common.{◌≡◌, Some, take}
use Rattle.fault_causes_reader.specs.CauseStages.{so_far, read_of}
use Rattle.fault_causes_reader.specs.StageView.{stage_of, written_trees}
use Rattle.fault_causes_reader.proofs.reader.read_through.Given as goal

abbrev pub invariant-loop-i : goal.invariant-loop-i
invariant-loop-i l = read_of (take l.i l.tokens) ≡ Some (so_far (stage_of l.state) (written_trees l.causes))
