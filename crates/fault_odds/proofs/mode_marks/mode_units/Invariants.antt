use Rattle.std.proofs.Common.{◌≡◌, map, drop}
use Rattle.fault_instructions.specs.Instructions.{mode_tree}
use Rattle.fault_odds.specs.FirstMark.{mode_units}
use Rattle.fault_odds.proofs.mode_marks.mode_units.Given as goal

abbrev pub invariant-loop-other : goal.invariant-loop-other
invariant-loop-other l = mode_units l.mode (map mode_tree (drop l.other-index l.modes)) ≡ mode_units l.mode (map mode_tree l.modes)
