use Rattle.std.proofs.Common.{◌≡◌, ◌++◌, map, drop}
use Rattle.fault_instructions.specs.Instructions.{instruction_tree}
use Rattle.fault_odds.specs.FirstMark.{units_at}
use Rattle.fault_odds.proofs.mode_marks.odds_of.Given as goal

abbrev pub invariant-loop-fault : goal.invariant-loop-fault
invariant-loop-fault l =
    l.odds ++ map (λ f. units_at (instruction_tree l.i) f.slice f.mode) (drop l.fault-index l.faults) ≡ map (λ f. units_at (instruction_tree l.i) f.slice f.mode) l.faults
