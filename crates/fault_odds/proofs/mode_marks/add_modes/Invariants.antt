use Rattle.std.proofs.Common.{◌≡◌, ◌++◌, map, drop}
use Rattle.fault_instructions.specs.Instructions.{mode_tree}
use Rattle.fault_odds.specs.Marks.{fault_of_mark}
use Rattle.fault_odds.proofs.mode_marks.add_modes.Given as goal

abbrev pub invariant-loop-mode : goal.invariant-loop-mode
invariant-loop-mode l = l.marks ++ map (λ m. fault_of_mark m.mark) (map mode_tree (drop l.mode-index l.modes)) ≡ l.initial.marks ++ map (λ m. fault_of_mark m.mark) (map mode_tree l.modes)
