use Rattle.std.proofs.Common.{◌≡◌, map, drop}
use Rattle.std.specs.List.{list_all}
use Rattle.fault_instructions.specs.Instructions.{mode_tree}
use Rattle.fault_rules.specs.Negations.{mode_negates}
use Rattle.fault_rules.proofs.numbers.modes_negate.Given as goal

abbrev pub invariant-loop-mode : goal.invariant-loop-mode
invariant-loop-mode l = list_all mode_negates (map mode_tree (drop l.mode-index l.modes)) ≡ list_all mode_negates (map mode_tree l.modes)
