use Rattle.std.proofs.Common.{◌≡◌, ◌+◌, [], map, drop, length}
use Rattle.fault_instructions.specs.Instructions.{mode_tree}
use Rattle.fault_rules.specs.Symbols.{faults_among}
use Rattle.fault_rules.proofs.modes.judge_each.Given as goal

abbrev pub invariant-loop-mode : goal.invariant-loop-mode
invariant-loop-mode l = record {
  faults : faults_among l.judged l.symbols l.names l.last (map mode_tree (drop l.mode-index l.modes)) ≡ faults_among l.judged l.symbols [] l.initial.last (map mode_tree l.modes);
  last : l.last + length (drop l.mode-index l.modes) ≡ l.initial.last + length l.modes;
}
