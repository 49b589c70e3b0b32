use Rattle.std.proofs.Common.{◌≡◌, map, drop}
use Rattle.smv_language.specs.ExpressionTree.{tree_of}
use Rattle.fault_instructions.specs.Instructions.{mode_tree}
use Rattle.fault_weave.specs.WovenProgram.{entries_from, entries}
use Rattle.fault_weave.proofs.slices.entries.Given as goal

abbrev pub invariant-loop-mode : goal.invariant-loop-mode
invariant-loop-mode l = entries_from l.s.name (tree_of l.so_far) (map mode_tree (drop l.mode-index l.s.modes)) ≡ entries l.s.name (map mode_tree l.s.modes)
