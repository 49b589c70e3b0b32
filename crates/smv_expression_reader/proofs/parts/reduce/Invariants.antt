use Rattle.std.proofs.Common.{◌≡◌, length}
use Rattle.smv_language.specs.ExpressionTree.{tree_of}
use Rattle.smv_expression_reader.specs.TreeBuilder as machine
use Rattle.smv_expression_reader.specs.PartViews.{parts_of}
use Rattle.smv_expression_reader.proofs.parts.reduce.Given as goal

abbrev pub invariant-loop-part : goal.invariant-loop-part
invariant-loop-part l = machine.reduce l.level (tree_of l.made.tree) (parts_of l.parts.items) ≡ machine.reduce l.fn.level (tree_of l.fn.operand.tree) (parts_of l.fn.parts.items)

abbrev pub decreases-loop-part : goal.decreases-loop-part
decreases-loop-part l = length l.parts.items
