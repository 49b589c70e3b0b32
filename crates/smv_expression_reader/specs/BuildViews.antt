-- The code's state of the second pass, as that of the machine.
use Rattle.std.specs.Prelude.{List, map}
use Rattle.smv_language.specs.ExpressionTree.{tree_of, branch_trees}
use Rattle.smv_expression_reader.specs.declared.tree.Hand.{Hand}
use Rattle.smv_expression_reader.specs.declared.tree.Hand.TheVariants as h
use Rattle.smv_expression_reader.specs.declared.tree.Build.{Build}
use Rattle.smv_expression_reader.specs.declared.tree.Build.TheVariants as b
use Rattle.smv_expression_reader.specs.TreeBuilder as machine

-- the operand that stands last
abbrev pub hand_view : Hand → machine.Hand
hand_view (h.Number digits) = machine.number_hand digits.value
hand_view (h.Name name) = machine.name_hand name
hand_view (h.Other grown) = machine.other_hand (tree_of grown.tree)

-- the state, over the parts that wait
abbrev pub build_view : Build → List machine.Part → machine.Build
build_view b.Ready ps = machine.ready ps
build_view (b.NameOn name) ps = machine.name_on name ps
build_view (b.HighOn lo) ps = machine.high_on lo ps
build_view (b.MinusHighOn lo) ps = machine.minus_high_on lo ps
build_view b.NextOn ps = machine.next_on ps
build_view (b.BranchOn branches) ps = machine.branch_on (map branch_trees branches.branches) ps
build_view (b.Holds hand) ps = machine.holds (hand_view hand) ps
build_view b.Broken ps = machine.broken
