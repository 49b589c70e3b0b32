use Rattle.std.proofs.Common.{◌≡◌, map, take}
use Rattle.smv_language.specs.ExpressionTree.{tree_of, branch_trees}
use Rattle.fault_instructions.specs.Instructions.{instruction_tree, is_affected}
use Rattle.fault_weave.specs.WovenProgram.{renaming, tree_map_both}
use Rattle.fault_weave.proofs.RenameLaws.{renamed_branch}
use Rattle.fault_weave.proofs.rename.+renamed.Given as goal

abbrev pub invariant-renamed_members-loop-member : goal.invariant-renamed_members-loop-member
invariant-renamed_members-loop-member l =
    map tree_of l.made ≡
    map (λ e. tree_map_both (renaming l.outside (is_affected (instruction_tree l.i) l.owner)) (renaming l.under (is_affected (instruction_tree l.i) l.owner)) (tree_of e)) (take l.member-index l.members)

abbrev pub invariant-renamed_branches-loop-condition : goal.invariant-renamed_branches-loop-condition
invariant-renamed_branches-loop-condition l =
    map branch_trees l.made ≡
    map (renamed_branch (renaming l.outside (is_affected (instruction_tree l.i) l.owner)) (renaming l.under (is_affected (instruction_tree l.i) l.owner))) (take l.condition-index l.branches)
