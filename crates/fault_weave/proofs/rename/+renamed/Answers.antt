use Rattle.std.proofs.Common.{arith, ◌≤◌, length}
use Rattle.fault_instructions.specs.Instructions.{instruction_tree, is_affected}
use Rattle.fault_weave.specs.WovenProgram.{renaming}
use Rattle.fault_weave.proofs.RenameLaws.{members_done, branches_done}
use Rattle.fault_weave.proofs.rename.+renamed.Goals as goal

pub renamed_members-returns : goal.renamed_members-returns
renamed_members-returns t c =
    let over : length c.args.members.now ≤ c.loop-member.member-index = omega arith in
    members_done (renaming c.args.outside (is_affected (instruction_tree c.args.i.now) c.args.owner.now)) (renaming c.args.under (is_affected (instruction_tree c.args.i.now) c.args.owner.now))
    c.loop-member.made c.args.members.now c.loop-member.member-index over c.loop-member.invariant

pub renamed_branches-returns : goal.renamed_branches-returns
renamed_branches-returns t c =
    let over : length c.args.branches.now ≤ c.loop-condition.condition-index = omega arith in
    branches_done (renaming c.args.outside (is_affected (instruction_tree c.args.i.now) c.args.owner.now)) (renaming c.args.under (is_affected (instruction_tree c.args.i.now) c.args.owner.now))
    c.loop-condition.made c.args.branches.now c.loop-condition.condition-index over c.loop-condition.invariant
