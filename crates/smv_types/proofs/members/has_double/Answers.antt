use Rattle.std.proofs.Common.{arith}
use Rattle.smv_types.specs.MemberTests.{has_met}
use Rattle.smv_types.proofs.MetLaws.{first_again, again_step}
use Rattle.smv_types.proofs.members.has_double.Goals as goal

pub loop-member-init : goal.loop-member-init
loop-member-init c = first_again (has_met c.new-met.result) c.args.members.now c.new-met.ensures

pub loop-member-preserved : goal.loop-member-preserved
loop-member-preserved c =
    again_step (has_met c.loop-member.met) (has_met c.add.new.self) c.args.members.now c.loop-member.member-index c.member-item.result c.in_ok-add.field-0 (omega arith) c.member-item.is c.in_ok-add.ensures.new
    c.if-not-branch.false c.in_ok-add.ensures.added c.loop-member.invariant
