use Rattle.std.proofs.Common.{◌∙◌, arith}
use Rattle.verb_orders.proofs.VerdictLaws.{one_more, all_taken}
use Rattle.verb_orders.proofs.verdict.cut_moment.Goals as goal

pub loop-i-preserved : goal.loop-i-preserved
loop-i-preserved c = one_more c.args.moment.now c.loop-i.cut _ c.loop-i.i c.get.result (omega arith) c.get.ensures c.loop-i.invariant c.in_ok-push.ensures.ok

pub returns : goal.returns
returns c = c.loop-i.invariant ∙ all_taken c.args.moment.now c.args.variables c.loop-i.i (omega arith)
