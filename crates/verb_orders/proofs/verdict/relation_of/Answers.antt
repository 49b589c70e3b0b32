use Rattle.std.proofs.Common.{◌∙◌, arith}
use Rattle.verb_orders.proofs.VerdictLaws.{no_moment, last_moment}
use Rattle.verb_orders.proofs.verdict.relation_of.Goals as goal

pub returns-then-count-eq0 : goal.returns-then-count-eq0
returns-then-count-eq0 c = no_moment c.args.trace.now (omega arith)

pub returns : goal.returns
returns c = c.relation_at.ensures ∙ last_moment c.args.trace.now _ c.at.result.now (omega arith) c.at.ensures
