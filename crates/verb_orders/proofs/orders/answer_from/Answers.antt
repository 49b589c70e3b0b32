use Rattle.std.proofs.Common.{◌≡◌, None, IsTrue, false, arith}
use Rattle.verb_orders.proofs.OrderLaws.{trace_found, some_trace}
use Rattle.verb_orders.proofs.orders.answer_from.Goals as goal

pub concluded-requires-clause-staged : goal.concluded-requires-clause-staged
concluded-requires-clause-staged g c = c.requires.staged

pub concluded-requires-clause-searched : goal.concluded-requires-clause-searched
concluded-requires-clause-searched g c = c.requires.searched

pub concluded-requires-clause-none : goal.concluded-requires-clause-none
concluded-requires-clause-none g c = let is : IsTrue c.is_empty.result = grind arith in c.is_empty.ensures.0 is

pub concluded-requires-clause-told : goal.concluded-requires-clause-told
concluded-requires-clause-told g c = tt

pub returns-then-is_empty : goal.returns-then-is_empty
returns-then-is_empty g c = c.concluded.ensures

pub at-requires : goal.at-requires
at-requires g c = let is_not : c.is_empty.result ≡ false = grind arith in some_trace c.args.some.now.analysis.traces c.is_empty.result c.is_empty.ensures is_not

pub answer_of-requires-clause-staged : goal.answer_of-requires-clause-staged
answer_of-requires-clause-staged g c = c.requires.staged

pub answer_of-requires-clause-trace : goal.answer_of-requires-clause-trace
answer_of-requires-clause-trace g c = trace_found c.args.staged.now None c.args.depth c.args.some.now c.requires.searched c.at.result.now c.at.ensures

pub returns : goal.returns
returns g c = c.answer_of.ensures
