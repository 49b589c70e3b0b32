use Rattle.std.proofs.Common.{◌≡◌, Some, IsTrue, false, sym, subst, arith}
use Rattle.std.proofs.lemmas.Result.{IfOk-weaker}
use Rattle.verb_orders.specs.ClaimSearch.{IsSearchOf, IsConclusion, relation_in}
use Rattle.verb_orders.proofs.OrderLaws.{trace_found, some_trace}
use Rattle.verb_orders.proofs.orders.answer_against.Goals as goal

pub concluded-requires-clause-staged : goal.concluded-requires-clause-staged
concluded-requires-clause-staged g c = c.requires.staged

pub concluded-requires-clause-searched : goal.concluded-requires-clause-searched
concluded-requires-clause-searched g c = subst (λ r. IsSearchOf c.args.staged.now (Some r) c.args.depth c.args.other.now) (sym c.relation_of-relation.ensures) c.requires.searched

pub concluded-requires-clause-none : goal.concluded-requires-clause-none
concluded-requires-clause-none g c = let is : IsTrue c.is_empty.result = grind arith in c.is_empty.ensures.0 is

pub concluded-requires-clause-told : goal.concluded-requires-clause-told
concluded-requires-clause-told g c = (c.args.trace.now, c.requires.trace, sym c.relation_of-relation.ensures)

pub returns-then-is_empty : goal.returns-then-is_empty
returns-then-is_empty g c = c.concluded.ensures

pub at-requires : goal.at-requires
at-requires g c = let is_not : c.is_empty.result ≡ false = grind arith in some_trace c.args.other.now.analysis.traces c.is_empty.result c.is_empty.ensures is_not

pub differing-requires-clause-staged : goal.differing-requires-clause-staged
differing-requires-clause-staged g c = c.requires.staged

pub differing-requires-clause-one : goal.differing-requires-clause-one
differing-requires-clause-one g c = c.requires.trace

pub differing-requires-clause-other : goal.differing-requires-clause-other
differing-requires-clause-other g c = trace_found c.args.staged.now (Some (relation_in c.args.trace.now)) c.args.depth c.args.other.now c.requires.searched c.at.result.now c.at.ensures

pub returns : goal.returns
returns g c = IfOk-weaker c.differing.result _ (IsConclusion c.args.staged.now c.args.depth) (λ k h. h c.args.depth) c.differing.ensures
