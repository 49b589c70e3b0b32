use Rattle.std.proofs.Common.{◌∙◌, ap, subst}
use Rattle.std.proofs.lemmas.Result.{IfOk-weaker}
use Rattle.sat_simplify.specs.SamePlaces.{AreMetAlike}
use Rattle.sat_simplify.specs.Slots.{standing}
use Rattle.sat_simplify.proofs.UnreadLaws.{read_same}
use Rattle.sat_simplify.proofs.simplified.Goals as goal

pub returns-clause-same : goal.returns-clause-same
returns-clause-same c =
    IfOk-weaker c.compact.result (λ x. AreMetAlike c.args.places c.as_slice.result.now x) (λ x. AreMetAlike c.args.places c.args.list.now x)
    (λ x p. read_same c.args.places c.args.list.now c.in_ok-left.left x c.in_ok-base.base c.simplify.new.base c.in_ok-base.ensures c.in_ok-simplify.ensures c.in_ok-left.ensures
    (subst (λ s. AreMetAlike c.args.places s x) c.as_slice.ensures p)) c.compact.ensures.same
