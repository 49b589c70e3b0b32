use Rattle.std.proofs.Common.{ap, ◌∙◌}
use Rattle.std.specs.Prelude.{Err}
use Rattle.smv_expression_reader.specs.PartViews.{parts_of}
use Rattle.smv_expression_reader.specs.BuildViews.{build_view}
use Rattle.smv_expression_reader.proofs.Tallest.{tree_high}
use Rattle.smv_expression_reader.proofs.tree.tree.Goals as goal

pub returns-in-Err-TooDeep-clause-deep : goal.returns-in-Err-TooDeep-clause-deep
returns-in-Err-TooDeep-clause-deep c = λ t e made.
    tree_high (build_view c.loop-token.build (parts_of c.loop-token.parts.items)) c.args.tokens.now c.loop-token.token-index c.token-item.result c.role.result t
    c.loop-token-test.true c.token-item.is c.role.ensures c.loop-token.invariant (c.step.ensures.deep (c.in-Err-TooDeep.is ∙ ap Err c.in-Err-TooDeep.field-0-is)) made
