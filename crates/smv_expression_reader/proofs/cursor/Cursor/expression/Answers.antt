use Rattle.std.proofs.Common.{◌≡◌, true, sym, ap, ◌∙◌}
use Rattle.std.specs.Prelude.{Err}
use Rattle.std.proofs.lemmas.Bool.{not-false}
use Rattle.smv_expression_reader.specs.Recogniser.{start}
use Rattle.smv_expression_reader.specs.Extents.{ends_whole}
use Rattle.smv_expression_reader.specs.SecondPass.{deep, expr_at}
use Rattle.smv_expression_reader.proofs.ReadLaws.{expr_high}
use Rattle.smv_expression_reader.proofs.cursor.Cursor.expression.Goals as goal

pub returns-in-Err-TooDeep-clause-deep : goal.returns-in-Err-TooDeep-clause-deep
returns-in-Err-TooDeep-clause-deep c = λ e.
    let front = c.split_at.ensures.front in
    let seen = c.self.view_is in
    let whole : ends_whole start c.self.inside.rest.now ≡ true = sym c.in_ok-extent.ensures.whole ∙ not-false c.in_ok-extent.extent.whole c.if-not-extent.false in
    let high : expr_at c.self.inside.rest.now ≡ deep =
    expr_high c.self.inside.rest.now c.in_ok-extent.extent.len c.in_ok-extent.ensures.len whole (λ t f. c.tree.ensures.deep t (c.in-Err-TooDeep.is ∙ ap Err c.in-Err-TooDeep.field-0-is) cc) in
    cc
