use Rattle.std.proofs.Common.{◌≡◌, ◌<◌, Some, true, ap, ◌∙◌, subst}
use Rattle.std.specs.Prelude.{Err}
use Rattle.base_values.specs.declared.limits.TheConstants.{MOST_HEIGHT}
use Rattle.smv_language.specs.Language.{height_of, Formula, lexemes_of}
use Rattle.smv_expression_reader.specs.Recogniser as machine
use Rattle.smv_expression_reader.specs.TreeBuilder.{built}
use Rattle.smv_expression_reader.proofs.ExpressionLaws.{expression_made, expression_high}
use Rattle.smv_expression_reader.proofs.reader.make_expression.Goals as goal

pub unreachable-requires : goal.unreachable-requires
unreachable-requires c = expression_made c.args.texts.now c.requires.whole (c.tree.ensures.none (c.in-Err-NoTree.is ∙ ap Err c.in-Err-NoTree.field-0-is))

pub returns-in-Err-TooDeep-clause-fault : goal.returns-in-Err-TooDeep-clause-fault
returns-in-Err-TooDeep-clause-fault c =
    let same = c.requires.same in
    let whole : machine.is_whole (machine.run machine.start (lexemes_of c.args.bytes.now c.args.tokens.now)) ≡ true =
    subst (λ ts. machine.is_whole (machine.run machine.start ts) ≡ true) same c.requires.whole in
    let high : (t : Formula) → built (lexemes_of c.args.bytes.now c.args.tokens.now) ≡ Some t → MOST_HEIGHT < height_of t =
    λ t e. c.tree.ensures.deep t (c.in-Err-TooDeep.is ∙ ap Err c.in-Err-TooDeep.field-0-is) (ap built same ∙ e) in
    expression_high c.args.bytes.now c.args.tokens.now c.requires.split whole high
