use Rattle.std.proofs.Common.{◌≡◌, ◌≤◌, Some, true, false, subst}
use Rattle.std.proofs.lemmas.Result.{IfOk-weaker}
use Rattle.base_values.specs.declared.limits.TheConstants.{MOST_HEIGHT}
use Rattle.smv_language.specs.Language.{height_of, tree_of, BytesSpellExpr, HasDepths, Formula, lexemes_of}
use Rattle.smv_expression_reader.specs.Recogniser as machine
use Rattle.smv_expression_reader.specs.TreeBuilder.{built}
use Rattle.smv_expression_reader.specs.Extents.{is_deep}
use Rattle.smv_expression_reader.proofs.ExpressionLaws.{expression_spelled, expression_only, expression_depths}
use Rattle.smv_expression_reader.proofs.reader.read_expression.Goals as goal

pub returns-clause-spelled : goal.returns-clause-spelled
returns-clause-spelled c =
    let same = c.requires.same in
    let whole : machine.is_whole (machine.run machine.start (lexemes_of c.args.bytes.now c.args.tokens.now)) ≡ true =
    subst (λ ts. machine.is_whole (machine.run machine.start ts) ≡ true) same c.in_ok-check_expression.ensures.whole in
    IfOk-weaker c.make_expression.result (λ e. built c.args.texts.now ≡ Some (tree_of e)) (λ e. BytesSpellExpr c.args.bytes.now (tree_of e))
    (λ e made. expression_spelled c.args.bytes.now c.args.tokens.now (tree_of e) c.requires.split whole (subst (λ ts. built ts ≡ Some (tree_of e)) same made)) c.make_expression.ensures.made

pub returns-clause-depths : goal.returns-clause-depths
returns-clause-depths c =
    let low : is_deep machine.start (lexemes_of c.args.bytes.now c.args.tokens.now) ≡ false = subst (λ ts. is_deep machine.start ts ≡ false) c.requires.same c.in_ok-check_expression.ensures.flat in
    IfOk-weaker c.make_expression.result (λ e. height_of (tree_of e) ≤ MOST_HEIGHT) (λ e. HasDepths c.args.bytes.now (tree_of e))
    (λ e within. expression_depths c.args.bytes.now c.args.tokens.now (tree_of e) c.requires.only low within) c.make_expression.ensures.within

pub returns-clause-only : goal.returns-clause-only
returns-clause-only c =
    IfOk-weaker c.make_expression.result (λ e. built c.args.texts.now ≡ Some (tree_of e)) (λ e. (t : Formula) → BytesSpellExpr c.args.bytes.now t → tree_of e ≡ t)
    (λ e made. expression_only c.args.bytes.now c.args.tokens.now (tree_of e) c.requires.only (subst (λ ts. built ts ≡ Some (tree_of e)) c.requires.same made)) c.make_expression.ensures.made
