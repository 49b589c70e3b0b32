-- An actual is judged by what is known of its formal, or by its value.
use Rattle.std.proofs.Common.{sym, ◌∙◌}
use Rattle.smv_language.specs.ExpressionTree.{tree_of}
use Rattle.smv_flat.proofs.JudgeHanded.{plain_actual, value_actual}
use Rattle.smv_flat.proofs.values.judge_actual.Goals as goal

pub returns-then-is_plain : goal.returns-then-is_plain
returns-then-is_plain c =
    plain_actual c.args.scope.now.scene c.requires.scope.1.scene c.args.spot c.args.inner c.args.formal (tree_of c.args.actual.now) (sym c.is_plain.ensures ∙ c.if-is_plain.true)
    c.formal-known.result c.formal-known.ensures.formal c.is_nothing.result c.is_circle.result c.is_nothing.ensures c.is_circle.ensures

pub returns : goal.returns
returns c =
    value_actual c.args.scope.now.scene c.requires.scope.1.scene c.args.scope.now.needs c.requires.scope.1.needs c.args.spot c.args.inner c.args.formal (tree_of c.args.actual.now)
    (sym c.is_plain.ensures ∙ c.if-is_plain.false) c.formal-known.result c.formal-known.ensures.formal c.is_on_formal_circle.result c.is_on_formal_circle.ensures
    c.in_ok-judged.judged c.in_ok-judged.ensures.judged
