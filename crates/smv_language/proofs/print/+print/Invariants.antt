use Rattle.std.proofs.Common.{◌≡◌, ◌++◌, drop, map, codes}
use Rattle.smv_language.specs.Text.{text_of, each_after, branches_text}
use Rattle.smv_language.specs.ExpressionTree.{tree_of, branches_of}
use Rattle.smv_language.proofs.print.+print.Given as goal

abbrev pub invariant-append_expressions-loop-expression : goal.invariant-append_expressions-loop-expression
invariant-append_expressions-loop-expression l =
    l.text ++ each_after (codes ", ") (map text_of (map tree_of (drop l.expression-index l.more))) ≡
    l.initial.text ++ each_after (codes ", ") (map text_of (map tree_of l.more))

abbrev pub invariant-append_branches-loop-condition : goal.invariant-append_branches-loop-condition
invariant-append_branches-loop-condition l =
    l.text ++ branches_text (branches_of (drop l.condition-index l.branches)) ≡ l.initial.text ++ branches_text (branches_of l.branches)
