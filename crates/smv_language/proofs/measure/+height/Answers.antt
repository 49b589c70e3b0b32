use Rattle.std.proofs.Common.{rules, ◌≤◌, ◌+◌}
use Rattle.smv_language.specs.Tree.{size_of}
use Rattle.smv_language.specs.ExpressionTree.{tree_of}
use Rattle.smv_language.proofs.WrittenLaws.{tree_of_case, tree_of_set}
use Rattle.smv_language.proofs.measure.+height.Goals as goal

pub height-overflow_add-result-in-Case : goal.height-overflow_add-result-in-Case
height-overflow_add-result-in-Case t c =
    let within : c.branches_top.result + 1 ≤ size_of (tree_of c.args.e.now) = search (rules, tree_of_case) in search (rules, within)

pub height-overflow_add-result-in-SetOf : goal.height-overflow_add-result-in-SetOf
height-overflow_add-result-in-SetOf t c =
    let within : c.members_top.result + 1 ≤ size_of (tree_of c.args.e.now) = search (rules, tree_of_set) in search (rules, within)
