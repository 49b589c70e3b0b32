use Rattle.std.proofs.Common.{arith, ap, ◌∙◌}
use Rattle.smv_language.specs.ExpressionTree.{tree_of, branches_of}
use Rattle.smv_language.proofs.WrittenLaws.{tree_of_case}
use Rattle.smv_type_laws.specs.Costs.{cost_of, branches_cost}
use Rattle.smv_types.proofs.TreeLaws.{branches_cost_more}
use Rattle.smv_types.proofs.cost.+cost.Goals as goal

pub cost-returns-in-Case : goal.cost-returns-in-Case
cost-returns-in-Case g t c =
    let whole = ap cost_of (ap tree_of c.in-Case.is ∙ tree_of_case c.in-Case.branches) in
    let parts = ap (λ bs. branches_cost (branches_of bs)) c.as_slice.ensures in
    omega (arith, whole, parts, c.parts_cost.ensures, c.both-in-Case.ensures)

pub parts_cost-loop-condition-preserved : goal.parts_cost-loop-condition-preserved
parts_cost-loop-condition-preserved g t c =
    let more = branches_cost_more c.args.branches.now c.loop-condition.condition-index c.loop-condition-item.result (omega (arith, c.loop-condition-test.true)) in
    let condition = ap (λ b. cost_of (tree_of b.0)) c.loop-condition-item.is in
    let value = ap (λ b. cost_of (tree_of b.1)) c.loop-condition-item.is in
    omega (arith, more, condition, value, c.cost.ensures, c.cost-in-loop-condition.ensures, c.both.ensures, c.both-total.ensures, c.loop-condition.invariant)
