use Rattle.std.proofs.Common.{◌≡◌, ◌+◌, ◌≤◌, min, drop}
use Rattle.base_values.specs.declared.limits.TheConstants.{MOST_COST}
use Rattle.smv_type_laws.specs.Costs.{trees_cost, branches_cost}
use Rattle.smv_language.specs.ExpressionTree.{trees_of, branches_of}
use Rattle.smv_types.proofs.cost.+cost.Given as goal

abbrev pub invariant-members_cost-loop-member : goal.invariant-members_cost-loop-member
invariant-members_cost-loop-member g l =
    (min (l.total + trees_cost (trees_of (drop l.member-index l.members))) (MOST_COST + 1) ≡ min (trees_cost (trees_of l.members)) (MOST_COST + 1)) × (l.total ≤ MOST_COST + 1)

abbrev pub invariant-parts_cost-loop-condition : goal.invariant-parts_cost-loop-condition
invariant-parts_cost-loop-condition g l =
    (min (l.total + branches_cost (branches_of (drop l.condition-index l.branches))) (MOST_COST + 1) ≡ min (branches_cost (branches_of l.branches)) (MOST_COST + 1)) × (l.total ≤ MOST_COST + 1)
