use Rattle.std.proofs.Common.{◌≡◌, drop, None}
use Rattle.smv_language.specs.ExpressionTree.{trees_of, branches_of}
use Rattle.smv_type_laws.specs.ExpressionKinds.{judge_trees, judge_values}
use Rattle.smv_types.specs.Names.{name_kind}
use Rattle.smv_types.specs.ListKinds.{add_all, guard_all, no_guards}
use Rattle.smv_types.proofs.judge.+judge.Given as goal

abbrev pub invariant-judge_members-loop-member : goal.invariant-judge_members-loop-member
invariant-judge_members-loop-member l =
    add_all l.values (judge_trees (name_kind l.sorts) (trees_of (drop l.member-index l.members))) ≡ add_all None (judge_trees (name_kind l.sorts) (trees_of l.members))

abbrev pub invariant-judge_values-loop-condition : goal.invariant-judge_values-loop-condition
invariant-judge_values-loop-condition l =
    add_all l.values (judge_values (name_kind l.sorts) l.sets (branches_of (drop l._condition-index l.branches))) ≡ add_all None (judge_values (name_kind l.sorts) l.sets (branches_of l.branches))

abbrev pub invariant-judge_conditions-loop-condition : goal.invariant-judge_conditions-loop-condition
invariant-judge_conditions-loop-condition l =
    guard_all (name_kind l.sorts) l.guards (branches_of (drop l.condition-index l.branches)) ≡ guard_all (name_kind l.sorts) no_guards (branches_of l.branches)
