use Rattle.std.proofs.Common.{◌≡◌, drop}
use Rattle.smv_language.specs.ExpressionTree.{trees_of, branches_of}
use Rattle.smv_evaluation.specs.Evaluation.{known_value, members_of, taken_of}
use Rattle.smv_evaluation.proofs.ask.+ask.Given as goal

abbrev pub invariant-ask_members-loop-member : goal.invariant-ask_members-loop-member
invariant-ask_members-loop-member l =
    members_of (known_value l.now) (known_value l.next) l.asked (trees_of (drop l.member-index l.members)) ≡ members_of (known_value l.now) (known_value l.next) l.asked (trees_of l.members)

abbrev pub invariant-ask_branches-loop-condition : goal.invariant-ask_branches-loop-condition
invariant-ask_branches-loop-condition l =
    taken_of (known_value l.now) (known_value l.next) l.asked (branches_of (drop l.condition-index l.branches)) ≡ taken_of (known_value l.now) (known_value l.next) l.asked (branches_of l.branches)
