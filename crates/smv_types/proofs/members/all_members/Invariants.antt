use Rattle.std.proofs.Common.{◌≡◌, drop, None}
use Rattle.smv_types.specs.ListKinds.{add_all}
use Rattle.smv_types.specs.Types.{members_judged}
use Rattle.smv_types.proofs.members.all_members.Given as goal

abbrev pub invariant-loop-member : goal.invariant-loop-member
invariant-loop-member l = add_all l.values (members_judged (drop l.member-index l.members)) ≡ add_all None (members_judged l.members)
