use Rattle.std.proofs.Common.{◌≡◌, drop}
use Rattle.std.specs.List.{list_all}
use Rattle.fault_rules.specs.Negations.{member_negates}
use Rattle.fault_rules.proofs.numbers.members_negate.Given as goal

abbrev pub invariant-loop-member : goal.invariant-loop-member
invariant-loop-member l = list_all member_negates (drop l.member-index l.members) ≡ list_all member_negates l.members
