use Rattle.std.proofs.Common.{◌≡◌, drop}
use Rattle.smv_type_laws.specs.DeclaredKinds.{has_double}
use Rattle.smv_types.specs.MemberTests.{has_met, met_again}
use Rattle.smv_types.proofs.members.has_double.Given as goal

abbrev pub invariant-loop-member : goal.invariant-loop-member
invariant-loop-member l = met_again (has_met l.met) (drop l.member-index l.members) ≡ has_double l.members
