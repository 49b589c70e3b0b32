use Rattle.std.proofs.Common.{◌≡◌, ◌++◌, drop}
use Rattle.smv_types.specs.Types.{numbers_in}
use Rattle.smv_types.proofs.declare.listed_numbers.Given as goal

abbrev pub invariant-loop-member : goal.invariant-loop-member
invariant-loop-member l = l.listed ++ numbers_in (drop l.member-index l.members) ≡ numbers_in l.members
