use Rattle.std.proofs.Common.{◌≡◌, drop, None}
use Rattle.std.specs.Prelude.{map}
use Rattle.smv_type_laws.specs.Costs.{member_number}
use Rattle.smv_types.specs.Types.{spread}
use Rattle.smv_types.proofs.bits.ends_of.Given as goal

abbrev pub invariant-loop-member : goal.invariant-loop-member
invariant-loop-member l =
    spread l.ends (map (member_number l.numbers.texts.now) (drop l.member-index l.members)) ≡ spread None (map (member_number l.numbers.texts.now) l.members)
