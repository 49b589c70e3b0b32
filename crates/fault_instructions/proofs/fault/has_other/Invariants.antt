use Rattle.std.proofs.Common.{◌≡◌, drop}
use Rattle.std.specs.List.{list_any}
use Rattle.fault_instructions.specs.AllowedEffects.{differs}
use Rattle.fault_instructions.proofs.fault.has_other.Given as goal

abbrev pub invariant-loop-member : goal.invariant-loop-member
invariant-loop-member l = list_any (differs l.first) (drop l.member-index l.rest) ≡ list_any (differs l.first) l.rest
