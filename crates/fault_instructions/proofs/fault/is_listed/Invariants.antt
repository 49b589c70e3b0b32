use Rattle.std.proofs.Common.{◌≡◌, drop}
use Rattle.smv_language.specs.Trace.{is_member}
use Rattle.fault_instructions.specs.Instructions.{constant_value}
use Rattle.fault_instructions.proofs.fault.is_listed.Given as goal

abbrev pub invariant-loop-member : goal.invariant-loop-member
invariant-loop-member l = is_member (drop l.member-index l.members) (constant_value l.c) ≡ is_member l.members (constant_value l.c)
