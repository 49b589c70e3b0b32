use Rattle.std.proofs.Common.{◌≡◌, take}
use Rattle.smv_language.proofs.copy_program.copy_members.Given as goal

abbrev pub invariant-loop-member : goal.invariant-loop-member
invariant-loop-member l = l.made ≡ take l.member-index l.members
