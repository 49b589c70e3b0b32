-- the steps so far
use Rattle.std.proofs.Common.{◌≡◌, take}
use Rattle.cert_text.proofs.packed.PackedSteps.of_list.Given as goal

abbrev pub invariant-loop-i : goal.invariant-loop-i
invariant-loop-i l = l.steps ≡ take l.i l.list
