-- the hints so far
use Rattle.std.proofs.Common.{◌≡◌, take}
use Rattle.cert_text.proofs.packed.hints_of.Given as goal

abbrev pub invariant-loop-number : goal.invariant-loop-number
invariant-loop-number l = l.hints ≡ take l.number-index l.numbers
