use Rattle.std.proofs.Common.{◌≡◌, drop, None}
use Rattle.smv_types.specs.Types.{spread}
use Rattle.sat_encoding.proofs.layout.number_ends.Given as goal

abbrev pub invariant-loop-n : goal.invariant-loop-n
invariant-loop-n l = spread l.ends (drop l.n-index l.numbers) ≡ spread None l.numbers
