use Rattle.std.proofs.Common.{◌≡◌, take}
use Rattle.sat_simplify.specs.Resolution.{each_once}
use Rattle.sat_simplify.proofs.literals.each_once.Given as goal

abbrev pub invariant-loop-lit : goal.invariant-loop-lit
invariant-loop-lit l = l.out.items ≡ each_once (take l.lit-index l.lits)
