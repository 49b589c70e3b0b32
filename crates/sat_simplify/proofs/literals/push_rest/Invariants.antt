use Rattle.std.proofs.Common.{◌≡◌, take}
use Rattle.sat_simplify.specs.Resolution.{joined, without}
use Rattle.sat_simplify.proofs.literals.push_rest.Given as goal

abbrev pub invariant-loop-lit : goal.invariant-loop-lit
invariant-loop-lit l = l.out.items ≡ joined l.initial.out.items (without l.but (take l.lit-index l.lits))
