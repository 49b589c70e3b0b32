-- the literals so far are among those needed
use Rattle.std.proofs.Common.{take}
use Rattle.std.specs.Prelude.{All, Contains}
use Rattle.cert_derivations.proofs.covering.is_within.Given as goal

abbrev pub invariant-loop-lit : goal.invariant-loop-lit
invariant-loop-lit l = All (Contains l.needed) (take l.lit-index l.clause)
