-- no literal has an opposite in a window so far
use Rattle.std.proofs.Common.{ℕ, ◌<◌, All}
use Rattle.cert_derivations.specs.Marks.{LacksIn}
use Rattle.cert_derivations.proofs.marks.lack_opposites.Given as goal

abbrev pub invariant-loop-window : goal.invariant-loop-window
invariant-loop-window l = (w : ℕ) → w < l.window → All (LacksIn w l.lits) l.lits
