-- what is left, from the number before on, decides as the whole does
use Rattle.std.proofs.Common.{◌≡◌, ◌-◌, drop}
use Rattle.cut_sets.specs.Tests.{is_rising}
use Rattle.cut_sets.proofs.sets.rises.Given as goal

abbrev pub invariant-loop-k : goal.invariant-loop-k
invariant-loop-k l = is_rising (drop (l.k - 1) l.set) ≡ is_rising l.set
