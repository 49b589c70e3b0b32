-- the place in what is left, and how many are passed, are the place in the whole
use Rattle.std.proofs.Common.{◌≡◌, ◌+◌, drop}
use Rattle.cut_search.specs.Places.{place_of}
use Rattle.cut_search.proofs.sets.place_in.Given as goal

abbrev pub invariant-loop-k : goal.invariant-loop-k
invariant-loop-k l = place_of l.set (drop l.k l.found) + l.k ≡ place_of l.set l.found
