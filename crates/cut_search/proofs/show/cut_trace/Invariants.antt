-- the moments so far, each cut
use Rattle.std.proofs.Common.{◌≡◌, map, take}
use Rattle.cut_search.proofs.show.cut_trace.Given as goal

abbrev pub invariant-loop-moment : goal.invariant-loop-moment
invariant-loop-moment l = l.cut ≡ map (take l.count) (take l.moment-index l.moment-items)
