-- the sets and the traces so far
use Rattle.std.proofs.Common.{◌≡◌}
use Rattle.cut_search_laws.specs.FoundSets.{sets_of, traces_of}
use Rattle.cut_search.proofs.answer.parted.Given as goal

abbrev pub invariant-loop-f : goal.invariant-loop-f
invariant-loop-f l = record { sets : l.sets ≡ sets_of l.yielded; traces : l.traces ≡ traces_of l.yielded }
