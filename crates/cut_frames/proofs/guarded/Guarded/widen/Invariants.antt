use Rattle.cut_frames.specs.GuardedSearch.{HasWidened}
use Rattle.cut_frames.proofs.guarded.Guarded.widen.Given as goal

abbrev pub invariant-loop : goal.invariant-loop
invariant-loop g l = HasWidened l.initial.self l.self l.counter
