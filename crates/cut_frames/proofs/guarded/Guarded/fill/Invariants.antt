use Rattle.std.proofs.Common.{take}
use Rattle.cut_frames.specs.Roles.{under_list}
use Rattle.cut_frames.specs.GuardedSearch.{HasPut}
use Rattle.cut_frames.proofs.guarded.Guarded.fill.Given as goal

abbrev pub invariant-loop-clause : goal.invariant-loop-clause
invariant-loop-clause l = HasPut l.initial.self l.self (under_list l.initial.self.places l.base l.guard.var (take l.clause-index l.clause-items))
