use Rattle.std.proofs.Common.{◌≡◌, ◌++◌, true, replicate}
use Rattle.sat_solver.proofs.kept.mark.Given as goal

abbrev pub invariant-loop : goal.invariant-loop
invariant-loop l = l.marks.items ≡ l.initial.marks.items ++ replicate l.counter true
