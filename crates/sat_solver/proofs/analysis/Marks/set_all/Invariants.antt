use Rattle.std.proofs.Common.{◌≡◌, take}
use Rattle.sat_solver.specs.Analysis.{marked}
use Rattle.sat_solver.proofs.analysis.Marks.set_all.Given as goal

-- the variables of the literals so far are marked
abbrev pub invariant-loop-lit : goal.invariant-loop-lit
invariant-loop-lit l = l.self-inside.flags.items ≡ marked l.fn.self (take l.lit-index l.lits)
