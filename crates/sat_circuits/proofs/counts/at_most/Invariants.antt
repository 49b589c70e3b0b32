use Rattle.std.proofs.Common.{◌+◌, ◌*◌, ◌++◌, ◌∷◌, [], length, true}
use Rattle.sat_circuits.specs.Circuit.{fold_gates}
use Rattle.sat_circuits.specs.Gates.{constant_lit}
use Rattle.sat_circuits.proofs.Turns.{Turns}
use Rattle.sat_circuits.specs.Words.{zeros}
use Rattle.sat_circuits.specs.Counts.{count_step}
use Rattle.sat_circuits.proofs.CountMeans.{CountShape}
use Rattle.sat_circuits.proofs.counts.at_most.Given as goal

abbrev pub invariant-loop-l : goal.invariant-loop-l
invariant-loop-l l =
    Turns count_step (CountShape l.fn.n (l.fn.g.free + (2 * (l.fn.n + 1)) * length l.fn.lits)) l.fn.lits l.fn.g (fold_gates count_step l.fn.lits (zeros (l.fn.n + 1) ++ constant_lit true ∷ []) l.fn.g) l.l-index l.counters l.g
