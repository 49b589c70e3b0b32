use Rattle.std.proofs.Common.{◌≡◌, ◌≤◌, length, take}
use Rattle.sat_encoding_laws.specs.Meanings.{IsSignal}
use Rattle.sat_expressions.specs.BuiltSignals.{signal_of, signals_of}
use Rattle.sat_expressions.specs.Choices.{chosen_gates, upward_gates}
use Rattle.sat_expressions.proofs.choices.choices.Given as goal

abbrev pub invariant-loop-left : goal.invariant-loop-left
invariant-loop-left l =
    (chosen_gates l.width l.conditions (signals_of l.values) l.fn.g ≡ upward_gates l.width (take l.left l.conditions) (take l.left (signals_of l.values)) (l.g, signal_of l.chosen))
    × IsSignal l.g (signal_of l.chosen)
    × (l.fn.g.free ≤ l.g.free)
    × (l.left ≤ length l.conditions)

abbrev pub decreases-loop-left : goal.decreases-loop-left
decreases-loop-left l = l.left
