use Rattle.std.proofs.Common.{◌≡◌, ◌≤◌, ◌-◌, ◌++◌, length, map}
use Rattle.std.specs.List.{range_with_len}
use Rattle.sat_circuits.specs.Meaning.{AllBelow}
use Rattle.sat_expressions.specs.BuiltSignals.{signals_of}
use Rattle.sat_encoding.specs.History.{literal_of}
use Rattle.sat_encoding.proofs.bad.last_literals.Given as goal

abbrev pub invariant-loop-i : goal.invariant-loop-i
invariant-loop-i l =
    (l.literals ++ map (literal_of (signals_of l.signals)) (range_with_len l.i (length l.signals - l.i))
    ≡ map (literal_of (signals_of l.signals)) (range_with_len (length l.signals - l.count) l.count))
    × AllBelow l.g.free l.literals
    × (l.i ≤ length l.signals)
