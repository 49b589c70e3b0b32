use Rattle.std.proofs.Common.{◌≡◌, ◌≤◌, false, drop, map}
use Rattle.sat_clauses.specs.Models.{IsBelow}
use Rattle.sat_circuits.specs.Gates.{constant_lit}
use Rattle.sat_expressions.specs.BuiltSignals.{signal_of}
use Rattle.sat_encoding.specs.Domains.{some_gates, symbol_word}
use Rattle.sat_encoding.proofs.domains.some_symbol.Given as goal

abbrev pub invariant-loop-symbol : goal.invariant-loop-symbol
invariant-loop-symbol l =
    (some_gates (signal_of l.signal) (map (symbol_word l.symbols) (drop l.symbol-index l.listed)) l.found l.g ≡ some_gates (signal_of l.signal) (map (symbol_word l.symbols) l.listed) (constant_lit false) l.fn.g)
    × IsBelow l.g.free l.found
    × (l.fn.g.free ≤ l.g.free)
