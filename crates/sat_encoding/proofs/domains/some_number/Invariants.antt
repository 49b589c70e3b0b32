use Rattle.std.proofs.Common.{◌≡◌, ◌≤◌, false, drop, map}
use Rattle.sat_clauses.specs.Models.{IsBelow}
use Rattle.sat_circuits.specs.Gates.{constant_lit}
use Rattle.sat_circuits.specs.Numbers.{number_word}
use Rattle.sat_expressions.specs.BuiltSignals.{signal_of}
use Rattle.sat_encoding.specs.Domains.{some_gates}
use Rattle.sat_encoding.proofs.domains.some_number.Given as goal

abbrev pub invariant-loop-n : goal.invariant-loop-n
invariant-loop-n l =
    (some_gates (signal_of l.signal) (map number_word (drop l.n-index l.numbers)) l.found l.g ≡ some_gates (signal_of l.signal) (map number_word l.numbers) (constant_lit false) l.fn.g)
    × IsBelow l.g.free l.found
    × (l.fn.g.free ≤ l.g.free)
