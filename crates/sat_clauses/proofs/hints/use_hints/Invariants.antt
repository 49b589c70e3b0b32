use Rattle.std.proofs.Common.{◌≡◌, ◌+◌, length, drop}
use Rattle.sat_clauses.specs.Fault.{fault_of}
use Rattle.sat_clauses.proofs.hints.use_hints.Given as goal

-- the hints that are left give the fault of all
abbrev pub invariant-loop-i : goal.invariant-loop-i
invariant-loop-i l = record {
  rest : fault_of l.clauses.clauses l.trail (l.i + 1) (drop l.i l.hints) ≡ fault_of l.clauses.clauses l.initial.trail 1 l.hints;
  same_vars : length l.trail ≡ length l.initial.trail;
}
