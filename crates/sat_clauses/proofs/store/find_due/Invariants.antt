use Rattle.std.proofs.Common.{◌≡◌, ◌+◌, ◌-◌, ◌≤◌, ◌++◌, length, drop, vec_len, vec_capacity}
use Rattle.sat_clauses.specs.Store.{due_from}
use Rattle.sat_clauses.proofs.store.find_due.Given as goal

-- what is left gives the rest
abbrev pub invariant-loop-i : goal.invariant-loop-i
invariant-loop-i l = record {
  within : l.i ≤ length l.clauses;
  rest : l.found.items ++ due_from l.assign l.lit (l.i + 1) (drop l.i l.clauses) ≡ due_from l.assign l.lit 1 l.clauses;
  few : vec_len l.found ≤ l.i;
  room : length l.clauses ≤ vec_capacity l.found;
  capacity : vec_capacity l.initial.found ≤ vec_capacity l.found;
}

abbrev pub decreases-loop-i : goal.decreases-loop-i
decreases-loop-i l = length l.clauses - l.i
