use Rattle.std.proofs.Common.{◌≡◌, ◌+◌, ◌≤◌, length, count_by, eqb, vec_len, vec_capacity}
use Rattle.sat_solver.specs.Pass.{IsPassing}
use Rattle.sat_solver.proofs.pass.pass.Given as goal

abbrev pub invariant-loop-i : goal.invariant-loop-i
invariant-loop-i l = record {
  lists : l.mine.lists ≡ l.initial.mine.lists;
  passing : IsPassing l.assign l.lit l.clauses.clauses l.other.homes l.initial.mine.homes l.mine.homes l.initial.found.items l.found.items;
  few : vec_len l.found + count_by (eqb l.list) l.mine.homes ≤ vec_len l.initial.found + length l.initial.mine.homes;
  room : vec_capacity l.initial.found ≤ vec_capacity l.found;
}

abbrev pub decreases-loop-i : goal.decreases-loop-i
decreases-loop-i l = count_by (eqb l.list) l.mine.homes
