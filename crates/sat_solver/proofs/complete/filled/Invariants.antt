use Rattle.std.proofs.Common.{◌≡◌, ◌≢◌, ◌+◌, ◌<◌, ◌≤◌, ◌-◌, ◌^◌, ℕ, Bool, false, Some, None, length, slice_index_or}
use Rattle.sat_solver.proofs.complete.filled.Given as goal

-- the values are kept, each variable so far that was free is false, and the others are as they were
abbrev pub invariant-loop-var : goal.invariant-loop-var
invariant-loop-var l = record {
  positive : 1 ≤ l.var;
  within : l.var ≤ l.vars + 1;
  small : l.vars < 2 ^ 62;
  most : l.vars + 1 ≡ length l.assign;
  places : length l.all ≡ length l.assign;
  kept : (x : ℕ) (v : Bool) → slice_index_or l.assign x None ≡ Some v → slice_index_or l.all x None ≡ Some v;
  rest : (x : ℕ) → 0 < x → x < l.var → slice_index_or l.assign x None ≡ None → slice_index_or l.all x None ≡ Some false;
  later : (x : ℕ) → l.var ≤ x → slice_index_or l.all x None ≡ slice_index_or l.assign x None;
  taken : (x : ℕ) → 0 < x → x < l.var → slice_index_or l.all x None ≢ None;
}

abbrev pub decreases-loop-var : goal.decreases-loop-var
decreases-loop-var l = l.vars + 1 - l.var
