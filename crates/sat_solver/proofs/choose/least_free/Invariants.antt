use Rattle.std.proofs.Common.{◌≡◌, ◌≢◌, ◌+◌, ◌<◌, ◌≤◌, ◌-◌, ◌^◌, ℕ, None, length, slice_index_or}
use Rattle.sat_solver.proofs.choose.least_free.Given as goal

-- no variable so far is free
abbrev pub invariant-loop-var : goal.invariant-loop-var
invariant-loop-var l = record {
  positive : 1 ≤ l.var;
  within : l.var ≤ l.vars + 1;
  small : l.vars < 2 ^ 62;
  places : l.vars + 1 ≡ length l.assign;
  taken : (x : ℕ) → 0 < x → x < l.var → slice_index_or l.assign x None ≢ None;
}

abbrev pub decreases-loop-var : goal.decreases-loop-var
decreases-loop-var l = l.vars + 1 - l.var
