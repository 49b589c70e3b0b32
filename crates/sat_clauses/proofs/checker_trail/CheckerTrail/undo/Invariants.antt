use Rattle.std.proofs.Common.{◌≡◌, ◌≢◌, ℕ, ◌<◌, ◌≤◌, None, All, Contains, length, vec_len, vec_capacity, slice_index_or}
use Rattle.sat_clauses.proofs.checker_trail.CheckerTrail.undo.Given as goal

-- each variable that still has a value is still listed
abbrev pub invariant-loop-var : goal.invariant-loop-var
invariant-loop-var l =
    let assign = l.self-inside.assign in
    let set = l.self-inside.set in
    record {
      listed : (x : ℕ) → slice_index_or assign x None ≢ None → Contains set.items x;
      in_range : All (λ x. x < length assign) set.items;
      same_length : length assign ≡ length l.initial.self-inside.assign;
      room : length assign ≤ vec_capacity set;
    }

abbrev pub decreases-loop-var : goal.decreases-loop-var
decreases-loop-var l = vec_len l.self-inside.set
