use Rattle.std.proofs.Common.{◌≡◌, ◌≤◌, length, reverse, take, vec_len}
use Rattle.sat_solver.specs.Trail.{assigned, IsFresh, IsLeast}
use Rattle.sat_solver.proofs.trail.Trail.undo.Given as goal

-- the entries that are left make the assignment
abbrev pub invariant-loop-self : goal.invariant-loop-self
invariant-loop-self l =
    let assign = l.self-inside.assign in
    let entries = l.self-inside.entries in
    let n = length l.fn.self.values in
    record {
      at_least : l.keep ≤ vec_len entries;
      at_most : length entries.items ≤ length l.fn.self.entries;
      first : entries.items ≡ take (length entries.items) l.fn.self.entries;
      matches : assign ≡ assigned n (reverse entries.items);
      fresh : IsFresh n (reverse entries.items);
      followed : l.self-inside.followed ≤ l.fn.self.followed;
      followed_within : l.self-inside.followed ≤ l.keep;
      least : IsLeast assign l.self-inside.least;
    }

abbrev pub decreases-loop-self : goal.decreases-loop-self
decreases-loop-self l = vec_len l.self-inside.entries
