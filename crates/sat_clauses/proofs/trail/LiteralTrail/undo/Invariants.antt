use Rattle.std.proofs.Common.{◌≡◌, ◌≤◌, None, length, take, replicate, vec_len, vec_capacity}
use Rattle.sat_clauses.specs.Trail.{assigned_from, AreFresh}
use Rattle.sat_clauses.proofs.trail.LiteralTrail.undo.Given as goal

-- the literals that are left make the assignment
abbrev pub invariant-loop-self : goal.invariant-loop-self
invariant-loop-self l =
    let assign = l.self-inside.assign in
    let lits = l.self-inside.lits in
    let n = length l.initial.self-inside.assign in
    record {
      at_least : l.keep ≤ vec_len lits;
      first : lits.items ≡ take (length lits.items) l.fn.self.lits;
      matches : assign ≡ assigned_from (replicate n None) lits.items;
      fresh : AreFresh (replicate n None) lits.items;
      room : n ≤ vec_capacity lits;
      places : l.self-inside.places.items ≡ l.initial.self-inside.places.items;
    }

abbrev pub decreases-loop-self : goal.decreases-loop-self
decreases-loop-self l = vec_len l.self-inside.lits
