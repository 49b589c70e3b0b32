-- How a trail keeps its literals.
use Rattle.std.specs.Prelude.{◌≡◌, ℕ, ◌-◌, ◌^◌, ◌<◌, ◌≤◌, None, length, replicate, slice_index_or, vec_capacity}
use Rattle.sat_clauses.specs.Literal.{Literal}
use Rattle.sat_clauses.specs.Trail.{assigned_from, AreFresh}
use Rattle.sat_clauses.specs.TrailRecord.{TrailValue}
use Rattle.sat_clauses.specs.declared.trail.LiteralTrail.TheInside.{Inside}

-- what contracts see of its parts
abbrev pub trail_of : Inside → TrailValue
trail_of t = record { vars = length t.assign - 1; lits = t.lits.items }

-- the assignment is that of the literals, in order; each has its place noted, and there is room for all
pub record IsSound (t : Inside) : Type 0 where
  pub matches : t.assign ≡ assigned_from (replicate (length t.assign) None) t.lits.items
  pub fresh : AreFresh (replicate (length t.assign) None) t.lits.items
  pub positive : 0 < length t.assign
  pub small : length t.assign ≤ 2 ^ 62
  -- there is a place for each variable
  pub room : length t.assign ≤ vec_capacity t.lits
  pub as_many : length t.places.items ≡ length t.assign
  pub placed : (i : ℕ) (d : Literal) → i < length t.lits.items → slice_index_or t.places.items (slice_index_or t.lits.items i d).var 0 ≡ i
