-- What a contract sees of a trail.
use Rattle.std.specs.Prelude.{ℕ, List}
use Rattle.sat_clauses.specs.Assignment.{Assignment}
use Rattle.sat_solver.specs.declared.trail.TrailEntry.{TrailEntry}

-- the assignment, the literals in the order in which they were made true, and how many of the first of these the store
-- has followed
pub record TrailValue : Type 0 where
  pub values : Assignment
  pub entries : List TrailEntry
  pub followed : ℕ
