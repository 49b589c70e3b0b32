-- What a contract sees of a trail.
use Rattle.std.specs.Prelude.{ℕ, List}
use Rattle.sat_clauses.specs.Literal.{Literal}

-- the highest variable, and the literals in the order in which they were made true
pub record TrailValue : Type 0 where
  pub vars : ℕ
  pub lits : List Literal
