-- What a contract sees of a store of clauses.
use Rattle.std.specs.Prelude.{ℕ, List}
use Rattle.sat_clauses.specs.Literal.{Literal}

-- the clauses, and for how many more clauses and literals there is room
pub record Store : Type 0 where
  pub clauses : List (List Literal)
  pub spare_clauses : ℕ
  pub spare_lits : ℕ
