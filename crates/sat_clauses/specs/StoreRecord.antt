-- What a contract sees of a store of clauses.
use Rattle.std.specs.Prelude.{ℕ, List}
use Rattle.sat_clauses.specs.Literal.{Literal}

-- the highest variable, the clauses, numbered from 1, the literals made true in order, and the numbers of the
-- clauses that the last of these made false or unit, where no other call came after it
pub record StoreValue : Type 0 where
  pub vars : ℕ
  pub clauses : List (List Literal)
  pub trail : List Literal
  pub found : List ℕ
