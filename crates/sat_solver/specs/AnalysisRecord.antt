-- What a contract sees of an analysis.
use Rattle.std.specs.Prelude.{ℕ, Bool, List}
use Rattle.sat_clauses.specs.Literal.{Literal}

-- which variables count, the clause so far, the numbers of the clauses used, and how far to go back
pub record AnalysisValue : Type 0 where
  pub marks : List Bool
  pub lits : List Literal
  pub used : List ℕ
  pub target : ℕ
