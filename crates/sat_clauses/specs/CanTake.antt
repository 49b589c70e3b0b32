-- When a checker can be asked to take a clause.
use Rattle.std.specs.Prelude.{◌≤◌, List, All, length}
use Rattle.sat_clauses.specs.Literal.{Literal}
use Rattle.sat_clauses.specs.Derivation.{Derivation, IsUpTo}
use Rattle.sat_clauses.specs.Hints.{HasNoOpposites}

-- there is room for the clause, its variables are at most the highest, and no literal has its opposite there
pub record CanTake (d : Derivation) (c : List Literal) : Type 0 where
  pub room_for_clause : 1 ≤ d.spare_clauses
  pub room_for_lits : length c ≤ d.spare_lits
  pub in_range : All (IsUpTo d.vars) c
  pub no_opposites : HasNoOpposites c
