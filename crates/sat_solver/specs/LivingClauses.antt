-- Which clauses of a search stay.
use Rattle.std.specs.Prelude.{◌≡◌, ◌≤◌, ℕ, Bool, List, ◌++◌, All, Contains, length, drop}
use Rattle.sat_clauses.specs.Literal.{Literal}
use Rattle.sat_solver.specs.LearnedClauses.{added_of}

-- so many of the clauses were looked at: of these, and of those that are left, each that was added stays in its place among them, and
-- nothing stays that was not there
pub record IsAlive (cs : List (List Literal)) (ms : List Bool) (count : ℕ) (ds : List (List Literal)) (ns : List Bool) : Type 0 where
  pub marked : length ns ≡ length ds
  pub fewer : length ds ≤ count
  pub added : added_of ds ns ++ added_of (drop count cs) (drop count ms) ≡ added_of cs ms
  pub among : All (Contains cs) ds
