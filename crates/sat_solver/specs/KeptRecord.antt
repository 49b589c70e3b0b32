-- What a contract sees of the clauses of a search that is kept, and what it can be asked.
use Rattle.std.specs.Prelude.{◌≡◌, ◌+◌, ◌^◌, ◌<◌, ℕ, Bool, List, All}
use Rattle.sat_clauses.specs.Literal.{Literal}
use Rattle.sat_clauses.specs.Derivation.{IsUpTo}
use Rattle.sat_clauses.specs.Hints.{HasNoOpposites}

-- whether memory was wanted, the highest variable, the clauses by arrival, and for each whether it was learned
pub record KeptValue : Type 0 where
  pub failed : Bool
  pub vars : ℕ
  pub clauses : List (List Literal)
  pub marks : List Bool

-- what a question may assume: literals over these variables, none of them beside its opposite
pub record CanAssume (vars : ℕ) (assumptions : List Literal) : Type 0 where
  pub in_range : All (IsUpTo vars) assumptions
  pub apart : HasNoOpposites assumptions

-- the variable that comes after those up to `vars`: each is below 2^62
pub record IsNextVariable (vars var : ℕ) : Type 0 where
  pub next : var ≡ vars + 1
  pub small : var < 2 ^ 62
