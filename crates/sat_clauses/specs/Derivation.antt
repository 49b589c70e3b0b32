-- What a contract sees of a checker.
use Rattle.std.specs.Prelude.{◌≡◌, ℕ, ◌+◌, ◌≤◌, List, [], ◌∷◌, ◌++◌, length}
use Rattle.sat_clauses.specs.Literal.{Literal}

-- the highest variable, the clauses in order, and for how many more clauses and literals there is room
pub record Derivation : Type 0 where
  pub vars : ℕ
  pub clauses : List (List Literal)
  pub spare_clauses : ℕ
  pub spare_lits : ℕ

-- the literal's variable is at most vars
abbrev pub IsUpTo : ℕ → Literal → Type 0
IsUpTo vars l = l.var ≤ vars

-- the clause comes after the others, and takes its room
pub record Appends (old : Derivation) (c : List Literal) (new : Derivation) : Type 0 where
  pub vars : new.vars ≡ old.vars
  pub clauses : new.clauses ≡ old.clauses ++ c ∷ []
  pub spare_clauses : new.spare_clauses + 1 ≡ old.spare_clauses
  pub spare_lits : new.spare_lits + length c ≡ old.spare_lits
