-- What two watched literals of a clause keep, so that no clause is overlooked.
use Rattle.std.specs.Prelude.{◌≡◌, ◌≢◌, ◌⊎◌, ℕ, List, All, Contains, Some, true, false, take}
use Rattle.sat_clauses.specs.Literal.{Literal}
use Rattle.sat_clauses.specs.Code.{code_of}
use Rattle.sat_clauses.specs.Assignment.{Assignment, value_of}
use Rattle.sat_clauses.specs.Trail.{assigned_by}

-- the literal is watched, where the two watched ones have these codes
abbrev pub IsWatch : ℕ → ℕ → Literal → Type 0
IsWatch first second m = (code_of m ≡ first) ⊎ (code_of m ≡ second)

-- a literal of the clause is true
pub record HasTrue (a : Assignment) (c : List Literal) : Type 0 where
  pub literal : Literal
  pub listed : Contains c literal
  pub is_true : value_of a literal ≡ Some true

-- a literal of the clause has this code
pub record HasCode (c : List Literal) (code : ℕ) : Type 0 where
  pub literal : Literal
  pub listed : Contains c literal
  pub coded : code_of literal ≡ code

-- every literal that is not watched is false
abbrev pub OthersFalse : Assignment → List Literal → ℕ → ℕ → Type 0
OthersFalse a c first second = All (λ m. IsWatch first second m ⊎ (value_of a m ≡ Some false)) c

-- where a watched literal is false, some literal is true, or every one that is not watched is false
pub record IsReady (a : Assignment) (c : List Literal) (first second : ℕ) : Type 0 where
  pub ready : (m : Literal) → Contains c m → IsWatch first second m → value_of a m ≡ Some false → HasTrue a c ⊎ OthersFalse a c first second

-- one of the two codes: of a literal of the clause, and not the other code, or 0 where all its literals have the other
pub record IsSide (c : List Literal) (mine other : ℕ) : Type 0 where
  pub has : mine ≢ 0 → HasCode c mine
  pub apart : mine ≢ 0 → mine ≢ other
  pub alone : mine ≡ 0 → All (λ m. code_of m ≡ other) c

-- The clause is watched by the literals with these codes. That it is ready after every beginning of the trail is why
-- nothing has to be done where literals are taken back.
pub record IsWatched (vars : ℕ) (trail : List Literal) (c : List Literal) (first second : ℕ) : Type 0 where
  pub one_side : IsSide c first second
  pub other_side : IsSide c second first
  pub ready : (k : ℕ) → IsReady (assigned_by vars (take k trail)) c first second
