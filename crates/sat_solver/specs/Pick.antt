-- Which literals of a new clause are watched.
use Rattle.std.specs.Prelude.{◌≡◌, ◌≢◌, ◌⊎◌, ℕ, ◌<◌, ◌≤◌, List, All, Contains, Some, false, take, length}
use Rattle.sat_clauses.specs.Literal.{Literal}
use Rattle.sat_clauses.specs.Code.{code_of}
use Rattle.sat_clauses.specs.Assignment.{value_of}
use Rattle.sat_clauses.specs.Trail.{assigned_by}
use Rattle.sat_solver.specs.Watch.{HasCode}

-- the literal is false after the first k literals of the trail
abbrev pub IsFalseAfter : ℕ → List Literal → ℕ → Literal → Type 0
IsFalseAfter vars trail k m = value_of (assigned_by vars (take k trail)) m ≡ Some false

-- how late the literal became false: the place on the trail, or the trail's length where it is not false
pub record IsRank (vars : ℕ) (trail : List Literal) (m : Literal) (rank : ℕ) : Type 0 where
  pub less : (k : ℕ) → IsFalseAfter vars trail k m → rank < k
  pub within : (k : ℕ) → IsFalseAfter vars trail k m → rank < length trail
  pub false_if : (k : ℕ) → rank < k → rank < length trail → IsFalseAfter vars trail k m

-- a literal whose rank is at most this
pub record IsRankedUpTo (vars : ℕ) (trail : List Literal) (most : ℕ) (m : Literal) : Type 0 where
  pub rank : ℕ
  pub is_rank : IsRank vars trail m rank
  pub at_most : rank ≤ most

-- a literal of these with the code p, other than but, which has this rank
pub record IsRanked (vars : ℕ) (trail : List Literal) (c : List Literal) (but p rank : ℕ) : Type 0 where
  pub literal : Literal
  pub listed : Contains c literal
  pub coded : code_of literal ≡ p
  pub real : 2 ≤ p
  pub apart : p ≢ but
  pub is_rank : IsRank vars trail literal rank

-- among these literals p is the code of one of the highest rank that does not have the code but, or 0 where all have it
pub record IsBest (vars : ℕ) (trail : List Literal) (but : ℕ) (c : List Literal) (p rank : ℕ) : Type 0 where
  pub none : p ≡ 0 → All (λ m. code_of m ≡ but) c
  pub some : p ≢ 0 → IsRanked vars trail c but p rank
  pub all : All (λ m. (code_of m ≡ but) ⊎ IsRankedUpTo vars trail rank m) c
  pub real : All (λ m. 2 ≤ code_of m) c

-- p is the code of a literal of the clause, another one than but, after which no other than but became false; or 0 where all have the code
-- but
pub record IsPick (vars : ℕ) (trail : List Literal) (c : List Literal) (but p : ℕ) : Type 0 where
  pub none : p ≡ 0 → All (λ m. code_of m ≡ but) c
  pub has : p ≢ 0 → HasCode c p
  pub not_spare : p ≢ 1
  pub apart : p ≢ 0 → p ≢ but
  pub real : All (λ m. 2 ≤ code_of m) c
  pub latest : (k : ℕ) (x : Literal) → Contains c x → code_of x ≡ p → IsFalseAfter vars trail k x →
      All (λ m. (code_of m ≡ but) ⊎ IsFalseAfter vars trail k m) c
