-- What literals, clauses and lists of clauses mean where every variable has a value.
use Rattle.std.specs.Prelude.{◌≡◌, ℕ, ◌<◌, Bool, false, List, None, unwrap_or, slice_index_or, IsTrue, All}
use Rattle.std.specs.List.{list_any, list_all}
use Rattle.sat_clauses.specs.Literal.{Literal, signed}
use Rattle.sat_clauses.specs.Assignment.{Assignment}

-- a value for each variable
abbrev pub TotalAssignment : Type 0
TotalAssignment = ℕ → Bool

-- the value of each variable, false where it has none
abbrev pub values_of : Assignment → TotalAssignment
values_of a v = unwrap_or (slice_index_or a v None) false

-- what the literal is
abbrev pub literal_value : TotalAssignment → Literal → Bool
literal_value v l = signed l.negated (v l.var)

-- a clause is true where some literal of it is
abbrev pub clause_value : TotalAssignment → List Literal → Bool
clause_value v c = list_any (literal_value v) c

-- whether every clause is true
abbrev pub all_true : TotalAssignment → List (List Literal) → Bool
all_true v clauses = list_all (clause_value v) clauses

-- v is a model of the clauses: it makes every one true
abbrev pub Satisfies : TotalAssignment → List (List Literal) → Type 0
Satisfies v clauses = IsTrue (all_true v clauses)

-- the clause is true in every model of the clauses
abbrev pub FollowsFrom : List (List Literal) → List Literal → Type 0
FollowsFrom clauses c = (v : TotalAssignment) → Satisfies v clauses → IsTrue (clause_value v c)

-- the two give each variable below n the same value
abbrev pub SameBelow : ℕ → TotalAssignment → TotalAssignment → Type 0
SameBelow n v w = (x : ℕ) → x < n → w x ≡ v x

-- the literal's variable is below n
abbrev pub IsBelow : ℕ → Literal → Type 0
IsBelow n l = l.var < n

-- each variable of the clause is below n
abbrev pub ClauseBelow : ℕ → List Literal → Type 0
ClauseBelow n c = All (IsBelow n) c

-- each variable of the clauses is below n
abbrev pub ClausesBelow : ℕ → List (List Literal) → Type 0
ClausesBelow n clauses = All (ClauseBelow n) clauses
