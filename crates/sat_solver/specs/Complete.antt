-- Assignments in which no variable is free any more.
use Rattle.std.specs.Prelude.{◌≡◌, ◌≢◌, ◌<◌, ◌≤◌, ℕ, Bool, true, false, List, [], All, Any, Some, None, length, unwrap_or, slice_index_or}
use Rattle.sat_clauses.specs.Literal.{Literal}
use Rattle.sat_clauses.specs.Assignment.{Assignment, value_of}
use Rattle.sat_solver.specs.ClauseFindings.{IsTrueIn}

-- the literal is true once each free variable is false
pub record WouldBeTrue (a : Assignment) (l : Literal) : Type 0 where
  pub positive : 1 ≤ l.var
  pub in_range : l.var < length a
  pub holds : unwrap_or (value_of a l) l.negated ≡ true

-- the clause is
abbrev pub WouldHold : Assignment → List Literal → Type 0
WouldHold a c = Any (WouldBeTrue a) c

-- the clauses from one place up to another are
abbrev pub WouldHoldBetween : Assignment → List (List Literal) → ℕ → ℕ → Type 0
WouldHoldBetween a clauses from to = (k : ℕ) → from ≤ k → k < to → WouldHold a (slice_index_or clauses k [])

-- b has the values of a, and makes each other variable false
pub record IsFilled (a b : Assignment) : Type 0 where
  pub places : length b ≡ length a
  pub kept : (x : ℕ) (v : Bool) → slice_index_or a x None ≡ Some v → slice_index_or b x None ≡ Some v
  pub rest : (x : ℕ) → 0 < x → x < length a → slice_index_or a x None ≡ None → slice_index_or b x None ≡ Some false
  pub taken : (x : ℕ) → 0 < x → x < length b → slice_index_or b x None ≢ None

-- b is a filled, and makes all clauses true
pub record IsCompletion (clauses : List (List Literal)) (a b : Assignment) : Type 0 where
  pub filled : IsFilled a b
  pub all_true : All (IsTrueIn b) clauses
