-- Which literal is chosen where nothing forces one.
use Rattle.std.specs.Prelude.{◌≡◌, ◌≢◌, ◌⊎◌, ◌<◌, ◌≤◌, ℕ, true, None, length, slice_index_or}
use Rattle.sat_clauses.specs.Literal.{Literal}
use Rattle.sat_clauses.specs.Code.{code_of}
use Rattle.sat_clauses.specs.Assignment.{Assignment, IsInRange, value_of}

-- some variable is free
pub record HasFree (a : Assignment) : Type 0 where
  pub var : ℕ
  pub positive : 0 < var
  pub in_range : var < length a
  pub free : slice_index_or a var None ≡ None

-- l has this code, its variable is one of a's, and it is free
pub record IsTaken (a : Assignment) (code : ℕ) (l : Literal) : Type 0 where
  pub has_code : code_of l ≡ code
  pub positive : 1 ≤ l.var
  pub in_range : IsInRange a l
  pub free : value_of a l ≡ None

-- l is the negation of the least free variable
pub record IsFallback (a : Assignment) (l : Literal) : Type 0 where
  pub negated : l.negated ≡ true
  pub positive : 1 ≤ l.var
  pub in_range : IsInRange a l
  pub free : value_of a l ≡ None
  pub least : (x : ℕ) → 0 < x → x < l.var → slice_index_or a x None ≢ None

-- l is the free literal with this code, or where there is none the negation of the least free variable
abbrev pub IsChoice : Assignment → ℕ → Literal → Type 0
IsChoice a code l = IsTaken a code l ⊎ (((m : Literal) → ¬ (IsTaken a code m)) × IsFallback a l)
