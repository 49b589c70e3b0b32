-- How a trail keeps an assignment.
use Rattle.std.specs.Prelude.{◌≡◌, ◌≢◌, ℕ, ◌+◌, ◌<◌, ◌≤◌, None, All, Contains, length, count_by, is_none, slice_index_or, vec_len}
use Rattle.std.specs.Prelude.{vec_capacity}
use Rattle.sat_clauses.specs.Assignment.{Assignment}
use Rattle.sat_clauses.specs.declared.checker_trail.CheckerTrail.TheInside.{Inside}

-- contracts see the assignment alone
abbrev pub assignment_of : Inside → Assignment
assignment_of t = t.assign

-- what has a value is listed, so it can be made free, and the list never needs more memory
pub record IsSound (t : Inside) : Type 0 where
  -- each variable that has a value is listed
  pub listed : (x : ℕ) → slice_index_or t.assign x None ≢ None → Contains t.set.items x
  pub in_range : All (λ x. x < length t.assign) t.set.items
  -- there is a place for each variable that is still free
  pub counted : vec_len t.set + count_by is_none t.assign ≡ length t.assign
  pub room : length t.assign ≤ vec_capacity t.set
