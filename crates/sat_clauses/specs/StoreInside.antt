-- How a plain store keeps its clauses.
use Rattle.std.specs.Prelude.{◌+◌, ◌≤◌, length, vec_capacity}
use Rattle.sat_clauses.specs.Models.{ClausesBelow}
use Rattle.sat_clauses.specs.StoreRecord.{StoreValue}
use Rattle.sat_clauses.specs.declared.store.PlainStore.TheInside.{Inside}

-- what contracts see of its parts
abbrev pub store_of : Inside → StoreValue
store_of s = record { vars = s.trail.vars; clauses = s.clauses; trail = s.trail.lits; found = s.found.items }

-- the clauses are over the variables of the trail, and what is found never needs memory
pub record IsSound (s : Inside) : Type 0 where
  pub in_range : ClausesBelow (s.trail.vars + 1) s.clauses
  -- there is a place for each clause
  pub room : length s.clauses ≤ vec_capacity s.found
