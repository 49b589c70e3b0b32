-- How an arena lies in its parts.
use Rattle.std.specs.Prelude.{◌≡◌, ◌≢◌, ℕ, ◌+◌, ◌*◌, ◌<◌, ◌≤◌, List, length, vec_capacity}
use Rattle.sat_clauses.specs.Literal.{Literal}
use Rattle.sat_clauses.specs.Models.{ClausesBelow}
use Rattle.sat_clauses.specs.StoreRecord.{StoreValue}
use Rattle.sat_solver.specs.Threads.{at}
use Rattle.sat_solver.specs.Watch.{IsWatched}
use Rattle.sat_solver.specs.Pass.{clause_of}
use Rattle.sat_solver.specs.declared.arena.Arena.TheInside.{Inside}

-- what contracts see of its parts
abbrev pub arena_of : Inside → StoreValue
arena_of s = record { vars = s.trail.vars; clauses = s.clauses.clauses; trail = s.trail.lits; found = s.found.items }

-- each clause is watched by the literals under which its number is filed
pub record AreWatched (vars : ℕ) (trail : List Literal) (clauses : List (List Literal)) (firsts seconds : List ℕ) : Type 0 where
  pub no_spare_first : (i : ℕ) → at firsts i ≢ 1
  pub no_spare_second : (i : ℕ) → at seconds i ≢ 1
  pub unused_first : (i : ℕ) → length clauses ≤ i → at firsts i ≡ 0
  pub unused_second : (i : ℕ) → length clauses ≤ i → at seconds i ≡ 0
  pub watched : (i : ℕ) → i < length clauses → IsWatched vars trail (clause_of clauses i) (at firsts i) (at seconds i)

-- both tables have a list for each literal and a place for each clause, and each clause is watched
pub record IsSound (s : Inside) : Type 0 where
  pub in_range : ClausesBelow (s.trail.vars + 1) s.clauses.clauses
  pub lists_first : 2 * (s.trail.vars + 1) ≤ s.firsts.lists
  pub lists_second : 2 * (s.trail.vars + 1) ≤ s.seconds.lists
  pub places_first : length s.clauses.clauses ≤ length s.firsts.homes
  pub places_second : length s.clauses.clauses ≤ length s.seconds.homes
  pub watched : AreWatched s.trail.vars s.trail.lits s.clauses.clauses s.firsts.homes s.seconds.homes
  -- there is a place for each time that a clause may be found
  pub room : length s.firsts.homes + length s.seconds.homes ≤ vec_capacity s.found
