-- What holds between two steps of the search, what a step keeps, and what it gives.
use Rattle.std.specs.Prelude.{◌≡◌, ◌+◌, List, All, Option, length}
use Rattle.sat_clauses.specs.Literal.{Literal}
use Rattle.sat_clauses.specs.StoreRecord.{StoreValue}
use Rattle.sat_clauses.specs.Derivation.{IsUpTo}
use Rattle.sat_clauses.specs.Hints.{HasNoOpposites}
use Rattle.sat_clauses.specs.declared.step.Step.{Step}
use Rattle.sat_solver.specs.TrailRecord.{TrailValue}
use Rattle.sat_solver.specs.Trail.{IsFollowed}
use Rattle.sat_solver.specs.Search.{IsSound, Grows, Extends}

-- the assumptions are over the store's variables, as is the trail, and none stands beside its opposite; each literal of the
-- trail had its reason, and the store has followed the first of them
pub record IsRunning (assumptions : List Literal) (s : StoreValue) (t : TrailValue) : Type 0 where
  pub apart : HasNoOpposites assumptions
  pub in_range : All (IsUpTo s.vars) assumptions
  pub places : s.vars + 1 ≡ length t.values
  pub sound : IsSound s.clauses assumptions t
  pub followed : IsFollowed s.trail t

-- even where memory is wanted, the clauses have grown by steps alone, over the same variables
pub record Keeps (old new : StoreValue) : Type 0 where
  pub vars : new.vars ≡ old.vars
  pub extends : Extends old.vars old.clauses new.clauses

-- over the same variables the clauses have grown by steps that were kept
pub record HasGrown (old new : StoreValue) (kept_old kept_new : Option (List Step)) : Type 0 where
  pub vars : new.vars ≡ old.vars
  pub grows : Grows old.vars old.clauses kept_old new.clauses kept_new

-- the clauses have grown by steps that were kept, and the search is running with this trail
pub record GoesOn (assumptions : List Literal) (old new : StoreValue) (kept_old kept_new : Option (List Step)) (t : TrailValue) : Type 0
  where
    pub grows : Grows old.vars old.clauses kept_old new.clauses kept_new
    pub running : IsRunning assumptions new t
