-- What a lesson is, and who hears it.
use Rattle.std.specs.Prelude.{◌≡◌, ℕ, Bool, true, List, Contains, Option, length, reverse}
use Rattle.sat_clauses.specs.Literal.{Literal}
use Rattle.sat_clauses.specs.Models.{FollowsFrom}
use Rattle.sat_adviser.specs.Count.{risen_at}
use Rattle.sat_adviser.specs.Heard.{heard_at}
use Rattle.sat_solver.specs.TrailRecord.{TrailValue}
use Rattle.sat_solver.specs.Analysis.{analysed, begun}

-- the clause of decisions alone that a false clause teaches; where cores are kept it is one of the clauses, which it follows from
pub record IsAnalysedCore (cores : Bool) (old new : List (List Literal)) (number : ℕ) (t : TrailValue) (c : List Literal) : Type 0 where
  pub lits : c ≡ (analysed old true (begun (length t.values) old number) (reverse t.entries)).lits
  pub listed : cores ≡ true → Contains new c
  pub follows : FollowsFrom new c

-- the adviser at a place, and no other, has heard a clause, and its count of these has risen
pub record HasHeard (place : ℕ) (heard_old heard_new : List (Option (List Literal))) (told_old told_new : List ℕ)
    (c : List Literal) : Type 0 where
  pub heard : heard_new ≡ heard_at heard_old place c
  pub told : told_new ≡ risen_at told_old place
