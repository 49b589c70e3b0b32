-- What a look at all clauses finds.
use Rattle.std.specs.Prelude.{◌≡◌, ◌≢◌, ◌<◌, ℕ, List, All, Contains, Some, None, true, false, take, length, slice_index_or}
use Rattle.sat_clauses.specs.Literal.{Literal}
use Rattle.sat_clauses.specs.Assignment.{Assignment, value_of}
use Rattle.sat_clauses.specs.Truth.{truth_of}
use Rattle.sat_clauses.specs.declared.clause.Truth.TheVariants.{True, False, Unit as UnitClause}
use Rattle.sat_clauses.specs.Hints.{truth_at}
use Rattle.sat_solver.specs.Choice.{HasFree}
use Rattle.sat_solver.specs.declared.find.FoundClause.{FoundClause}
use Rattle.sat_solver.specs.declared.find.FoundClause.TheVariants.{Conflict, Next, Nothing}
use Rattle.sat_solver.specs.declared.find.Pick.{Pick}
use Rattle.sat_solver.specs.declared.find.Pick.TheVariants.{Assume, Refuted, Choose, Done}

-- the clause is true
abbrev pub IsTrueIn : Assignment → List Literal → Type 0
IsTrueIn a c = truth_of a c ≡ True

-- what a look at all clauses finds is false or unit; where it finds nothing, every clause is true
abbrev pub IsFound : List (List Literal) → Assignment → FoundClause → Type 0
IsFound clauses a (Conflict number) = truth_at clauses a number ≡ Some False
IsFound clauses a (Next number l) = truth_at clauses a number ≡ Some (UnitClause l)
IsFound clauses a Nothing = All (IsTrueIn a) clauses

-- what propagation finds is false or unit; where it finds nothing, nothing is said
abbrev pub IsUseful : List (List Literal) → Assignment → FoundClause → Type 0
IsUseful clauses a (Conflict number) = truth_at clauses a number ≡ Some False
IsUseful clauses a (Next number l) = truth_at clauses a number ≡ Some (UnitClause l)
IsUseful clauses a Nothing = Unit {0}

-- an assumption that is free, where so many of the first ones are true; one that is false; or where all are true a free variable, or that
-- there is none
abbrev pub IsPick : Assignment → List Literal → Pick → Type 0
IsPick a assumptions (Assume l count) = Contains assumptions l × (value_of a l ≡ None)
    × All (λ p. value_of a p ≡ Some true) (take count assumptions)
IsPick a assumptions (Refuted l) = Contains assumptions l × (value_of a l ≡ Some false)
IsPick a assumptions Choose = All (λ p. value_of a p ≡ Some true) assumptions × HasFree a
IsPick a assumptions Done = All (λ p. value_of a p ≡ Some true) assumptions
    × ((x : ℕ) → 0 < x → x < length a → slice_index_or a x None ≢ None)
