-- The highest variable of clauses is at least one.
use Rattle.std.proofs.Common.{◌≤◌, List, [], ◌∷◌, arith}
use Rattle.sat_clauses.specs.Literal.{Literal}
use Rattle.cert_laws.specs.Acceptance.{highest_in, highest}

pub at_least_one : (c : List Literal) → 1 ≤ highest_in c
at_least_one [] = omega arith
at_least_one (l ∷ ls) = let h : 1 ≤ highest_in ls = at_least_one ls in omega (arith, h)

pub at_least_one_of : (cs : List (List Literal)) → 1 ≤ highest cs
at_least_one_of [] = omega arith
at_least_one_of (c ∷ cs) = let h : 1 ≤ highest cs = at_least_one_of cs in omega (arith, h)
