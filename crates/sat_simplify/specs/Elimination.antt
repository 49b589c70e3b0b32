-- Elimination of a variable: all resolvents on it stand in the place of the clauses that have it.
use Rattle.std.specs.Prelude.{◌≡◌, if◌then◌else◌, List, [], ◌∷◌, refl}
use Rattle.std.specs.List.{flat_map}
use Rattle.sat_clauses.specs.Literal.{Literal, plain, opposite}
use Rattle.sat_simplify.specs.Resolution.{resolvent, is_tautology}

-- the list of this clause, unless that is always true
abbrev pub unless_tautology : List Literal → List (List Literal)
unless_tautology c = if is_tautology c then [] else c ∷ []

-- the resolvents of a clause with each of these that are no tautologies
abbrev pub resolvents_with : Literal → List (List Literal) → List Literal → List (List Literal)
resolvents_with l ds c = flat_map (λ d. unless_tautology (resolvent l c d)) ds

-- all resolvents of the clauses of a literal with those of its opposite that are no tautologies
abbrev pub resolvents : Literal → List (List Literal) → List (List Literal) → List (List Literal)
resolvents l cs ds = flat_map (resolvents_with l ds) cs

-- of 1 or 2, and 1 or 3, with -1 or -2: the one with 2 is a tautology
example : resolvents (plain 1) ((plain 1 ∷ plain 2 ∷ []) ∷ (plain 1 ∷ plain 3 ∷ []) ∷ []) ((opposite (plain 1) ∷ opposite (plain 2) ∷ [])
    ∷ []) ≡ (plain 3 ∷ opposite (plain 2) ∷ []) ∷ []
example = refl
