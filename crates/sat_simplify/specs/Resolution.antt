-- Resolvents: what two clauses say together where one has a literal and the other its opposite.
use Rattle.std.specs.Prelude.{◌≡◌, Bool, not, if◌then◌else◌, List, [], ◌∷◌, ◌++◌, fold, refl}
use Rattle.std.specs.List.{list_any, list_all, filter}
use Rattle.sat_clauses.specs.Literal.{Literal, plain, opposite}
use Rattle.sat_clauses.specs.Truth.{is_same}

-- the clause has the literal
abbrev pub has_literal : Literal → List Literal → Bool
has_literal l c = list_any (is_same l) c

-- each literal of the one clause is in the other: where the first is true, so is the second
abbrev pub subsumes : List Literal → List Literal → Bool
subsumes c d = list_all (λ l. has_literal l d) c

-- the clause but for the literal
abbrev pub without : Literal → List Literal → List Literal
without l c = filter (λ m. not (is_same m l)) c

-- the clause, and the literal at its end unless it is there
abbrev pub with_literal : List Literal → Literal → List Literal
with_literal c l = if has_literal l c then c else c ++ l ∷ []

-- the clause, and those literals of another that it lacks, each once
abbrev pub joined : List Literal → List Literal → List Literal
joined c d = fold with_literal c d

-- each literal of the clause once
abbrev pub each_once : List Literal → List Literal
each_once c = joined [] c

-- the literals of c but l, and those of d but its opposite, each once
abbrev pub resolvent : Literal → List Literal → List Literal → List Literal
resolvent l c d = joined (each_once (without l c)) (without (opposite l) d)

-- of 1 or 2 and of -1 or 3 it is 2 or 3
example : resolvent (plain 1) (plain 1 ∷ plain 2 ∷ []) (opposite (plain 1) ∷ plain 3 ∷ []) ≡ plain 2 ∷ plain 3 ∷ []
example = refl

-- the clause has a literal and its opposite
abbrev pub is_tautology : List Literal → Bool
is_tautology c = list_any (λ l. has_literal (opposite l) c) c
