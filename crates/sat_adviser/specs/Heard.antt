-- What the present adviser answers, and which clauses advisers heard.
use Rattle.std.specs.Prelude.{◌≡◌, ℕ, List, Option, None, IfSome, slice_set, slice_index_or}
use Rattle.std.specs.Option.{option_map}
use Rattle.sat_clauses.specs.Literal.{Literal}

-- the one at this place, from 0, of those that answer so when they are asked next gives this number, where there is one and it tells
abbrev pub Gives : List (Option ℕ) → ℕ → ℕ → Type 0
Gives answers place n = IfSome (slice_index_or answers place None) (λ a. n ≡ a)

-- the last clauses that they heard, after the one at this place has heard a clause, where it tells
abbrev pub heard_at : List (Option (List Literal)) → ℕ → List Literal → List (Option (List Literal))
heard_at heard place lits = slice_set heard place (option_map (λ _. lits) (slice_index_or heard place None))
