-- Which sets of names two reports share.
use Rattle.std.specs.Prelude.{ℕ, Bool, ◌&&◌, List}
use Rattle.std.specs.List.{list_all, list_any}
use Rattle.std.specs.Str.{bytes_eq}

-- the name is one of these
abbrev pub is_among : List (List ℕ) → List ℕ → Bool
is_among names name = list_any (λ n. bytes_eq n name) names

-- each of these names is one of those
abbrev pub is_within : List (List ℕ) → List (List ℕ) → Bool
is_within those these = list_all (λ n. is_among those n) these

-- both are the same names, in any order
unfoldable pub is_same_set : List (List ℕ) → List (List ℕ) → Bool
is_same_set a b = is_within b a && is_within a b

-- the set is one of these
unfoldable pub is_listed : List (List (List ℕ)) → List (List ℕ) → Bool
is_listed sets set = list_any (λ s. is_same_set set s) sets
