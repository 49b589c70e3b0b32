-- Tests of sets, as they are computed.
use Rattle.std.specs.Prelude.{ℕ, nat_lt, Bool, true, ◌&&◌, not, List, [], ◌∷◌}
use Rattle.cut_right_laws.specs.Sets.{is_contained}

-- each number is greater than the one before it
abbrev pub is_rising : List ℕ → Bool
is_rising [] = true
is_rising (i ∷ []) = true
is_rising (i ∷ j ∷ more) = nat_lt i j && is_rising (j ∷ more)

-- neither contains the other
abbrev pub are_apart : List ℕ → List ℕ → Bool
are_apart set other = not (is_contained set other) && not (is_contained other set)
