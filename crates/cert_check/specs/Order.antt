-- Whether a set stands after the one before it, as it is computed, and which sets are in order.
use Rattle.std.specs.Prelude.{◌≡◌, ℕ, zero, suc, ◌<◌, Bool, true, false, IsTrue, List, Option, Some, None, slice_get}
use Rattle.cut_right_laws.specs.Sets.{IsRising, stands_before}

-- whether a set stands after another, where there is that one
abbrev pub stands_after : List ℕ → Option (List ℕ) → Bool
stands_after set None = false
stands_after set (Some before) = stands_before before set

-- whether a set stands after the one before its place, where there is one
abbrev pub is_after_in : List (List ℕ) → ℕ → List ℕ → Bool
is_after_in sets zero set = true
is_after_in sets (suc k) set = stands_after set (slice_get sets k)

-- each set before a place rises, and of two of them the one before stands before the other
pub record AreInOrder (sets : List (List ℕ)) (k : ℕ) : Type 0 where
  pub rising : (j : ℕ) (set : List ℕ) → j < k → slice_get sets j ≡ Some set → IsRising set
  pub before : (i j : ℕ) (one other : List ℕ) → i < j → j < k → slice_get sets i ≡ Some one → slice_get sets j ≡ Some other →
      IsTrue (stands_before one other)
