-- What becomes of advisers once it is heard whether the last pick was taken.
use Rattle.std.specs.Prelude.{◌≡◌, ◌⊎◌, ◌+◌, ◌<◌, ◌≤◌, ℕ, List, length, min}
use Rattle.sat_adviser.specs.Drops.{Drops}

-- all are left, the present one is still present, and it has so many misses
pub record Stays {X : Type 0} (old : List X) (present misses : ℕ) (new : List X) (next after : ℕ) : Type 0 where
  pub left : new ≡ old
  pub present_is : next ≡ present
  pub misses_is : after ≡ misses

-- a pick that was taken ends the misses of the present one; one that was not is a miss more, and after 1,000 in a
-- row the present one is dropped, if it is not the only one
pub record Judges {X : Type 0} (taken : Type 0) (old : List X) (present misses : ℕ) (new : List X) (next after : ℕ) : Type 0 where
  pub nobody : length old ≡ 0 → Stays old present misses new next after
  pub used : 0 < length old → taken → Stays old present 0 new next after
  pub missed : 0 < length old → ¬ taken → (misses + 1 < 1000) ⊎ (length old ≡ 1) → Stays old present (min (misses + 1) 1000) new next after
  pub dropped : 1 < length old → present < length old → ¬ taken → 1000 ≤ misses + 1 → Drops old present new next after
