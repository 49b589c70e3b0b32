-- Common causes: events that bring several faults about within a window of steps.
use Rattle.std.specs.Prelude.{ℕ, ◌<◌, ◌≤◌, List}
use Rattle.smv_language.specs.Language.{Text, Each}

-- a cause, from how many steps after its moment to how many its window goes, and the faults that it strikes, by their numbers from one on
pub record CommonCause : Type 0 where
  pub name : Text
  pub from : ℕ
  pub to : ℕ
  pub strikes : List ℕ

-- its window is not empty, and it strikes faults of the list
pub record IsCauseOf (faults : ℕ) (c : CommonCause) : Type 0 where
  pub window : c.from ≤ c.to
  pub numbers : Each (λ i. (0 < i) × (i ≤ faults)) c.strikes
