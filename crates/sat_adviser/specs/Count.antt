-- Counts that rise.
use Rattle.std.specs.Prelude.{ℕ, List, slice_set, slice_index_or}
use Rattle.base_values.specs.Counts.{next_count}

-- the counts after that at this place, from 0, has risen: of 4 and 7 at place 1 it makes 4 and 8
abbrev pub risen_at : List ℕ → ℕ → List ℕ
risen_at counts place = slice_set counts place (next_count (slice_index_or counts place 0))

-- how many learned clauses an adviser was told, and how often it was asked
pub record Counts : Type 0 where
  pub told : ℕ
  pub asked : ℕ
