-- Answers that are given in order, over and over.
use Rattle.std.specs.Prelude.{ℕ, ◌+◌, ◌*◌, List, length, map, if◌then◌else◌, nat_lt, slice_index_or}
use Rattle.std.specs.List.{range_with_len}

-- the answers, the place of the next one from 0, how many learned clauses were told, and how often an answer was asked for
pub record Round : Type 0 where
  pub answers : List ℕ
  pub place : ℕ
  pub told : ℕ
  pub asked : ℕ

-- the answer whose turn it is, or 0 where there are no answers
abbrev pub answer_of : Round → ℕ
answer_of r = slice_index_or r.answers r.place 0

-- the place after this one of a list of this length, which after the last is the first
abbrev pub place_after : ℕ → ℕ → ℕ
place_after place length = if nat_lt (place + 1) length then place + 1 else 0

-- the codes of the negations of the variables 1 to vars: those up to 3 are 3, 5 and 7
abbrev pub negations : ℕ → List ℕ
negations vars = map (λ v. 2 * v + 1) (range_with_len 1 vars)
