-- How many patterns of faults contain no listed set: this falls with each new set.
use Rattle.std.specs.Prelude.{ℕ, ◌-◌, Bool, false, not, List, slice_index_or}
use Rattle.std.specs.List.{list_any, list_all}
use Rattle.cut_frames.specs.StatesLeft.{count}

-- A pattern has a truth value for each fault.
-- the fault of the number is in the pattern
abbrev pub is_in_pattern : List Bool → ℕ → Bool
is_in_pattern pattern i = slice_index_or pattern (i - 1) false

-- the pattern contains some set of the list
abbrev pub is_covered : List (List ℕ) → List Bool → Bool
is_covered sets pattern = list_any (list_all (is_in_pattern pattern)) sets

-- how many patterns of so many faults contain no set of the list
abbrev pub uncovered : ℕ → List (List ℕ) → ℕ
uncovered faults sets = count faults (λ pattern. not (is_covered sets pattern))
