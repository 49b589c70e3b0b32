-- How many states are left in frames: the measure of `clear`.
use Rattle.std.specs.Prelude.{ℕ, zero, suc, ◌+◌, ◌-◌, ◌*◌, Bool, true, false, List, [], ◌∷◌, length, slice_index_or}
use Rattle.sat_clauses.specs.Literal.{Literal}
use Rattle.sat_clauses.specs.Assignment.{Assignment}
use Rattle.sat_clauses.specs.Models.{all_true}
use Rattle.cut_frames.specs.Chain.{State}

-- 1 for true, 0 for false
abbrev pub one_if : Bool → ℕ
one_if true = 1
one_if false = 0

-- how many patterns of n truth values pass the test
abbrev pub count : ℕ → (State → Bool) → ℕ
count zero p = one_if (p [])
count (suc n) p = count n (λ s. p (true ∷ s)) + count n (λ s. p (false ∷ s))

-- the test of a frame
abbrev pub passes : List (List Literal) → State → Bool
passes frame s = all_true (λ v. slice_index_or s (v - 2) false) frame

-- the states of each frame, counted frame by frame
abbrev pub states_left : ℕ → List (List (List Literal)) → ℕ
states_left bits [] = 0
states_left bits (f ∷ fs) = count bits (passes f) + states_left bits fs

-- states left first, then the number of the frame that is looked at: one number
abbrev pub work_left : ℕ → List (List (List Literal)) → List Assignment → ℕ
work_left bits frames owed = states_left bits frames * (length frames + 1) + (length frames - length owed)
