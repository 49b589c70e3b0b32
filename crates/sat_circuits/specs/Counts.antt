-- Which gates say that at most so many literals are true.
use Rattle.std.specs.Prelude.{ℕ, ◌+◌, List, [], ◌∷◌, ◌++◌, drop, true, false, zip}
use Rattle.sat_clauses.specs.Literal.{Literal, opposite}
use Rattle.sat_clauses.specs.Models.{TotalAssignment, literal_value}
use Rattle.sat_circuits.specs.Circuit.{Circuit, after, fold_gates}
use Rattle.sat_circuits.specs.Gates.{and_gate, or_gate, constant_lit}
use Rattle.sat_circuits.specs.Bits.{bit_value}
use Rattle.sat_circuits.specs.Words.{sign_of, zeros, map_gates}

-- how many of the literals are true
abbrev pub true_count : TotalAssignment → List Literal → ℕ
true_count v [] = 0
true_count v (l ∷ ls) = bit_value (literal_value v l) + true_count v ls

-- at least k + 1 with l: at least k + 1 before, which is the first of the two, or at least k before and l
unfoldable pub count_gate : Literal → Literal × Literal → Circuit → Circuit × Literal
count_gate l p s = after (and_gate p.1 l s) (λ q t. or_gate p.0 q t)

-- One literal more is counted. The counters say that at least so many were true, the most first and 0 last.
unfoldable pub count_step : Literal → List Literal → Circuit → Circuit × List Literal
count_step l counters s = after (map_gates (count_gate l) (zip counters (drop 1 counters)) [] s) (λ w t. (t, w ++ sign_of counters ∷ []))

-- the first item, or d where there is none
abbrev pub first_from : {A : Type 0} → A → List A → A
first_from d [] = d
first_from d (x ∷ xs) = x

-- the first of the counters, for more than n, turned over
unfoldable pub at_most_gates : List Literal → ℕ → Circuit → Circuit × Literal
at_most_gates lits n s =
    after (fold_gates count_step lits (zeros (n + 1) ++ constant_lit true ∷ []) s) (λ counters t. (
      t,
      opposite (first_from (constant_lit false) counters),
    ))
