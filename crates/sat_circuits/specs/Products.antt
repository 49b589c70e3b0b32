-- Which gates multiply two words.
use Rattle.std.specs.Prelude.{ℕ, ◌+◌, ◌-◌, List, take, length, false}
use Rattle.sat_clauses.specs.Literal.{Literal}
use Rattle.sat_circuits.specs.Circuit.{Circuit, after, fold_gates}
use Rattle.sat_circuits.specs.Gates.{and_gate, constant_lit}
use Rattle.sat_circuits.specs.Words.{fit, zeros, map_gates}
use Rattle.sat_circuits.specs.Sums.{sum_gates}

-- the lowest literals of a, i places up, where b is true, at the width of a
unfoldable pub row_gates : Literal → ℕ → List Literal → Circuit → Circuit × List Literal
row_gates b i a s = map_gates (and_gate b) (take (length a - i) a) (zeros i) s

-- one literal more of the other factor: the place of the next one, and the sum of the rows so far
unfoldable pub product_step : List Literal → Literal → ℕ × List Literal → Circuit → Circuit × (ℕ × List Literal)
product_step a b r s =
    after (row_gates b r.0 a s) (λ row t. after (sum_gates r.1 row (constant_lit false) t) (λ sum u. (u, (r.0 + 1, sum))))

-- the product of two words of one length, cut to it
unfoldable pub product_gates : List Literal → List Literal → Circuit → Circuit × List Literal
product_gates a b s = after (fold_gates (product_step a) b (0, zeros (length a)) s) (λ r t. (t, r.1))

unfoldable pub multiply_gates : List Literal → List Literal → ℕ → Circuit → Circuit × List Literal
multiply_gates a b width s = product_gates (fit width a) (fit width b) s
