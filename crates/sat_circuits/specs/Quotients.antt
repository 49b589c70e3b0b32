-- Which gates divide one word by another, rounding toward zero.
use Rattle.std.specs.Prelude.{ℕ, ◌+◌, List, [], ◌∷◌, ◌++◌, take, length, max, reverse, zip}
use Rattle.sat_clauses.specs.Literal.{Literal, opposite}
use Rattle.sat_circuits.specs.Circuit.{Circuit, after, fold_gates}
use Rattle.sat_circuits.specs.Gates.{mux_gate, xor_gate}
use Rattle.sat_circuits.specs.Words.{fit, sign_of, zeros, map_gates}
use Rattle.sat_circuits.specs.Sums.{subtract_gates, negate_gates, less_gates}

-- literal by literal, that of xs where c is true, and else that of ys
unfoldable pub choose_gates : Literal → List Literal → List Literal → Circuit → Circuit × List Literal
choose_gates c xs ys s = map_gates (λ p. mux_gate c p.0 p.1) (zip xs ys) [] s

-- the word, negated where c is true
unfoldable pub negate_where_gates : Literal → List Literal → Circuit → Circuit × List Literal
negate_where_gates c w s = after (negate_gates w (length w) s) (λ n t. choose_gates c n w t)

-- the word without its sign, at that width
unfoldable pub magnitude_gates : List Literal → ℕ → Circuit → Circuit × List Literal
magnitude_gates a width s = negate_where_gates (sign_of a) (fit width a) s

-- One bit more of the dividend: the remainder r takes it in from below, and gives b up where it holds b. What is given
-- is the quotient's bit and the remainder.
unfoldable pub divide_bit : List Literal → Literal → List Literal → Circuit → Circuit × (Literal × List Literal)
divide_bit b bit r s =
    after (less_gates (take (length b) (bit ∷ r)) b s) (λ l s1.
    after (subtract_gates (take (length b) (bit ∷ r)) b (length b) s1) (λ t s2.
    after (choose_gates (opposite l) t (take (length b) (bit ∷ r)) s2) (λ rest s3. (s3, (opposite l, rest)))))

-- the same with the quotient's bits so far, which are listed from the highest
unfoldable pub quotient_step : List Literal → Literal → List Literal × List Literal → Circuit → Circuit × (List Literal × List Literal)
quotient_step b bit a s = after (divide_bit b bit a.1 s) (λ x t. (t, (a.0 ++ x.0 ∷ [], x.1)))

-- the quotient and the remainder of two words without signs, by long division from the highest bit of a
unfoldable pub long_division_gates : List Literal → List Literal → Circuit → Circuit × (List Literal × List Literal)
long_division_gates a b s = after (fold_gates (quotient_step b) (reverse a) ([], zeros (length b)) s) (λ r t. (t, (reverse r.0, r.1)))

-- the quotient and the remainder of the two without their signs, at that width
unfoldable pub magnitudes_gates : List Literal → List Literal → ℕ → Circuit → Circuit × (List Literal × List Literal)
magnitudes_gates a b width s =
    after (magnitude_gates a width s) (λ x s1. after (magnitude_gates b width s1) (λ y s2. long_division_gates x y s2))

-- At one bit more than the two have. The quotient is negated where the signs differ.
unfoldable pub divide_gates : List Literal → List Literal → ℕ → Circuit → Circuit × List Literal
divide_gates a b width s =
    after (magnitudes_gates a b (max (length a) (length b) + 1) s) (λ r s1.
    after (xor_gate (sign_of a) (sign_of b) s1) (λ c s2.
    after (negate_where_gates c r.0 s2) (λ q s3. (s3, fit width q))))

-- the remainder has the sign of the dividend
unfoldable pub remainder_gates : List Literal → List Literal → ℕ → Circuit → Circuit × List Literal
remainder_gates a b width s =
    after (magnitudes_gates a b (max (length a) (length b) + 1) s) (λ r s1.
    after (negate_where_gates (sign_of a) r.1 s1) (λ m s2. (s2, fit width m)))
