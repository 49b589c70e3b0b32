-- Which gates add, subtract and compare two words.
use Rattle.std.specs.Prelude.{ℕ, ◌+◌, List, [], ◌∷◌, ◌++◌, map, max, length, true, false, zip}
use Rattle.sat_clauses.specs.Literal.{Literal, opposite}
use Rattle.sat_circuits.specs.Circuit.{Circuit, after, fold_gates}
use Rattle.sat_circuits.specs.Gates.{and_gate, or_gate, xor_gate, constant_lit}
use Rattle.sat_circuits.specs.Words.{fit, sign_of}

-- the sum bit and the carry of three literals
unfoldable pub full_adder : Literal → Literal → Literal → Circuit → Circuit × (Literal × Literal)
full_adder x y carry s =
    after (xor_gate x y s) (λ t s1.
    after (xor_gate t carry s1) (λ r s2.
    after (and_gate x y s2) (λ p s3.
    after (and_gate t carry s3) (λ q s4.
    after (or_gate p q s4) (λ next s5. (s5, (r, next)))))))

-- one place more: the sum so far, and the carry
unfoldable pub sum_step : Literal × Literal → List Literal × Literal → Circuit → Circuit × (List Literal × Literal)
sum_step p a s = after (full_adder p.0 p.1 a.1 s) (λ r t. (t, (a.0 ++ r.0 ∷ [], r.1)))

-- the sum of two words of the same length, as long as they are
unfoldable pub sum_gates : List Literal → List Literal → Literal → Circuit → Circuit × List Literal
sum_gates xs ys carry s = after (fold_gates sum_step (zip xs ys) ([], carry) s) (λ a t. (t, a.0))

unfoldable pub add_gates : List Literal → List Literal → ℕ → Circuit → Circuit × List Literal
add_gates a b width s = sum_gates (fit width a) (fit width b) (constant_lit false) s

-- a, and the negated b, and 1
unfoldable pub subtract_gates : List Literal → List Literal → ℕ → Circuit → Circuit × List Literal
subtract_gates a b width s = sum_gates (fit width a) (map opposite (fit width b)) (constant_lit true) s

-- 0 minus a
unfoldable pub negate_gates : List Literal → ℕ → Circuit → Circuit × List Literal
negate_gates a width s = subtract_gates (constant_lit false ∷ []) a width s

-- whether a is less than b: the sign of their difference at one bit more than they have
unfoldable pub less_gates : List Literal → List Literal → Circuit → Circuit × Literal
less_gates a b s = after (subtract_gates a b (max (length a) (length b) + 1) s) (λ difference t. (t, sign_of difference))

-- one place more: whether all so far agree, and these two
unfoldable pub equal_step : Literal × Literal → Literal → Circuit → Circuit × Literal
equal_step p agree s = after (xor_gate p.0 p.1 s) (λ t u. and_gate agree (opposite t) u)

-- whether a is b, at the greater of their widths
unfoldable pub equal_gates : List Literal → List Literal → Circuit → Circuit × Literal
equal_gates a b s = fold_gates equal_step (zip (fit (max (length a) (length b)) a) (fit (max (length a) (length b)) b)) (constant_lit true)
    s
