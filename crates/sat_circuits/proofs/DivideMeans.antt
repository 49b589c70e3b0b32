-- Division: the signs, and the loops of the calls.
use Rattle.std.proofs.Common.{◌≡◌, ◌≢◌, ℕ, zero, suc, ◌+◌, ◌-◌, ◌*◌, ◌/◌, ◌%◌, ◌^◌, ◌<◌, ◌≤◌, max, false, cond, List, [], ◌∷◌, ◌++◌, length, map, take, drop, reverse, refl, sym, ◌∙◌, ap, subst, arith, ℤ, pos, negsuc, neg_ℤ, nat_abs, Some}
use Rattle.std.specs.Prelude.{int_lt, int_div, int_rem, slice_get}
use Rattle.std.proofs.lemmas.Int.{ints}
use Rattle.std.proofs.Math.Nat.{pow-succ', div-le_self, mod-le}
use Rattle.sat_clauses.specs.Literal.{Literal, opposite}
use Rattle.sat_clauses.specs.Models.{TotalAssignment, literal_value, IsBelow}
use Rattle.sat_circuits.specs.Circuit.{Circuit, after, fold_gates}
use Rattle.sat_circuits.specs.Gates.{xor_gate, differ}
use Rattle.sat_circuits.specs.Meaning.{AllBelow, Means, HasTruth, BeginsWith, StopsWithin}
use Rattle.sat_circuits.proofs.Extension.{AllBelow-more, Means-after, Means-done, Means-weaker, Means-keep, HasTruth-later, begins-after, BeginsWith-refl, StopsWithin-here, StopsWithin-later}
use Rattle.sat_circuits.proofs.Rows.{xor_gate-means, xor_gate-begins}
use Rattle.sat_circuits.proofs.Turns.{Turns, Turns-end, Turns-between, Turns-here, Turns-next, Turns-stops}
use Rattle.sat_circuits.specs.Bits.{signed_value, IsCutTo}
use Rattle.sat_circuits.specs.Words.{word_value, fit, sign_of, zeros, IsWordOf, IsOfWidth, IsSized}
use Rattle.sat_circuits.specs.Sums.{subtract_gates, less_gates, negate_gates}
use Rattle.sat_circuits.specs.Quotients.{choose_gates, negate_where_gates, magnitude_gates, divide_bit, quotient_step, long_division_gates, magnitudes_gates, divide_gates, remainder_gates}
use Rattle.sat_circuits.proofs.Orders.{Fits}
use Rattle.sat_circuits.proofs.WordMeans.{AllBelow-fit, length-fit, sign-below, sign-value, word_value-fit, Fits-word}
use Rattle.sat_circuits.proofs.SumMeans.{subtract_gates-adds}
use Rattle.sat_circuits.proofs.TestMeans.{less_gates-adds}
use Rattle.sat_circuits.proofs.QuotientMeans.{choose_gates-means, choose_gates-adds, value_chosen, negate_where_gates-means, negate_where_gates-adds, magnitude_gates-means, magnitude_gates-adds, divide_cost, DivideShape, quotient_step-turn, quotient_step-adds, long_division_gates-means, long_division_gates-adds}

pub choose_gates-sized : (c : Literal) (xs ys : List Literal) (s : Circuit) → length xs ≡ length ys → IsBelow s.free c → AllBelow s.free xs → AllBelow s.free ys
    → Means s (choose_gates c xs ys s) (IsSized (length xs) (s.free + length xs)) (λ v w. word_value v w ≡ cond (literal_value v c) (word_value v xs) (word_value v ys))
choose_gates-sized c xs ys s e hc hx hy =
    Means-weaker s _ _ (IsSized (length xs) (s.free + length xs)) _ _ (choose_gates-means c xs ys s e hc hx hy)
    (λ h. h)
    (λ v i k. ap signed_value k ∙ value_chosen (literal_value v c) (map (literal_value v) xs) (map (literal_value v) ys))

pub choose_gates-gives : (c : Literal) (xs ys : List Literal) (s : Circuit) → length xs ≡ length ys → IsBelow s.free c → AllBelow s.free xs → AllBelow s.free ys
    → Means s (choose_gates c xs ys s) (IsOfWidth (length xs)) (λ v w. word_value v w ≡ cond (literal_value v c) (word_value v xs) (word_value v ys))
choose_gates-gives c xs ys s e hc hx hy =
    Means-weaker s _ _ (IsOfWidth (length xs)) _ _ (choose_gates-sized c xs ys s e hc hx hy)
    (λ h. record { long = h.long; below = h.below })
    (λ v i k. k)

-- ---- the two without their signs

pub magnitudes_gates-means : (m : ℕ) (a b : List Literal) (s : Circuit) → HasTruth s → 1 < s.free → length a ≤ suc m → length b ≤ suc m → IsWordOf s a → IsWordOf s b
    → Means s (magnitudes_gates a b (suc (suc m)) s)
    (λ t r. IsOfWidth (suc (suc m)) t r.0 × IsOfWidth (suc (suc m)) t r.1 × (t.free ≡ s.free + (12 * suc (suc m) + divide_cost (suc (suc m)) * suc (suc m))))
    (λ v r. word_value v b ≢ pos 0
    → (word_value v r.0 ≡ pos (nat_abs (word_value v a) / nat_abs (word_value v b))) × (word_value v r.1 ≡ pos (nat_abs (word_value v a) % nat_abs (word_value v b)))
    × (nat_abs (word_value v a) ≤ 2 ^ m))
unfolding magnitudes_gates
magnitudes_gates-means m a b s t f la lb wa wb =
    let n : ℕ = suc (suc m) in
    Means-after s _ _ _ _ _ _ (magnitude_gates-means a m s t f la wa) (λ x s1 hx e1.
    Means-after s1 _ _ _ _ _ _
    (magnitude_gates-means b m s1 (HasTruth-later s s1 e1 t) (omega (arith, f, e1.counted)) lb (record { signed = wb.signed; below = AllBelow-more s.free s1.free e1.counted b wb.below })) (λ y s2 hy e2.
    Means-weaker s2 _ _ (λ t r. IsOfWidth n t r.0 × IsOfWidth n t r.1 × (t.free ≡ s.free + (12 * n + divide_cost n * n))) _ _
    (long_division_gates-means m x y s2 (HasTruth-later s1 s2 e2 (HasTruth-later s s1 e1 t)) (omega (arith, f, e1.counted, e2.counted))
    (record { long = hx.long; below = AllBelow-more s1.free s2.free e2.counted x hx.below }) (record { long = hy.long; below = hy.below }))
    (λ h. (h.0, h.1, omega (arith, h.2, hx.free, hy.free)))
    (λ v i k my mx some.
    let parts : _ = k (nat_abs (word_value v a)) (nat_abs (word_value v b)) mx.0 my.0 mx.1 my.1 (not_zero (word_value v b) some) in
    (parts.0, parts.1, mx.1))))
  where
    not_zero : (z : ℤ) → z ≢ pos 0 → 0 < nat_abs z
    not_zero (pos zero) h = absurd (h refl)
    not_zero (pos (suc n)) h = omega arith
    not_zero (negsuc n) h = omega arith

pub magnitudes_gates-adds : (a b : List Literal) (n : ℕ) (s : Circuit) → BeginsWith (magnitudes_gates a b n s).0.clauses s.clauses
unfolding magnitudes_gates
magnitudes_gates-adds a b n s = begins-after s _ _ (magnitude_gates-adds a n s) (λ x s1. begins-after s1 _ _ (magnitude_gates-adds b n s1) (λ y s2. long_division_gates-adds x y s2))

-- ---- the signs

lt-zero : (n : ℕ) → int_lt (pos n) (pos 0) ≡ false
lt-zero n = grind (arith, ints)

-- the quotient of the numbers without their signs, negated where the signs differ
quotient_signs : (z d : ℤ) → cond (differ (int_lt z (pos 0)) (int_lt d (pos 0))) (neg_ℤ (pos (nat_abs z / nat_abs d))) (pos (nat_abs z / nat_abs d)) ≡ int_div z d
quotient_signs (pos a) (pos b) = rw (lt-zero a, lt-zero b) refl
quotient_signs (pos a) (negsuc b) = rw (lt-zero a) refl
quotient_signs (negsuc a) (pos b) = rw (lt-zero b) refl
quotient_signs (negsuc a) (negsuc b) = refl

-- the remainder has the sign of the dividend
remainder_signs : (z d : ℤ) → cond (int_lt z (pos 0)) (neg_ℤ (pos (nat_abs z % nat_abs d))) (pos (nat_abs z % nat_abs d)) ≡ int_rem z d
remainder_signs (pos a) d = rw (lt-zero a) refl
remainder_signs (negsuc a) d = refl

Fits-small : (m x : ℕ) → x ≤ 2 ^ m → Fits (suc (suc m)) (neg_ℤ (pos x))
Fits-small m x h =
    let whole : 2 ^ (suc (suc m) - 1) ≡ 2 * 2 ^ m = ap (λ i. 2 ^ i) (omega arith) ∙ pow-succ' 2 m in
    record { low = omega (arith, ints, whole, h); high = omega (arith, ints, whole, pow-positive m) }
  where
    pow-positive : (m : ℕ) → 0 < 2 ^ m
    pow-positive zero = omega arith
    pow-positive (suc m) = omega (arith, pow-positive m, pow-succ' 2 m)

-- a word at n bits is its number, cut to them
cut-fit : (v : TotalAssignment) (n : ℕ) (w : List Literal) → 0 < length w → 0 < n → IsCutTo n (word_value v w) (word_value v (fit n w))
cut-fit v n w h k =
    let small : Fits n (word_value v (fit n w)) = subst (λ (i : ℕ). Fits i (word_value v (fit n w))) (length-fit n w) (Fits-word v (fit n w) (omega (arith, length-fit n w))) in
    record { low = small.low; high = small.high; wraps = word_value-fit v n w h }

-- ---- quotient and remainder

-- what both need of the two words without their signs
module _ (a b : List Literal) (s : Circuit) (t : HasTruth s) (f : 1 < s.free) (wa : IsWordOf s a) (wb : IsWordOf s b) where
  abbrev pub width : ℕ
  width = max (length a) (length b) + 1

  abbrev pub most : ℕ
  most = max (length a) (length b) - 1

  width_is : suc (suc most) ≡ width
  width_is = omega (arith, wa.signed)

  divided : Means s (magnitudes_gates a b width s)
      (λ t r. IsOfWidth width t r.0 × IsOfWidth width t r.1 × (t.free ≡ s.free + (12 * width + divide_cost width * width)))
      (λ v r. word_value v b ≢ pos 0
      → (word_value v r.0 ≡ pos (nat_abs (word_value v a) / nat_abs (word_value v b))) × (word_value v r.1 ≡ pos (nat_abs (word_value v a) % nat_abs (word_value v b)))
      × (nat_abs (word_value v a) ≤ 2 ^ most))
  divided =
      subst (λ (n : ℕ). Means s (magnitudes_gates a b n s)
      (λ t r. IsOfWidth n t r.0 × IsOfWidth n t r.1 × (t.free ≡ s.free + (12 * n + divide_cost n * n)))
      (λ v r. word_value v b ≢ pos 0
      → (word_value v r.0 ≡ pos (nat_abs (word_value v a) / nat_abs (word_value v b))) × (word_value v r.1 ≡ pos (nat_abs (word_value v a) % nat_abs (word_value v b)))
      × (nat_abs (word_value v a) ≤ 2 ^ most))) width_is
      (magnitudes_gates-means most a b s t f (omega (arith, wa.signed)) (omega (arith, wa.signed)) wa wb)

  fits : (x : ℕ) → x ≤ 2 ^ most → Fits width (neg_ℤ (pos x))
  fits x h = subst (λ (n : ℕ). Fits n (neg_ℤ (pos x))) width_is (Fits-small most x h)

  pub divide_gates-means : (n : ℕ) → 0 < n
      → Means s (divide_gates a b n s) (λ u x. IsOfWidth n u x × (u.free ≡ s.free + (18 * width + divide_cost width * width + 1)))
      (λ v x. word_value v b ≢ pos 0 → IsCutTo n (int_div (word_value v a) (word_value v b)) (word_value v x))
  unfolding divide_gates
  divide_gates-means n h =
      Means-after s _ _ _ _ _ _ divided (λ r s1 hr e1.
      Means-after s1 _ _ _ _ _ _
      (xor_gate-means s1 (sign_of a) (sign_of b) (sign-below s1.free a (omega (arith, f, e1.counted)) (AllBelow-more s.free s1.free e1.counted a wa.below))
      (sign-below s1.free b (omega (arith, f, e1.counted)) (AllBelow-more s.free s1.free e1.counted b wb.below))) (λ c s2 hc e2.
      Means-after s2 _ _ _ _ _ _
      (negate_where_gates-means c r.0 s2 (HasTruth-later s1 s2 e2 (HasTruth-later s s1 e1 t)) (omega (arith, f, e1.counted, e2.counted)) hc.below
      (record { signed = omega (arith, hr.0.long); below = AllBelow-more s1.free s2.free e2.counted r.0 hr.0.below })) (λ q s3 hq e3.
      let long : length q ≡ width = hq.long ∙ hr.0.long in
      Means-done s3 (fit n q) _ _
      (record { long = length-fit n q; below = AllBelow-fit n s3.free q (omega (arith, f, e1.counted, e2.counted, e3.counted)) hq.below }, omega (arith, hr.2, hc.next, hq.free, hr.0.long))
      (λ v i kq kc kr some.
      let parts : _ = kr some in
      let quotient : ℕ = nat_abs (word_value v a) / nat_abs (word_value v b) in
      let room : Fits (length r.0) (neg_ℤ (word_value v r.0)) =
      subst (λ (z : ℤ). Fits (length r.0) (neg_ℤ z)) (sym parts.0)
      (subst (λ (k : ℕ). Fits k (neg_ℤ (pos quotient))) (sym hr.0.long) (fits quotient (omega (arith, div-le_self (nat_abs (word_value v a)) (nat_abs (word_value v b)), parts.2))))
      in
      let is : word_value v q ≡ int_div (word_value v a) (word_value v b) =
      kq room ∙ ap (λ z. cond (literal_value v c) (neg_ℤ z) z) parts.0
      ∙ ap (λ x. cond x (neg_ℤ (pos quotient)) (pos quotient)) (kc ∙ ap (λ x. differ x (literal_value v (sign_of b))) (sign-value v a wa.signed) ∙ ap (λ x. differ (int_lt (word_value v a) (pos 0)) x) (sign-value v b wb.signed))
      ∙ quotient_signs (word_value v a) (word_value v b)
      in
      subst (λ (z : ℤ). IsCutTo n z (word_value v (fit n q))) is (cut-fit v n q (omega (arith, long)) h)))))

  pub remainder_gates-means : (n : ℕ) → 0 < n
      → Means s (remainder_gates a b n s) (λ u x. IsOfWidth n u x × (u.free ≡ s.free + (18 * width + divide_cost width * width)))
      (λ v x. word_value v b ≢ pos 0 → IsCutTo n (int_rem (word_value v a) (word_value v b)) (word_value v x))
  unfolding remainder_gates
  remainder_gates-means n h =
      Means-after s _ _ _ _ _ _ divided (λ r s1 hr e1.
      Means-after s1 _ _ _ _ _ _
      (negate_where_gates-means (sign_of a) r.1 s1 (HasTruth-later s s1 e1 t) (omega (arith, f, e1.counted))
      (sign-below s1.free a (omega (arith, f, e1.counted)) (AllBelow-more s.free s1.free e1.counted a wa.below))
      (record { signed = omega (arith, hr.1.long); below = hr.1.below })) (λ q s2 hq e2.
      let long : length q ≡ width = hq.long ∙ hr.1.long in
      Means-done s2 (fit n q) _ _
      (record { long = length-fit n q; below = AllBelow-fit n s2.free q (omega (arith, f, e1.counted, e2.counted)) hq.below }, omega (arith, hr.2, hq.free, hr.1.long))
      (λ v i kq kr some.
      let parts : _ = kr some in
      let rest : ℕ = nat_abs (word_value v a) % nat_abs (word_value v b) in
      let room : Fits (length r.1) (neg_ℤ (word_value v r.1)) =
      subst (λ (z : ℤ). Fits (length r.1) (neg_ℤ z)) (sym parts.1)
      (subst (λ (k : ℕ). Fits k (neg_ℤ (pos rest))) (sym hr.1.long) (fits rest (omega (arith, mod-le (nat_abs (word_value v a)) (nat_abs (word_value v b)), parts.2))))
      in
      let is : word_value v q ≡ int_rem (word_value v a) (word_value v b) =
      kq room ∙ ap (λ z. cond (literal_value v (sign_of a)) (neg_ℤ z) z) parts.1
      ∙ ap (λ x. cond x (neg_ℤ (pos rest)) (pos rest)) (sign-value v a wa.signed)
      ∙ remainder_signs (word_value v a) (word_value v b)
      in
      subst (λ (z : ℤ). IsCutTo n z (word_value v (fit n q))) is (cut-fit v n q (omega (arith, long)) h))))

  pub divide_gates-gives : (n : ℕ) → 0 < n → Means s (divide_gates a b n s) (IsOfWidth n) (λ v x. word_value v b ≢ pos 0 → IsCutTo n (int_div (word_value v a) (word_value v b)) (word_value v x))
  divide_gates-gives n h = Means-keep s _ _ (IsOfWidth n) _ (divide_gates-means n h) (λ k. k.0)

  pub remainder_gates-gives : (n : ℕ) → 0 < n → Means s (remainder_gates a b n s) (IsOfWidth n) (λ v x. word_value v b ≢ pos 0 → IsCutTo n (int_rem (word_value v a) (word_value v b)) (word_value v x))
  remainder_gates-gives n h = Means-keep s _ _ (IsOfWidth n) _ (remainder_gates-means n h) (λ k. k.0)

pub divide_gates-adds : (a b : List Literal) (n : ℕ) (s : Circuit) → BeginsWith (divide_gates a b n s).0.clauses s.clauses
unfolding divide_gates
divide_gates-adds a b n s =
    begins-after s _ _ (magnitudes_gates-adds a b _ s) (λ r s1. begins-after s1 _ _ (xor_gate-begins (sign_of a) (sign_of b) s1) (λ c s2.
    begins-after s2 _ _ (negate_where_gates-adds c r.0 s2) (λ q s3. BeginsWith-refl s3.clauses)))

pub remainder_gates-adds : (a b : List Literal) (n : ℕ) (s : Circuit) → BeginsWith (remainder_gates a b n s).0.clauses s.clauses
unfolding remainder_gates
remainder_gates-adds a b n s =
    begins-after s _ _ (magnitudes_gates-adds a b _ s) (λ r s1. begins-after s1 _ _ (negate_where_gates-adds (sign_of a) r.1 s1) (λ q s2. BeginsWith-refl s2.clauses))

-- ---- one bit

module _ (b : List Literal) (bit : Literal) (r d : List Literal) (s : Circuit) (ed : d ≡ take (length b) (bit ∷ r)) where
  pub divide_bit-first : (new : Circuit) → StopsWithin s new (less_gates d b s).0 → StopsWithin s new (divide_bit b bit r s).0
  unfolding divide_bit
  divide_bit-first new h =
      StopsWithin-here _ _ _ _ (subst (λ (x : List Literal). StopsWithin s new (less_gates x b s).0) ed h) (λ l s1.
      begins-after s1 _ _ (subtract_gates-adds (take (length b) (bit ∷ r)) b (length b) s1) (λ t s2.
      begins-after s2 _ _ (choose_gates-adds (opposite l) t (take (length b) (bit ∷ r)) s2) (λ rest s3. BeginsWith-refl s3.clauses)))

  module _ (s1 : Circuit) (l : Literal) (e : less_gates d b s ≡ (s1, l)) where
    less_is : less_gates (take (length b) (bit ∷ r)) b s ≡ (s1, l)
    less_is = ap (λ x. less_gates x b s) (sym ed) ∙ e

    less_adds : BeginsWith s1.clauses s.clauses
    less_adds = subst (λ (z : Circuit × Literal). BeginsWith z.0.clauses s.clauses) e (less_gates-adds d b s)

    pub divide_bit-second : (new : Circuit) → StopsWithin s1 new (subtract_gates d b (length b) s1).0 → StopsWithin s new (divide_bit b bit r s).0
    unfolding divide_bit
    divide_bit-second new h =
        StopsWithin-later _ _ _ _ _ _ less_is less_adds
        (StopsWithin-here _ _ _ _ (subst (λ (x : List Literal). StopsWithin s1 new (subtract_gates x b (length b) s1).0) ed h) (λ t s2.
        begins-after s2 _ _ (choose_gates-adds (opposite l) t (take (length b) (bit ∷ r)) s2) (λ rest s3. BeginsWith-refl s3.clauses)))

    module _ (s2 : Circuit) (t : List Literal) (e2 : subtract_gates d b (length b) s1 ≡ (s2, t)) where
      rest_is : subtract_gates (take (length b) (bit ∷ r)) b (length b) s1 ≡ (s2, t)
      rest_is = ap (λ x. subtract_gates x b (length b) s1) (sym ed) ∙ e2

      pub divide_bit-third : (new : Circuit) → StopsWithin s2 new (choose_gates (opposite l) t d s2).0 → StopsWithin s new (divide_bit b bit r s).0
      unfolding divide_bit
      divide_bit-third new h =
          StopsWithin-later _ _ _ _ _ _ less_is less_adds
          (StopsWithin-later _ _ _ _ _ _ rest_is (subst (λ (z : Circuit × List Literal). BeginsWith z.0.clauses s1.clauses) e2 (subtract_gates-adds d b (length b) s1))
          (StopsWithin-here _ _ _ _ (subst (λ (x : List Literal). StopsWithin s2 new (choose_gates (opposite l) t x s2).0) ed h) (λ rest s3. BeginsWith-refl s3.clauses)))

      pub divide_bit-exact : (s3 : Circuit) (x : List Literal) → choose_gates (opposite l) t d s2 ≡ (s3, x) → divide_bit b bit r s ≡ (s3, (opposite l, x))
      unfolding divide_bit after
      divide_bit-exact s3 x h =
          rw (less_is, rest_is) (ap (λ (z : Circuit × List Literal). (z.0, (opposite l, z.1))) (ap (λ y. choose_gates (opposite l) t y s2) (sym ed) ∙ h))

-- ---- the loop over the bits of the dividend

module _ (a b : List Literal) (s : Circuit) (m n limit : ℕ) (q r : List Literal) (i : ℕ) (g : Circuit)
    (turns : Turns (quotient_step b) (DivideShape m n limit b) (reverse a) s (fold_gates (quotient_step b) (reverse a) ([], zeros (length b)) s) i (q, r) g) where
  pub long_loop-end : length (reverse a) ≤ i → long_division_gates a b s ≡ (g, (reverse q, r))
  unfolding long_division_gates after
  long_loop-end h =
      ap (λ (z : Circuit × (List Literal × List Literal)). (z.0, (reverse z.1.0, z.1.1))) (Turns-end (quotient_step b) (DivideShape m n limit b) (quotient_step-adds b) (reverse a) s _ i (q, r) g turns h)

  pub long_loop-between : StopsWithin s g (long_division_gates a b s).0
  unfolding long_division_gates
  long_loop-between =
      StopsWithin-here _ _ _ _ (Turns-between (quotient_step b) (DivideShape m n limit b) (quotient_step-adds b) (reverse a) s _ i (q, r) g turns) (λ x t. BeginsWith-refl t.clauses)

  module _ (bit : Literal) (e : slice_get (reverse a) i ≡ Some bit) where
    pub long_loop-here : DivideShape m n limit b (bit ∷ drop (i + 1) (reverse a)) g (q, r)
    long_loop-here = Turns-here (quotient_step b) (DivideShape m n limit b) (quotient_step-adds b) (reverse a) s _ i (q, r) g turns bit e

    pub long_loop-stops : (new : Circuit) → StopsWithin g new (divide_bit b bit r g).0 → StopsWithin s new (long_division_gates a b s).0
    unfolding long_division_gates quotient_step
    long_loop-stops new h =
        StopsWithin-here _ _ _ _
        (Turns-stops (quotient_step b) (DivideShape m n limit b) (quotient_step-adds b) (reverse a) s _ i (q, r) g turns bit e new
        (StopsWithin-here _ _ _ _ h (λ x t. BeginsWith-refl t.clauses)))
        (λ x t. BeginsWith-refl t.clauses)

    pub long_loop-next : (t : Circuit) (l : Literal) (x : List Literal) → divide_bit b bit r g ≡ (t, (l, x))
        → Turns (quotient_step b) (DivideShape m n limit b) (reverse a) s (fold_gates (quotient_step b) (reverse a) ([], zeros (length b)) s) (i + 1) (q ++ l ∷ [], x) t
    unfolding quotient_step after
    long_loop-next t l x k =
        Turns-next (quotient_step b) (DivideShape m n limit b) (quotient_step-adds b) (reverse a) s _ i (q, r) g turns bit e t (q ++ l ∷ [], x)
        (ap (λ (z : Circuit × (Literal × List Literal)). (z.0, (q ++ z.1.0 ∷ [], z.1.1))) k)
        (quotient_step-turn m n limit b (λ v. 0) bit (drop (i + 1) (reverse a)) (q, r) g long_loop-here).shape

-- ---- want of memory in the calls that have no loop

pub negate_where-stops : (c : Literal) (w : List Literal) (s new : Circuit) → StopsWithin s new (negate_gates w (length w) s).0 → StopsWithin s new (negate_where_gates c w s).0
unfolding negate_where_gates
negate_where-stops c w s new h = StopsWithin-here _ _ _ _ h (λ n t. choose_gates-adds c n w t)

pub negate_where-later : (c : Literal) (w : List Literal) (s t new : Circuit) (n : List Literal) → negate_gates w (length w) s ≡ (t, n) → BeginsWith t.clauses s.clauses
    → StopsWithin t new (choose_gates c n w t).0 → StopsWithin s new (negate_where_gates c w s).0
unfolding negate_where_gates
negate_where-later c w s t new n e k h = StopsWithin-later _ _ _ _ _ _ e k h

pub negate_where-exact : (c : Literal) (w : List Literal) (s t u : Circuit) (n x : List Literal) → negate_gates w (length w) s ≡ (t, n) → choose_gates c n w t ≡ (u, x) → negate_where_gates c w s ≡ (u, x)
unfolding negate_where_gates after
negate_where-exact c w s t u n x e f = ap (λ (z : Circuit × List Literal). choose_gates c z.1 w z.0) e ∙ f

module _ (a b : List Literal) (n : ℕ) (s : Circuit) where
  pub magnitudes-first : (new : Circuit) → StopsWithin s new (magnitude_gates a n s).0 → StopsWithin s new (magnitudes_gates a b n s).0
  unfolding magnitudes_gates
  magnitudes-first new h = StopsWithin-here _ _ _ _ h (λ x s1. begins-after s1 _ _ (magnitude_gates-adds b n s1) (λ y s2. long_division_gates-adds x y s2))

  module _ (s1 : Circuit) (x : List Literal) (e1 : magnitude_gates a n s ≡ (s1, x)) where
    dividend_adds : BeginsWith s1.clauses s.clauses
    dividend_adds = subst (λ (z : Circuit × List Literal). BeginsWith z.0.clauses s.clauses) e1 (magnitude_gates-adds a n s)

    pub magnitudes-second : (new : Circuit) → StopsWithin s1 new (magnitude_gates b n s1).0 → StopsWithin s new (magnitudes_gates a b n s).0
    unfolding magnitudes_gates
    magnitudes-second new h = StopsWithin-later _ _ _ _ _ _ e1 dividend_adds (StopsWithin-here _ _ _ _ h (λ y s2. long_division_gates-adds x y s2))

    module _ (s2 : Circuit) (y : List Literal) (e2 : magnitude_gates b n s1 ≡ (s2, y)) where
      pub magnitudes-third : (new : Circuit) → StopsWithin s2 new (long_division_gates x y s2).0 → StopsWithin s new (magnitudes_gates a b n s).0
      unfolding magnitudes_gates
      magnitudes-third new h =
          StopsWithin-later _ _ _ _ _ _ e1 dividend_adds
          (StopsWithin-later _ _ _ _ _ _ e2 (subst (λ (z : Circuit × List Literal). BeginsWith z.0.clauses s1.clauses) e2 (magnitude_gates-adds b n s1)) h)

      pub magnitudes-exact : (s3 : Circuit) (r : List Literal × List Literal) → long_division_gates x y s2 ≡ (s3, r) → magnitudes_gates a b n s ≡ (s3, r)
      unfolding magnitudes_gates after
      magnitudes-exact s3 r h = rw (e1, e2) h

module _ (a b : List Literal) (n : ℕ) (s s1 : Circuit) (q r : List Literal) (e1 : magnitudes_gates a b (max (length a) (length b) + 1) s ≡ (s1, (q, r))) where
  both_adds : BeginsWith s1.clauses s.clauses
  both_adds = subst (λ (z : Circuit × (List Literal × List Literal)). BeginsWith z.0.clauses s.clauses) e1 (magnitudes_gates-adds a b _ s)

  pub divide-second : (new : Circuit) → StopsWithin s1 new (xor_gate (sign_of a) (sign_of b) s1).0 → StopsWithin s new (divide_gates a b n s).0
  unfolding divide_gates
  divide-second new h = StopsWithin-later _ _ _ _ _ _ e1 both_adds (StopsWithin-here _ _ _ _ h (λ c s2. begins-after s2 _ _ (negate_where_gates-adds c q s2) (λ x s3. BeginsWith-refl s3.clauses)))

  pub remainder-second : (new : Circuit) → StopsWithin s1 new (negate_where_gates (sign_of a) r s1).0 → StopsWithin s new (remainder_gates a b n s).0
  unfolding remainder_gates
  remainder-second new h = StopsWithin-later _ _ _ _ _ _ e1 both_adds (StopsWithin-here _ _ _ _ h (λ x s2. BeginsWith-refl s2.clauses))

  pub remainder-exact : (s2 : Circuit) (x : List Literal) → negate_where_gates (sign_of a) r s1 ≡ (s2, x) → remainder_gates a b n s ≡ (s2, fit n x)
  unfolding remainder_gates after
  remainder-exact s2 x h = rw (e1, h) refl

  module _ (s2 : Circuit) (c : Literal) (e2 : xor_gate (sign_of a) (sign_of b) s1 ≡ (s2, c)) where
    pub divide-third : (new : Circuit) → StopsWithin s2 new (negate_where_gates c q s2).0 → StopsWithin s new (divide_gates a b n s).0
    unfolding divide_gates
    divide-third new h =
        StopsWithin-later _ _ _ _ _ _ e1 both_adds
        (StopsWithin-later _ _ _ _ _ _ e2 (subst (λ (z : Circuit × Literal). BeginsWith z.0.clauses s1.clauses) e2 (xor_gate-begins (sign_of a) (sign_of b) s1))
        (StopsWithin-here _ _ _ _ h (λ x s3. BeginsWith-refl s3.clauses)))

    pub divide-exact : (s3 : Circuit) (x : List Literal) → negate_where_gates c q s2 ≡ (s3, x) → divide_gates a b n s ≡ (s3, fit n x)
    unfolding divide_gates after
    divide-exact s3 x h = rw (e1, e2, h) refl

pub divide-first_stops : (a b : List Literal) (n : ℕ) (s new : Circuit) → StopsWithin s new (magnitudes_gates a b (max (length a) (length b) + 1) s).0 → StopsWithin s new (divide_gates a b n s).0
unfolding divide_gates
divide-first_stops a b n s new h =
    StopsWithin-here _ _ _ _ h (λ r s1. begins-after s1 _ _ (xor_gate-begins (sign_of a) (sign_of b) s1) (λ c s2.
    begins-after s2 _ _ (negate_where_gates-adds c r.0 s2) (λ q s3. BeginsWith-refl s3.clauses)))

pub remainder-first_stops : (a b : List Literal) (n : ℕ) (s new : Circuit) → StopsWithin s new (magnitudes_gates a b (max (length a) (length b) + 1) s).0 → StopsWithin s new (remainder_gates a b n s).0
unfolding remainder_gates
remainder-first_stops a b n s new h = StopsWithin-here _ _ _ _ h (λ r s1. begins-after s1 _ _ (negate_where_gates-adds (sign_of a) r.1 s1) (λ q s2. BeginsWith-refl s2.clauses))

-- all of the clauses stand already
pub StopsWithin-whole : {A : Type 0} (s new : Circuit) (whole : Circuit × A) (x : A) → whole ≡ (new, x) → BeginsWith whole.0.clauses s.clauses → StopsWithin s new whole.0
StopsWithin-whole s new whole x e h = record {
  begins = subst (λ (z : Circuit × _). BeginsWith z.0.clauses s.clauses) e h;
  within = subst (λ (z : Circuit × _). BeginsWith whole.0.clauses z.0.clauses) e (BeginsWith-refl whole.0.clauses);
}
