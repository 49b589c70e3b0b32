-- Quotients and remainders lie in their intervals, where no divisor is 0.
use Rattle.std.proofs.Common.{◌≡◌, ◌⊎◌, inl, inr, ⊎_elim, ℕ, suc, ◌/◌, ◌≤◌, ◌<◌, max, Bool, true, false, ◌&&◌, if◌then◌else◌, ℤ, pos, negsuc, neg_ℤ, nat_abs, ◌-ℤ◌, ◌≤ℤ◌, ◌<ℤ◌, int_lt, int_le, int_div, int_rem, refl, arith}
use Rattle.std.proofs.lemmas.Int.{ints, clamps}
use Rattle.std.proofs.Math.Nat.{mul-le-mul_left, le-div_iff_mul-le, mul-div-le, mul_comm, mod-lt, mod-le}
use Rattle.std.specs.Int.{int_min, int_max}
use Rattle.smv_type_laws.specs.Intervals.{Interval, IsIn, quotient_of, most_left, remainder_of, has_zero}
use Rattle.smv_type_laws.proofs.Products.{Between, rising, falling, in_corners}

-- a quotient of natural numbers rises with what is divided, and falls with what divides
rises : (m n k : ℕ) → 0 < k → m ≤ n → m / k ≤ n / k
rises m n k p h = (le-div_iff_mul-le p).1 (omega (arith, mul-div-le m k, mul_comm (m / k) k))

falls : (n k l : ℕ) → 0 < k → k ≤ l → n / l ≤ n / k
falls n k l p h = (le-div_iff_mul-le p).1 (omega (arith, mul-div-le n l, mul_comm (n / l) l, mul-le-mul_left (n / l) h))

-- a divisor is not 0
abbrev pub NotZero : ℤ → Type 0
NotZero (pos n) = 0 < n
NotZero (negsuc n) = Unit {0}

over_pos : (a x : ℤ) (k : ℕ) → 0 < k → a ≤ℤ x → int_div a (pos k) ≤ℤ int_div x (pos k)
over_pos (pos a) (pos x) k p h = let q = rises a x k p (omega (arith, ints)) in omega (arith, ints)
over_pos (pos a) (negsuc x) k p h = absurd (omega (arith, ints))
over_pos (negsuc a) (pos x) k p h = omega (arith, ints)
over_pos (negsuc a) (negsuc x) k p h = let q = rises (suc x) (suc a) k p (omega (arith, ints)) in omega (arith, ints)

over_neg : (a x : ℤ) (k : ℕ) → a ≤ℤ x → int_div x (negsuc k) ≤ℤ int_div a (negsuc k)
over_neg (pos a) (pos x) k h = let q = rises a x (suc k) (omega arith) (omega (arith, ints)) in omega (arith, ints)
over_neg (pos a) (negsuc x) k h = absurd (omega (arith, ints))
over_neg (negsuc a) (pos x) k h = omega (arith, ints)
over_neg (negsuc a) (negsuc x) k h = let q = rises (suc x) (suc a) (suc k) (omega arith) (omega (arith, ints)) in omega (arith, ints)

-- what is divided lies between two numbers, and so does its quotient between theirs
between_over : (a b x y : ℤ) → NotZero y → a ≤ℤ x → x ≤ℤ b → Between (int_div a y) (int_div b y) (int_div x y)
between_over a b x (pos k) s p q = rising _ _ _ (over_pos a x k s p) (over_pos x b k s q)
between_over a b x (negsuc k) s p q = falling _ _ _ (over_neg x b k q) (over_neg a x k p)

-- so does what divides, where all have one sign
by_positive : (x : ℤ) (c y d : ℕ) → 0 < c → c ≤ y → y ≤ d → Between (int_div x (pos c)) (int_div x (pos d)) (int_div x (pos y))
by_positive (pos m) c y d s p q =
    let high = falls m c y s p in
    let low = falls m y d (omega arith) q in
    falling _ _ _ (omega (arith, ints)) (omega (arith, ints))
by_positive (negsuc m) c y d s p q =
    let high = falls (suc m) c y s p in
    let low = falls (suc m) y d (omega arith) q in
    rising _ _ _ (omega (arith, ints)) (omega (arith, ints))

by_negative : (x : ℤ) (c y d : ℕ) → y ≤ c → d ≤ y → Between (int_div x (negsuc c)) (int_div x (negsuc d)) (int_div x (negsuc y))
by_negative (pos m) c y d p q =
    let low = falls m (suc y) (suc c) (omega arith) (omega arith) in
    let high = falls m (suc d) (suc y) (omega arith) (omega arith) in
    falling _ _ _ (omega (arith, ints)) (omega (arith, ints))
by_negative (negsuc m) c y d p q =
    let low = falls (suc m) (suc y) (suc c) (omega arith) (omega arith) in
    let high = falls (suc m) (suc d) (suc y) (omega arith) (omega arith) in
    rising _ _ _ (omega (arith, ints)) (omega (arith, ints))

-- all positive, or all negative
abbrev pub OneSign : ℤ → ℤ → Type 0
OneSign lo hi = (pos 0 <ℤ lo) ⊎ (hi <ℤ pos 0)

by_divisor : (x c y d : ℤ) → OneSign c d → c ≤ℤ y → y ≤ℤ d → Between (int_div x c) (int_div x d) (int_div x y)
by_divisor x (pos c) (pos y) (pos d) (inl s) p q = by_positive x c y d (omega (arith, ints)) (omega (arith, ints)) (omega (arith, ints))
by_divisor x (pos c) (pos y) (negsuc d) (inl s) p q = absurd (omega (arith, ints))
by_divisor x (pos c) (negsuc y) d (inl s) p q = absurd (omega (arith, ints))
by_divisor x (negsuc c) y d (inl s) p q = absurd (omega (arith, ints))
by_divisor x c y (pos d) (inr s) p q = absurd (omega (arith, ints))
by_divisor x (pos c) y (negsuc d) (inr s) p q = absurd (omega (arith, ints))
by_divisor x (negsuc c) (pos y) (negsuc d) (inr s) p q = absurd (omega (arith, ints))
by_divisor x (negsuc c) (negsuc y) (negsuc d) (inr s) p q = by_negative x c y d (omega (arith, ints)) (omega (arith, ints))

not_zero : (c y d : ℤ) → OneSign c d → c ≤ℤ y → y ≤ℤ d → NotZero y
not_zero c (pos y) d (inl s) p q = omega (arith, ints)
not_zero c (negsuc y) d s p q = tt
not_zero c (pos y) d (inr s) p q = absurd (omega (arith, ints))

signs : (c d : ℤ) (a b : Bool) → int_le c (pos 0) ≡ a → int_le (pos 0) d ≡ b → (a && b) ≡ false → OneSign c d
signs c d true true e f h = cc
signs c d true false e f h = inr (grind (arith, ints))
signs c d false b e f h = inl (grind (arith, ints))

pub one_sign : (j : Interval) → has_zero j ≡ false → OneSign j.lo j.hi
one_sign j h = signs j.lo j.hi (int_le j.lo (pos 0)) (int_le (pos 0) j.hi) refl refl h

-- no divisor of an interval without 0 is 0
pub divisor_not_zero : (j : Interval) (y : ℤ) → has_zero j ≡ false → IsIn j y → NotZero y
divisor_not_zero j y h q = not_zero j.lo y j.hi (one_sign j h) q.above q.below

pub in_quotient : (i j : Interval) (x y : ℤ) → has_zero j ≡ false → IsIn i x → IsIn j y → IsIn (quotient_of i j) (int_div x y)
in_quotient i j x y h p q =
    let s : OneSign j.lo j.hi = one_sign j h in
    in_corners int_div i j (int_div i.lo y) (int_div i.hi y) (int_div x y) (between_over i.lo i.hi x y (divisor_not_zero j y h q) p.above p.below)
    (by_divisor i.lo j.lo y j.hi s q.above q.below) (by_divisor i.hi j.lo y j.hi s q.above q.below)

-- the size of a number of an interval is at most that of an end
size_between : (c y d : ℤ) → c ≤ℤ y → y ≤ℤ d → nat_abs y ≤ max (nat_abs c) (nat_abs d)
size_between (pos c) (pos y) (pos d) p q = omega (arith, ints)
size_between (pos c) (pos y) (negsuc d) p q = absurd (omega (arith, ints))
size_between (pos c) (negsuc y) d p q = absurd (omega (arith, ints))
size_between (negsuc c) (pos y) (pos d) p q = omega (arith, ints)
size_between (negsuc c) (pos y) (negsuc d) p q = absurd (omega (arith, ints))
size_between (negsuc c) (negsuc y) (pos d) p q = omega (arith, ints)
size_between (negsuc c) (negsuc y) (negsuc d) p q = omega (arith, ints)

size_positive : (y : ℤ) → NotZero y → 0 < nat_abs y
size_positive (pos n) h = h
size_positive (negsuc n) h = omega arith

-- what is left lies between 0 and what is divided, and is smaller in size than the divisor
pub record IsLeft (x r : ℤ) (m : ℤ) : Type 0 where
  pub room : pos 0 ≤ℤ m
  pub low : neg_ℤ m ≤ℤ r
  pub high : r ≤ℤ m
  pub toward : ((pos 0 ≤ℤ r) × (r ≤ℤ x)) ⊎ ((x <ℤ pos 0) × (x ≤ℤ r) × (r ≤ℤ pos 0))

is_left : (x y : ℤ) (n : ℕ) → NotZero y → nat_abs y ≤ n → IsLeft x (int_rem x y) (pos n -ℤ pos 1)
is_left (pos a) y n s h =
    let small = mod-lt a (size_positive y s) in
    let less = mod-le a (nat_abs y) in
    record { room = omega (arith, ints); low = omega (arith, ints); high = omega (arith, ints); toward = inl (omega (arith, ints), omega (arith, ints)) }
is_left (negsuc a) y n s h =
    let small = mod-lt (suc a) (size_positive y s) in
    let less = mod-le (suc a) (nat_abs y) in
    record { room = omega (arith, ints); low = omega (arith, ints); high = omega (arith, ints); toward = inr (omega (arith, ints), omega (arith, ints), omega (arith, ints)) }

low_end : (lo x r m : ℤ) (t : Bool) → int_lt lo (pos 0) ≡ t → lo ≤ℤ x → IsLeft x r m → (if t then int_max lo (neg_ℤ m) else pos 0) ≤ℤ r
low_end lo x r m true e p h = ⊎_elim (λ s. omega (arith, ints, clamps, h.room, h.low, s.0)) (λ s. omega (arith, ints, clamps, h.low, s.1)) h.toward
low_end lo x r m false e p h = ⊎_elim (λ s. s.0) (λ s. absurd (omega (arith, ints, s.0))) h.toward

high_end : (hi x r m : ℤ) (t : Bool) → int_lt (pos 0) hi ≡ t → x ≤ℤ hi → IsLeft x r m → r ≤ℤ (if t then int_min hi m else pos 0)
high_end hi x r m true e p h = ⊎_elim (λ s. omega (arith, ints, clamps, h.high, s.1)) (λ s. omega (arith, ints, clamps, h.room, s.2)) h.toward
high_end hi x r m false e p h = ⊎_elim (λ s. omega (arith, ints, s.1)) (λ s. s.2) h.toward

pub in_remainder : (i j : Interval) (x y : ℤ) → has_zero j ≡ false → IsIn i x → IsIn j y → IsIn (remainder_of i j) (int_rem x y)
in_remainder i j x y h p q =
    let left : IsLeft x (int_rem x y) (most_left j) = is_left x y (max (nat_abs j.lo) (nat_abs j.hi)) (divisor_not_zero j y h q) (size_between j.lo y j.hi q.above q.below) in
    record {
      above = low_end i.lo x (int_rem x y) (most_left j) (int_lt i.lo (pos 0)) refl p.above left;
      below = high_end i.hi x (int_rem x y) (most_left j) (int_lt (pos 0) i.hi) refl p.below left;
    }
