-- Intervals of whole numbers, and what operations make of them.
use Rattle.std.specs.Prelude.{ℤ, pos, negsuc, neg_ℤ, ◌+ℤ◌, ◌-ℤ◌, ◌*ℤ◌, ◌≤ℤ◌, ◌^◌, ◌&&◌, Bool, max, nat_lt, nat_abs, int_lt, int_le, int_div}
use Rattle.std.specs.Prelude.{if◌then◌else◌}
use Rattle.std.specs.Int.{int_min, int_max}

-- the whole numbers from one to another, both with them
pub record Interval : Type 0 where
  pub lo : ℤ
  pub hi : ℤ

-- the number is one of them
pub record IsIn (i : Interval) (n : ℤ) : Type 0 where
  pub above : i.lo ≤ℤ n
  pub below : n ≤ℤ i.hi

-- the number alone
abbrev pub just : ℤ → Interval
just n = record { lo = n; hi = n }

-- the least interval around both
abbrev pub hull : Interval → Interval → Interval
hull i j = record { lo = int_min i.lo j.lo; hi = int_max i.hi j.hi }

-- the least interval around what an operation makes of the ends
abbrev pub corners : (ℤ → ℤ → ℤ) → Interval → Interval → Interval
corners f i j = hull (hull (just (f i.lo j.lo)) (just (f i.lo j.hi))) (hull (just (f i.hi j.lo)) (just (f i.hi j.hi)))

-- the exact interval of sums
abbrev pub sum_of : Interval → Interval → Interval
sum_of i j = record { lo = i.lo +ℤ j.lo; hi = i.hi +ℤ j.hi }

-- the exact interval of differences
abbrev pub difference_of : Interval → Interval → Interval
difference_of i j = record { lo = i.lo -ℤ j.hi; hi = i.hi -ℤ j.lo }

-- of the numbers with the other sign
abbrev pub negative_of : Interval → Interval
negative_of i = record { lo = pos 0 -ℤ i.hi; hi = pos 0 -ℤ i.lo }

-- and of products
abbrev pub product_of : Interval → Interval → Interval
product_of = corners ◌*ℤ◌

-- the hull of the four quotients of ends
abbrev pub quotient_of : Interval → Interval → Interval
quotient_of = corners int_div

-- the greatest size of an end, less 1
abbrev pub most_left : Interval → ℤ
most_left j = pos (max (nat_abs j.lo) (nat_abs j.hi)) -ℤ pos 1

-- what is left has the sign of what is divided, and is no greater in size
abbrev pub remainder_of : Interval → Interval → Interval
remainder_of i j = record {
  lo = if int_lt i.lo (pos 0) then int_max i.lo (neg_ℤ (most_left j)) else pos 0;
  hi = if int_lt (pos 0) i.hi then int_min i.hi (most_left j) else pos 0;
}

-- 0 is one of its numbers
abbrev pub has_zero : Interval → Bool
has_zero i = int_le i.lo (pos 0) && int_le (pos 0) i.hi

-- the number is one of a signed word of 32 bits
abbrev pub fits_number : ℤ → Bool
fits_number (pos n) = nat_lt n (2 ^ 31)
fits_number (negsuc n) = nat_lt n (2 ^ 31)

-- both ends are within 32 bits
abbrev pub fits : Interval → Bool
fits i = fits_number i.lo && fits_number i.hi
