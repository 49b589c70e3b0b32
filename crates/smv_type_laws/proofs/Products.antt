-- Sums, differences, negatives and products lie in their intervals.
use Rattle.std.proofs.Common.{ℕ, suc, ◌+◌, ◌≤◌, ℤ, pos, negsuc, ◌+ℤ◌, ◌-ℤ◌, ◌*ℤ◌, ◌≤ℤ◌, arith}
use Rattle.std.proofs.lemmas.Int.{ints, clamps}
use Rattle.std.proofs.Math.Nat.{mul-le-mul_right}
use Rattle.std.specs.Int.{int_min, int_max}
use lib.IntN.{*ℤ_comm}
use borrow.Author.Differences.{up, down}
use Rattle.smv_type_laws.specs.Intervals.{Interval, IsIn, just, hull, corners, sum_of, difference_of, negative_of, product_of}

-- z is one of a and b or lies between them
pub record Between (a b z : ℤ) : Type 0 where
  pub above : int_min a b ≤ℤ z
  pub below : z ≤ℤ int_max a b

pub in_sum : (i j : Interval) (x y : ℤ) → IsIn i x → IsIn j y → IsIn (sum_of i j) (x +ℤ y)
in_sum i j x y p q = record { above = omega (arith, ints, p.above, q.above); below = omega (arith, ints, p.below, q.below) }

pub in_difference : (i j : Interval) (x y : ℤ) → IsIn i x → IsIn j y → IsIn (difference_of i j) (x -ℤ y)
in_difference i j x y p q = record { above = omega (arith, ints, p.above, q.below); below = omega (arith, ints, p.below, q.above) }

pub in_negative : (i : Interval) (x : ℤ) → IsIn i x → IsIn (negative_of i) (pos 0 -ℤ x)
in_negative i x p = record { above = omega (arith, ints, p.below); below = omega (arith, ints, p.above) }

pub in_just : (n : ℤ) → IsIn (just n) n
in_just n = record { above = omega (arith, ints); below = omega (arith, ints) }

pub in_hull_left : (i j : Interval) (x : ℤ) → IsIn i x → IsIn (hull i j) x
in_hull_left i j x p = record { above = omega (arith, ints, clamps, p.above); below = omega (arith, ints, clamps, p.below) }

pub in_hull_right : (i j : Interval) (x : ℤ) → IsIn j x → IsIn (hull i j) x
in_hull_right i j x p = record { above = omega (arith, ints, clamps, p.above); below = omega (arith, ints, clamps, p.below) }

-- what lies between two numbers, each of which lies between two others, lies in the hull of the four
pub in_corners : (f : ℤ → ℤ → ℤ) (i j : Interval) (a b z : ℤ) → Between a b z → Between (f i.lo j.lo) (f i.lo j.hi) a → Between (f i.hi j.lo) (f i.hi j.hi) b → IsIn (corners f i j) z
in_corners f i j a b z p q r = record {
  above = omega (arith, ints, clamps, p.above, q.above, r.above);
  below = omega (arith, ints, clamps, p.below, q.below, r.below);
}

pub rising : (a b z : ℤ) → a ≤ℤ z → z ≤ℤ b → Between a b z
rising a b z p q = record { above = omega (arith, ints, clamps); below = omega (arith, ints, clamps) }

pub falling : (a b z : ℤ) → b ≤ℤ z → z ≤ℤ a → Between a b z
falling a b z p q = record { above = omega (arith, ints, clamps); below = omega (arith, ints, clamps) }

times_pos : (a x : ℤ) (n : ℕ) → a ≤ℤ x → (a *ℤ pos n) ≤ℤ (x *ℤ pos n)
times_pos a x n h =
    let apart : up a + down x ≤ up x + down a = omega (arith, ints) in
    omega (arith, ints, mul-le-mul_right n apart)

times_neg : (a x : ℤ) (n : ℕ) → a ≤ℤ x → (x *ℤ negsuc n) ≤ℤ (a *ℤ negsuc n)
times_neg a x n h =
    let apart : up a + down x ≤ up x + down a = omega (arith, ints) in
    omega (arith, ints, mul-le-mul_right (suc n) apart)

-- a product with one number between two lies between their products
pub between_times : (a b x y : ℤ) → a ≤ℤ x → x ≤ℤ b → Between (a *ℤ y) (b *ℤ y) (x *ℤ y)
between_times a b x (pos n) p q = rising _ _ _ (times_pos a x n p) (times_pos x b n q)
between_times a b x (negsuc n) p q = falling _ _ _ (times_neg x b n q) (times_neg a x n p)

pub in_product : (i j : Interval) (x y : ℤ) → IsIn i x → IsIn j y → IsIn (product_of i j) (x *ℤ y)
in_product i j x y p q =
    let low : Between (i.lo *ℤ j.lo) (i.lo *ℤ j.hi) (i.lo *ℤ y) = swapped j.lo j.hi y i.lo (between_times j.lo j.hi y i.lo q.above q.below) in
    let high : Between (i.hi *ℤ j.lo) (i.hi *ℤ j.hi) (i.hi *ℤ y) = swapped j.lo j.hi y i.hi (between_times j.lo j.hi y i.hi q.above q.below) in
    in_corners ◌*ℤ◌ i j (i.lo *ℤ y) (i.hi *ℤ y) (x *ℤ y) (between_times i.lo i.hi x y p.above p.below) low high
  where
    swapped : (a b x y : ℤ) → Between (a *ℤ y) (b *ℤ y) (x *ℤ y) → Between (y *ℤ a) (y *ℤ b) (y *ℤ x)
    swapped a b x y h = rw (*ℤ_comm y a, *ℤ_comm y b, *ℤ_comm y x) h
