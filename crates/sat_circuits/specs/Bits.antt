-- Numbers in two's complement, as lists of bits with the least significant first.
use Rattle.std.specs.Prelude.{◌≡◌, ℕ, zero, suc, ◌+◌, ◌-◌, ◌*◌, ◌^◌, Bool, false, ◌&&◌, ◌||◌, if◌then◌else◌, List, length, [], ◌∷◌, ℤ, pos}
use Rattle.std.specs.Prelude.{◌+ℤ◌, ◌-ℤ◌, ◌≤ℤ◌, ◌<ℤ◌, neg_ℤ}
use Rattle.sat_circuits.specs.Gates.{differ}

-- 1 for true, 0 for false
abbrev pub bit_value : Bool → ℕ
bit_value b = if b then 1 else 0

-- the number whose binary digits the bits are
abbrev pub natural_value : List Bool → ℕ
natural_value [] = 0
natural_value (b ∷ bs) = bit_value b + 2 * natural_value bs

-- the last item, or d where there is none
abbrev pub last_from : {A : Type 0} → A → List A → A
last_from d [] = d
last_from d (b ∷ bs) = last_from b bs

-- the last bit, the sign
abbrev pub last_bit : List Bool → Bool
last_bit bs = last_from false bs

-- the number in two's complement: where the sign is set, 2 ^ length is taken off
abbrev pub signed_value : List Bool → ℤ
signed_value bs = pos (natural_value bs) -ℤ pos (bit_value (last_bit bs) * 2 ^ length bs)

-- the two differ by a multiple of m
pub record SameModulo (m : ℕ) (x y : ℤ) : Type 0 where
  pub over : ℕ
  pub under : ℕ
  pub same : x +ℤ pos (over * m) ≡ y +ℤ pos (under * m)

-- r is z cut to that many bits: it fits them, and the two differ by a multiple of 2 ^ width
pub record IsCutTo (width : ℕ) (z r : ℤ) : Type 0 where
  pub low : neg_ℤ (pos (2 ^ (width - 1))) ≤ℤ r
  pub high : r <ℤ pos (2 ^ (width - 1))
  pub wraps : SameModulo (2 ^ width) z r

-- the carry of three bits
abbrev pub carry_of : Bool → Bool → Bool → Bool
carry_of x y c = (x && y) || (differ x y && c)

-- the lowest n items, where what stands past the last is the last, or d where there is none
abbrev pub fit_from : {A : Type 0} → A → ℕ → List A → List A
fit_from d zero w = []
fit_from d (suc n) [] = d ∷ fit_from d n []
fit_from d (suc n) (x ∷ w) = x ∷ fit_from x n w
