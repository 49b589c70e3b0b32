-- Where numbers in two's complement are exact, and how their bits compare.
use Rattle.std.proofs.Common.{◌≡◌, ℕ, zero, suc, ◌+◌, ◌-◌, ◌*◌, ◌^◌, ◌<◌, ◌≤◌, Bool, true, false, not, ◌&&◌, List, [], ◌∷◌, length, refl, sym, ◌∙◌, ap, arith, ℤ, pos, ◌-ℤ◌, ◌≤ℤ◌, ◌<ℤ◌, neg_ℤ}
use Rattle.std.specs.Prelude.{int_lt}
use Rattle.std.specs.Ordering.{int_eq}
use Rattle.std.proofs.lemmas.Int.{ints}
use Rattle.std.proofs.lemmas.Bool.Decides.{Decides-int_eq}
use Rattle.std.proofs.Math.Nat.{pow-succ'}
use Rattle.std.proofs.Math.Pow.{pow_mono}
use Rattle.sat_circuits.specs.Gates.{differ}
use Rattle.sat_circuits.specs.Bits.{bit_value, natural_value, last_bit, signed_value, IsCutTo, fit_from}
use Rattle.sat_circuits.proofs.Numbers.{natural_value-below, signed_value-cut, IsCutTo-fits, SameModulo-fit_from, SameModulo-signed, SameModulo-trans, SameModulo-refl, length-fit_from}
use Rattle.base_values.proofs.BoolLaws.{bool_same}

-- ---- what fits a number of bits

-- z is a number of n bits
pub record Fits (n : ℕ) (z : ℤ) : Type 0 where
  pub low : neg_ℤ (pos (2 ^ (n - 1))) ≤ℤ z
  pub high : z <ℤ pos (2 ^ (n - 1))

pub Fits-more : (m n : ℕ) (z : ℤ) → m ≤ n → Fits m z → Fits n z
Fits-more m n z h f =
    let wider : 2 ^ (m - 1) ≤ 2 ^ (n - 1) = pow_mono (omega arith) in
    record { low = omega (arith, ints, f.low, wider); high = omega (arith, ints, f.high, wider) }

pub Fits-signed : (bs : List Bool) → 0 < length bs → Fits (length bs) (signed_value bs)
Fits-signed [] h = absurd (omega arith)
Fits-signed (b ∷ bs) h =
    let cut : IsCutTo (length (b ∷ bs)) (pos (natural_value (b ∷ bs))) (signed_value (b ∷ bs)) =
    signed_value-cut (b ∷ bs) (length (b ∷ bs)) (pos (natural_value (b ∷ bs))) refl h (SameModulo-refl _ _)
    in
    record { low = cut.low; high = cut.high }

pub exact : (n : ℕ) (z r : ℤ) → 0 < n → Fits n z → IsCutTo n z r → r ≡ z
exact n z r h f c = IsCutTo-fits n z r h f.low f.high c

-- the difference of two numbers of n bits has one bit more
pub Fits-difference : (n : ℕ) (x y : ℤ) → 0 < n → Fits n x → Fits n y → Fits (n + 1) (x -ℤ y)
Fits-difference zero x y h f g = absurd (omega arith)
Fits-difference (suc n) x y h f g =
    let half : 2 ^ (suc n - 1) ≡ 2 ^ n = ap (λ i. 2 ^ i) (omega arith) in
    let whole : 2 ^ (suc n + 1 - 1) ≡ 2 * 2 ^ n = ap (λ i. 2 ^ i) (omega arith) ∙ pow-succ' 2 n in
    record { low = omega (arith, ints, f.low, f.high, g.low, g.high, half, whole); high = omega (arith, ints, f.low, f.high, g.low, g.high, half, whole) }

-- more bits keep the number
pub signed_value-fit_from : (d : Bool) (n : ℕ) (bs : List Bool) → 0 < length bs → length bs ≤ n → signed_value (fit_from d n bs) ≡ signed_value bs
signed_value-fit_from d n bs h k =
    exact n (signed_value bs) (signed_value (fit_from d n bs)) (omega arith) (Fits-more (length bs) n (signed_value bs) k (Fits-signed bs h))
    (signed_value-cut (fit_from d n bs) n (signed_value bs) (length-fit_from d n bs) (omega arith)
    (SameModulo-trans (SameModulo-fit_from d n bs h) (SameModulo-signed (fit_from d n bs) n (length-fit_from d n bs))))

-- ---- the sign

sign_of : (b : Bool) (x p : ℕ) → x < p → b ≡ int_lt (pos x -ℤ pos (bit_value b * p)) (pos 0)
sign_of true x p h = grind (arith, ints)
sign_of false x p h = grind (arith, ints)

-- the last bit is set where the number is below 0
pub last_bit-sign : (bs : List Bool) → last_bit bs ≡ int_lt (signed_value bs) (pos 0)
last_bit-sign bs = sign_of (last_bit bs) (natural_value bs) (2 ^ length bs) (natural_value-below bs)

pub int_lt-difference : (x y : ℤ) → int_lt (x -ℤ y) (pos 0) ≡ int_lt x y
int_lt-difference x y = grind (arith, ints)

-- ---- equality

-- whether two lists of bits agree, as far as the shorter goes
abbrev pub agree : List Bool → List Bool → Bool
agree [] ys = true
agree (x ∷ xs) [] = true
agree (x ∷ xs) (y ∷ ys) = not (differ x y) && agree xs ys

agree-same : (xs : List Bool) → agree xs xs ≡ true
agree-same [] = refl
agree-same (true ∷ xs) = agree-same xs
agree-same (false ∷ xs) = agree-same xs

same_from_agree : (xs ys : List Bool) → length xs ≡ length ys → agree xs ys ≡ true → xs ≡ ys
same_from_agree [] [] e h = refl
same_from_agree [] (y ∷ ys) e h = absurd (omega arith)
same_from_agree (x ∷ xs) [] e h = absurd (omega arith)
same_from_agree (true ∷ xs) (true ∷ ys) e h = ap (λ z. true ∷ z) (same_from_agree xs ys (omega arith) h)
same_from_agree (false ∷ xs) (false ∷ ys) e h = ap (λ z. false ∷ z) (same_from_agree xs ys (omega arith) h)
same_from_agree (true ∷ xs) (false ∷ ys) e h = cc
same_from_agree (false ∷ xs) (true ∷ ys) e h = cc

same_from_natural : (xs ys : List Bool) → length xs ≡ length ys → natural_value xs ≡ natural_value ys → xs ≡ ys
same_from_natural [] [] e h = refl
same_from_natural [] (y ∷ ys) e h = absurd (omega arith)
same_from_natural (x ∷ xs) [] e h = absurd (omega arith)
same_from_natural (true ∷ xs) (true ∷ ys) e h = ap (λ z. true ∷ z) (same_from_natural xs ys (omega arith) (omega arith))
same_from_natural (false ∷ xs) (false ∷ ys) e h = ap (λ z. false ∷ z) (same_from_natural xs ys (omega arith) (omega arith))
same_from_natural (true ∷ xs) (false ∷ ys) e h = absurd (omega arith)
same_from_natural (false ∷ xs) (true ∷ ys) e h = absurd (omega arith)

same_from_signed : (xs ys : List Bool) → length xs ≡ length ys → signed_value xs ≡ signed_value ys → xs ≡ ys
same_from_signed xs ys e h = same_from_natural xs ys e (natural (last_bit xs) (last_bit ys) (natural_value xs) (natural_value ys) (2 ^ length xs) (2 ^ length ys) (ap (λ i. 2 ^ i) e) (natural_value-below xs) (natural_value-below ys) h)
  where
    natural : (b c : Bool) (x y p q : ℕ) → p ≡ q → x < p → y < q → pos x -ℤ pos (bit_value b * p) ≡ pos y -ℤ pos (bit_value c * q) → x ≡ y
    natural true true x y p q e h k s = omega (arith, ints, s)
    natural true false x y p q e h k s = omega (arith, ints, s)
    natural false true x y p q e h k s = omega (arith, ints, s)
    natural false false x y p q e h k s = omega (arith, ints, s)

-- two lists of one length agree where their numbers are equal
pub agree-int_eq : (xs ys : List Bool) → length xs ≡ length ys → agree xs ys ≡ int_eq (signed_value xs) (signed_value ys)
agree-int_eq xs ys e =
    bool_same (agree xs ys) (int_eq (signed_value xs) (signed_value ys))
    (λ h. (Decides-int_eq (signed_value xs) (signed_value ys)).1 (ap signed_value (same_from_agree xs ys e h)))
    (λ h. ap (agree xs) (sym (same_from_signed xs ys e ((Decides-int_eq (signed_value xs) (signed_value ys)).0 h))) ∙ agree-same xs)
