-- Sums of lists of bits.
use Rattle.std.proofs.Common.{◌≡◌, ℕ, zero, suc, ◌+◌, ◌-◌, ◌*◌, ◌^◌, ◌<◌, ◌≤◌, Bool, true, false, not, List, [], ◌∷◌, length, map, refl, sym, ◌∙◌, ap, subst, arith, inl, inr, ℤ, pos, ◌+ℤ◌, ◌-ℤ◌, ◌≤ℤ◌, ◌<ℤ◌, neg_ℤ}
use Rattle.std.proofs.lemmas.Int.{ints}
use Rattle.std.proofs.lemmas.Bool.{cases_order}
use Rattle.std.proofs.lemmas.List.{length-map}
use Rattle.std.proofs.Math.Nat.{pow-succ', mul-le-mul_left}
use Rattle.sat_circuits.specs.Gates.{differ}
use Rattle.sat_circuits.specs.Bits.{carry_of, bit_value, natural_value, last_from, last_bit, signed_value, IsCutTo, SameModulo, fit_from}

-- the sum of two lists of bits of one length, as long as they are
abbrev pub add_bits : List Bool → List Bool → Bool → List Bool
add_bits [] ys c = []
add_bits (x ∷ xs) [] c = []
add_bits (x ∷ xs) (y ∷ ys) c = differ (differ x y) c ∷ add_bits xs ys (carry_of x y c)

full_adder-value : (x y c : Bool) → bit_value (differ (differ x y) c) + 2 * bit_value (carry_of x y c) ≡ bit_value x + bit_value y + bit_value c
full_adder-value true true true = refl
full_adder-value true true false = refl
full_adder-value true false true = refl
full_adder-value true false false = refl
full_adder-value false true true = refl
full_adder-value false true false = refl
full_adder-value false false true = refl
full_adder-value false false false = refl

pub natural_value-add_bits : (xs ys : List Bool) (c : Bool) → length xs ≡ length ys
    → (k : ℕ) × (natural_value (add_bits xs ys c) + k * 2 ^ length xs ≡ natural_value xs + natural_value ys + bit_value c)
natural_value-add_bits [] [] c e = (bit_value c, omega arith)
natural_value-add_bits [] (y ∷ ys) c e = absurd (omega arith)
natural_value-add_bits (x ∷ xs) [] c e = absurd (omega arith)
natural_value-add_bits (x ∷ xs) (y ∷ ys) c e =
    let rest : (k : ℕ) × (natural_value (add_bits xs ys (carry_of x y c)) + k * 2 ^ length xs ≡ natural_value xs + natural_value ys + bit_value (carry_of x y c)) =
    natural_value-add_bits xs ys (carry_of x y c) (omega arith)
    in
    (rest.0, omega (arith, full_adder-value x y c, ap (λ p. rest.0 * p) (pow-succ' 2 (length xs))))

pub length-add_bits : (xs ys : List Bool) (c : Bool) → length xs ≡ length ys → length (add_bits xs ys c) ≡ length xs
length-add_bits [] ys c e = refl
length-add_bits (x ∷ xs) [] c e = absurd (omega arith)
length-add_bits (x ∷ xs) (y ∷ ys) c e = ap suc (length-add_bits xs ys (carry_of x y c) (omega arith))

-- ---- what a list of bits can be

pub natural_value-below : (bs : List Bool) → natural_value bs < 2 ^ length bs
natural_value-below [] = omega arith
natural_value-below (true ∷ bs) = omega (arith, natural_value-below bs, pow-succ' 2 (length bs))
natural_value-below (false ∷ bs) = omega (arith, natural_value-below bs, pow-succ' 2 (length bs))

-- half of the numbers have the sign
pub last_from-half : (d : Bool) (bs : List Bool) (n : ℕ) → length bs ≡ suc n → (bit_value (last_from d bs) * 2 ^ n ≤ natural_value bs) × (natural_value bs < 2 ^ n + bit_value (last_from d bs) * 2 ^ n)
last_from-half d [] n e = absurd (omega arith)
last_from-half d (true ∷ []) zero e = (omega arith, omega arith)
last_from-half d (false ∷ []) zero e = (omega arith, omega arith)
last_from-half d (b ∷ []) (suc n) e = absurd (omega arith)
last_from-half d (b ∷ (x ∷ bs)) zero e = absurd (omega arith)
last_from-half d (b ∷ (x ∷ bs)) (suc n) e = half b (last_from x bs) (natural_value (x ∷ bs)) n (last_from-half b (x ∷ bs) n (omega arith))
  where
    half : (b s : Bool) (x n : ℕ) → (bit_value s * 2 ^ n ≤ x) × (x < 2 ^ n + bit_value s * 2 ^ n)
        → (bit_value s * 2 ^ suc n ≤ bit_value b + 2 * x) × (bit_value b + 2 * x < 2 ^ suc n + bit_value s * 2 ^ suc n)
    half true true x n h = (omega (arith, pow-succ' 2 n), omega (arith, pow-succ' 2 n))
    half true false x n h = (omega (arith, pow-succ' 2 n), omega (arith, pow-succ' 2 n))
    half false true x n h = (omega (arith, pow-succ' 2 n), omega (arith, pow-succ' 2 n))
    half false false x n h = (omega (arith, pow-succ' 2 n), omega (arith, pow-succ' 2 n))

-- those bounds, as bounds on the signed value
sign_bounds : (b : Bool) (x p : ℕ) → (bit_value b * p ≤ x) × (x < p + bit_value b * p)
    → (neg_ℤ (pos p) ≤ℤ (pos x -ℤ pos (bit_value b * (2 * p)))) × ((pos x -ℤ pos (bit_value b * (2 * p))) <ℤ pos p)
sign_bounds true x p h = (omega (arith, ints), omega (arith, ints))
sign_bounds false x p h = (omega (arith, ints), omega (arith, ints))

-- a multiple of m more on the right
pub SameModulo-less : (m : ℕ) (z x : ℤ) (k : ℕ) → SameModulo m z x → SameModulo m z (x -ℤ pos (k * m))
SameModulo-less m z x k h = record { over = h.over; under = h.under + k; same = omega (arith, ints, h.same) }

-- a list of bits that has, up to a multiple of 2 ^ length, the natural value of z, is z cut to its length
pub signed_value-cut : (bs : List Bool) (n : ℕ) (z : ℤ) → length bs ≡ n → 0 < n → SameModulo (2 ^ n) z (pos (natural_value bs)) → IsCutTo n z (signed_value bs)
signed_value-cut bs zero z e h m = absurd (omega arith)
signed_value-cut bs (suc n) z e h m =
    let bounds : _ = sign_bounds (last_bit bs) (natural_value bs) (2 ^ n) (last_from-half false bs n e) in
    let whole : 2 * 2 ^ n ≡ 2 ^ length bs = sym (pow-succ' 2 n) ∙ ap (λ i. 2 ^ i) (sym e) in
    let half : 2 ^ n ≡ 2 ^ (suc n - 1) = ap (λ i. 2 ^ i) (omega arith) in
    record {
      low = rw (← half, ← whole) bounds.0;
      high = rw (← half, ← whole) bounds.1;
      wraps = rw e (SameModulo-less (2 ^ suc n) z (pos (natural_value bs)) (bit_value (last_bit bs)) m);
    }

-- the signed value is the natural one, up to a multiple of 2 ^ length
pub SameModulo-signed : (bs : List Bool) (n : ℕ) → length bs ≡ n → SameModulo (2 ^ n) (signed_value bs) (pos (natural_value bs))
SameModulo-signed bs n e = record { over = bit_value (last_bit bs); under = 0; same = rw e (omega (arith, ints)) }

-- ---- numbers that differ by a multiple of m

pub SameModulo-refl : (m : ℕ) (x : ℤ) → SameModulo m x x
SameModulo-refl m x = record { over = 0; under = 0; same = refl }

pub SameModulo-sym : {m : ℕ} {x y : ℤ} → SameModulo m x y → SameModulo m y x
SameModulo-sym h = record { over = h.under; under = h.over; same = sym h.same }

pub SameModulo-trans : {m : ℕ} {x y z : ℤ} → SameModulo m x y → SameModulo m y z → SameModulo m x z
SameModulo-trans h k = record { over = h.over + k.over; under = h.under + k.under; same = omega (arith, ints, h.same, k.same) }

pub SameModulo-add : {m : ℕ} {x x' y y' : ℤ} → SameModulo m x x' → SameModulo m y y' → SameModulo m (x +ℤ y) (x' +ℤ y')
SameModulo-add h k = record { over = h.over + k.over; under = h.under + k.under; same = omega (arith, ints, h.same, k.same) }

pub SameModulo-sub : {m : ℕ} {x x' y y' : ℤ} → SameModulo m x x' → SameModulo m y y' → SameModulo m (x -ℤ y) (x' -ℤ y')
SameModulo-sub h k = record { over = h.over + k.under; under = h.under + k.over; same = omega (arith, ints, h.same, k.same) }

-- of two numbers with the width's bits, one that is the other up to a multiple of 2 ^ width is the other
pub IsCutTo-fits : (n : ℕ) (z r : ℤ) → 0 < n → neg_ℤ (pos (2 ^ (n - 1))) ≤ℤ z → z <ℤ pos (2 ^ (n - 1)) → IsCutTo n z r → r ≡ z
IsCutTo-fits zero z r h low high c = absurd (omega arith)
IsCutTo-fits (suc n) z r h low high c =
    let half : 2 ^ (suc n - 1) ≡ 2 ^ n = ap (λ i. 2 ^ i) (omega arith) in
    equal (2 ^ n) (2 ^ suc n) z r c.wraps.over c.wraps.under (pow-succ' 2 n) (rw half at low) (rw half at high) (rw half at c.low) (rw half at c.high) c.wraps.same
  where
    equal : (p q : ℕ) (z r : ℤ) (j k : ℕ) → q ≡ 2 * p → neg_ℤ (pos p) ≤ℤ z → z <ℤ pos p → neg_ℤ (pos p) ≤ℤ r → r <ℤ pos p → z +ℤ pos (j * q) ≡ r +ℤ pos (k * q) → r ≡ z
    equal p q z r j k e a b c d s =
        elim (cases_order j k) [
          | inl same ↦ omega (arith, ints, ap (λ i. i * q) same)
          | inr (inl less) ↦ absurd (omega (arith, ints, mul-le-mul_left q less))
          | inr (inr more) ↦ absurd (omega (arith, ints, mul-le-mul_left q more))
        ]

-- ---- sums

-- the sum of two lists of bits, with a carry, is the sum of their numbers cut to their length
pub add_bits-cut : (xs ys : List Bool) (c : Bool) (n : ℕ) → length xs ≡ n → length ys ≡ n → 0 < n
    → IsCutTo n (signed_value xs +ℤ signed_value ys +ℤ pos (bit_value c)) (signed_value (add_bits xs ys c))
add_bits-cut xs ys c n e k h =
    let whole : (k : ℕ) × (natural_value (add_bits xs ys c) + k * 2 ^ length xs ≡ natural_value xs + natural_value ys + bit_value c) =
    natural_value-add_bits xs ys c (e ∙ sym k)
    in
    let naturals : SameModulo (2 ^ n) (pos (natural_value xs) +ℤ pos (natural_value ys) +ℤ pos (bit_value c)) (pos (natural_value (add_bits xs ys c))) =
    subst (λ (i : ℕ). SameModulo (2 ^ i) (pos (natural_value xs) +ℤ pos (natural_value ys) +ℤ pos (bit_value c)) (pos (natural_value (add_bits xs ys c)))) e
    (record { over = 0; under = whole.0; same = omega (arith, ints, whole.1) })
    in
    signed_value-cut (add_bits xs ys c) n _ (length-add_bits xs ys c (e ∙ sym k) ∙ e) h
    (SameModulo-trans
    (SameModulo-add
    (SameModulo-add (SameModulo-signed xs n e) (SameModulo-signed ys n k))
    (SameModulo-refl (2 ^ n) (pos (bit_value c))))
    naturals)

-- ---- the bits of a negation

pub natural_value-not : (bs : List Bool) → natural_value (map not bs) + natural_value bs + 1 ≡ 2 ^ length bs
natural_value-not [] = refl
natural_value-not (true ∷ bs) = omega (arith, natural_value-not bs, pow-succ' 2 (length bs))
natural_value-not (false ∷ bs) = omega (arith, natural_value-not bs, pow-succ' 2 (length bs))

-- the difference of two lists of bits: the sum of the one, the negated other and 1
pub subtract_bits-cut : (xs ys : List Bool) (n : ℕ) → length xs ≡ n → length ys ≡ n → 0 < n
    → IsCutTo n (signed_value xs -ℤ signed_value ys) (signed_value (add_bits xs (map not ys) true))
subtract_bits-cut xs ys n e k h =
    let k' : length (map not ys) ≡ n = length-map ys not ∙ k in
    let whole : (k : ℕ) × (natural_value (add_bits xs (map not ys) true) + k * 2 ^ length xs ≡ natural_value xs + natural_value (map not ys) + 1) =
    natural_value-add_bits xs (map not ys) true (e ∙ sym k')
    in
    let there : 2 ^ length xs ≡ 2 ^ length ys = ap (λ i. 2 ^ i) (e ∙ sym k) in
    let naturals : SameModulo (2 ^ n) (pos (natural_value xs) -ℤ pos (natural_value ys)) (pos (natural_value (add_bits xs (map not ys) true))) =
    subst (λ (i : ℕ). SameModulo (2 ^ i) (pos (natural_value xs) -ℤ pos (natural_value ys)) (pos (natural_value (add_bits xs (map not ys) true)))) e
    (record { over = 1; under = whole.0; same = omega (arith, ints, whole.1, natural_value-not ys) })
    in
    signed_value-cut (add_bits xs (map not ys) true) n _ (length-add_bits xs (map not ys) true (e ∙ sym k') ∙ e) h
    (SameModulo-trans (SameModulo-sub (SameModulo-signed xs n e) (SameModulo-signed ys n k)) naturals)

-- a number that is the same as z, cut, is z cut
pub IsCutTo-same : {n : ℕ} {y z r : ℤ} → SameModulo (2 ^ n) z y → IsCutTo n y r → IsCutTo n z r
IsCutTo-same m c = record { low = c.low; high = c.high; wraps = SameModulo-trans m c.wraps }

-- ---- a word at another width

pub length-fit_from : {A : Type 0} (d : A) (n : ℕ) (w : List A) → length (fit_from d n w) ≡ n
length-fit_from d zero w = refl
length-fit_from d (suc n) [] = ap suc (length-fit_from d n [])
length-fit_from d (suc n) (x ∷ w) = ap suc (length-fit_from x n w)

pub map-fit_from : {A B : Type 0} (f : A → B) (d : A) (n : ℕ) (w : List A) → map f (fit_from d n w) ≡ fit_from (f d) n (map f w)
map-fit_from f d zero w = refl
map-fit_from f d (suc n) [] = ap (λ x. f d ∷ x) (map-fit_from f d n [])
map-fit_from f d (suc n) (x ∷ w) = ap (λ y. f x ∷ y) (map-fit_from f x n w)

natural_value-fit_from : (d : Bool) (n : ℕ) (bs : List Bool)
    → SameModulo (2 ^ n) (pos (natural_value bs) -ℤ pos (bit_value (last_from d bs) * 2 ^ length bs)) (pos (natural_value (fit_from d n bs)))
natural_value-fit_from d zero bs = record { over = bit_value (last_from d bs) * 2 ^ length bs; under = natural_value bs; same = omega (arith, ints) }
natural_value-fit_from d (suc n) [] =
    let rest : SameModulo (2 ^ n) (pos 0 -ℤ pos (bit_value d * 1)) (pos (natural_value (fit_from d n []))) = natural_value-fit_from d n [] in
    record { over = rest.over; under = rest.under; same = omega (arith, ints, rest.same, ap (λ p. rest.over * p) (pow-succ' 2 n), ap (λ p. rest.under * p) (pow-succ' 2 n)) }
natural_value-fit_from d (suc n) (x ∷ bs) =
    let rest : SameModulo (2 ^ n) (pos (natural_value bs) -ℤ pos (bit_value (last_from x bs) * 2 ^ length bs)) (pos (natural_value (fit_from x n bs))) =
    natural_value-fit_from x n bs
    in
    record {
      over = rest.over;
      under = rest.under;
      same =
          omega (
            arith,
            ints,
            rest.same,
            ap (λ p. rest.over * p) (pow-succ' 2 n),
            ap (λ p. rest.under * p) (pow-succ' 2 n),
            ap (λ p. bit_value (last_from x bs) * p) (pow-succ' 2 (length bs)),
          );
    }

-- a word that is not empty, at n bits, is its number up to a multiple of 2 ^ n
pub SameModulo-fit_from : (d : Bool) (n : ℕ) (bs : List Bool) → 0 < length bs → SameModulo (2 ^ n) (signed_value bs) (signed_value (fit_from d n bs))
SameModulo-fit_from d n [] h = absurd (omega arith)
SameModulo-fit_from d n (x ∷ bs) h =
    SameModulo-trans (natural_value-fit_from d n (x ∷ bs)) (SameModulo-sym (SameModulo-signed (fit_from d n (x ∷ bs)) n (length-fit_from d n (x ∷ bs))))

-- with no carry in
pub plain_bits-cut : (xs ys : List Bool) (n : ℕ) → length xs ≡ n → length ys ≡ n → 0 < n → IsCutTo n (signed_value xs +ℤ signed_value ys) (signed_value (add_bits xs ys false))
plain_bits-cut xs ys n e k h = IsCutTo-same (record { over = 0; under = 0; same = omega (arith, ints) }) (add_bits-cut xs ys false n e k h)
