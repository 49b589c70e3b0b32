-- The number of bits, one bit more at a time.
use Rattle.std.proofs.Common.{◌≡◌, ◌≢◌, ℕ, zero, suc, ◌+◌, ◌-◌, ◌*◌, ◌^◌, ◌<◌, ◌≤◌, Bool, true, false, ℤ, pos, ◌+ℤ◌, ◌≤ℤ◌, ◌<ℤ◌, neg_ℤ, List, [], ◌∷◌, ◌++◌, length, refl, sym, ◌∙◌, ap, arith}
use Rattle.std.specs.Prelude.{if◌then◌else◌, nat_eq}
use Rattle.std.proofs.lemmas.Int.{ints}
use Rattle.std.proofs.lemmas.Bool.{eqb-true, eq-eqb}
use Rattle.std.proofs.Math.Nat.{pow-succ', pow-le-pow_right}
use Rattle.sat_clauses.specs.Assignment.{Assignment}
use Rattle.sat_clauses.specs.Literal.{plain}
use Rattle.sat_encoding_laws.specs.Layout.{literals_from}
use Rattle.sat_encoding.specs.Values.{bits_at, last_digit, bits_number}
use Rattle.sat_clauses.specs.Models.{values_of}

-- the bits from a place on, one place earlier
bits_earlier : (a : Assignment) (place left width : ℕ) → 0 < left → left ≤ width → bits_at a (place + (left - 1)) (width - (left - 1)) ≡ values_of a (place + (left - 1)) ∷ bits_at a (place + left) (width - left)
bits_earlier a place left width some le =
    let size : width - (left - 1) ≡ suc (width - left) = omega (arith, some, le) in
    let next : (place + (left - 1)) + 1 ≡ place + left = omega (arith, some) in
    ap (λ k. bits_at a (place + (left - 1)) k) size ∙ ap (λ n. values_of a (place + (left - 1)) ∷ bits_at a n (width - left)) next

digit_first : (signed b : Bool) (bs : List Bool) → length bs ≡ 0 → bits_number signed (b ∷ bs) ≡ last_digit signed b
digit_first signed b [] h = refl
digit_first signed b (c ∷ bs) h = absurd (omega (arith, h))

digit_more : (signed b : Bool) (bs : List Bool) → 0 < length bs → bits_number signed (b ∷ bs) ≡ (if b then pos 1 else pos 0) +ℤ (bits_number signed bs +ℤ bits_number signed bs)
digit_more signed b [] h = absurd (omega (arith, h))
digit_more signed b (c ∷ bs) h = refl

length_at : (a : Assignment) (n k : ℕ) → length (bits_at a n k) ≡ k
length_at a n zero = refl
length_at a n (suc k) = ap suc (length_at a (n + 1) k)

-- one bit more
pub number_next : (signed is_last : Bool) (a : Assignment) (place left width : ℕ) (n m : ℤ) (b : Bool) → 0 < left → left ≤ width → (is_last ≡ true → left ≡ width) → (is_last ≡ false → left ≢ width) → b ≡ values_of a (place + (left - 1))
    → n ≡ bits_number signed (bits_at a (place + left) (width - left)) → m ≡ (if is_last then last_digit signed b else (if b then pos 1 else pos 0) +ℤ (n +ℤ n))
    → m ≡ bits_number signed (bits_at a (place + (left - 1)) (width - (left - 1)))
number_next signed true a place left width n m b some le last more bit before is =
    let whole = last refl in
    let none : length (bits_at a (place + left) (width - left)) ≡ 0 = length_at a (place + left) (width - left) ∙ omega (arith, whole) in
    is ∙ ap (last_digit signed) bit ∙ sym (ap (bits_number signed) (bits_earlier a place left width some le) ∙ digit_first signed (values_of a (place + (left - 1))) (bits_at a (place + left) (width - left)) none)
number_next signed false a place left width n m b some le last more bit before is =
    let bs = bits_at a (place + left) (width - left) in
    let less = more refl in
    let some_bits : 0 < length bs = omega (arith, length_at a (place + left) (width - left), le, less) in
    is ∙ ap (λ x. (if x then pos 1 else pos 0) +ℤ (n +ℤ n)) bit ∙ ap (λ x. (if values_of a (place + (left - 1)) then pos 1 else pos 0) +ℤ (x +ℤ x)) before
    ∙ sym (ap (bits_number signed) (bits_earlier a place left width some le) ∙ digit_more signed (values_of a (place + (left - 1))) bs some_bits)

-- and it stays small
pub number_small : (signed is_last b : Bool) (n m : ℤ) (k j : ℕ) → j ≡ suc k → neg_ℤ (pos (2 ^ k)) ≤ℤ n → n <ℤ pos (2 ^ k) → m ≡ (if is_last then last_digit signed b else (if b then pos 1 else pos 0) +ℤ (n +ℤ n))
    → (neg_ℤ (pos (2 ^ j)) ≤ℤ m) × (m <ℤ pos (2 ^ j))
number_small signed true b n m k j e low high is = by signed b is
  where
    some : 2 ≤ 2 ^ suc k
    some = pow-le-pow_right (omega arith) {i = 1} {j = suc k} (omega arith)

    power : 2 ^ j ≡ 2 ^ suc k
    power = ap (λ i. 2 ^ i) e

    by : (signed b : Bool) → m ≡ last_digit signed b → (neg_ℤ (pos (2 ^ j)) ≤ℤ m) × (m <ℤ pos (2 ^ j))
    by true true f = (omega (arith, ints, f, some, power), omega (arith, ints, f, some, power))
    by true false f = (omega (arith, ints, f, some, power), omega (arith, ints, f, some, power))
    by false true f = (omega (arith, ints, f, some, power), omega (arith, ints, f, some, power))
    by false false f = (omega (arith, ints, f, some, power), omega (arith, ints, f, some, power))
number_small signed false b n m k j e low high is = by b is
  where
    power : 2 ^ j ≡ 2 * 2 ^ k
    power = ap (λ i. 2 ^ i) e ∙ pow-succ' 2 k

    by : (b : Bool) → m ≡ (if b then pos 1 else pos 0) +ℤ (n +ℤ n) → (neg_ℤ (pos (2 ^ j)) ≤ℤ m) × (m <ℤ pos (2 ^ j))
    by true f = (omega (arith, ints, f, low, high, power), omega (arith, ints, f, low, high, power))
    by false f = (omega (arith, ints, f, low, high, power), omega (arith, ints, f, low, high, power))

-- a number of at most 61 bits
pub number_fits : (n : ℤ) (k : ℕ) → k ≤ 61 → neg_ℤ (pos (2 ^ k)) ≤ℤ n → n <ℤ pos (2 ^ k) → (neg_ℤ (pos (2 ^ 61)) ≤ℤ n) × (n <ℤ pos (2 ^ 61))
number_fits n k le low high = let less : 2 ^ k ≤ 2 ^ 61 = pow-le-pow_right (omega arith) {i = k} {j = 61} le in (omega (arith, ints, low, less), omega (arith, ints, high, less))

pub is_whole : (left width : ℕ) → 0 < left → nat_eq ((left - 1) + 1) width ≡ true → left ≡ width
is_whole left width some e = let same = eqb-true ((left - 1) + 1) width e in omega (arith, some, same)

pub is_part : (left width : ℕ) → 0 < left → nat_eq ((left - 1) + 1) width ≡ false → left ≢ width
is_part left width some e same = let yes : nat_eq ((left - 1) + 1) width ≡ true = eq-eqb ((left - 1) + 1) width (omega (arith, some, same)) in cc (yes, e)

-- so many variables from one on, and the next
literals_more : (i n : ℕ) → literals_from (suc i) n ≡ literals_from i n ++ plain (n + i) ∷ []
literals_more zero n = let at : n ≡ n + 0 = omega arith in ap (λ k. plain k ∷ []) at
literals_more (suc i) n = let at : (n + 1) + i ≡ n + suc i = omega arith in ap (λ l. plain n ∷ l) (literals_more i (n + 1) ∙ ap (λ k. literals_from i (n + 1) ++ plain k ∷ []) at)

pub literals_last : (i n : ℕ) → literals_from (i + 1) n ≡ literals_from i n ++ plain (n + i) ∷ []
literals_last i n = let on : i + 1 ≡ suc i = omega arith in ap (λ k. literals_from k n) on ∙ literals_more i n
