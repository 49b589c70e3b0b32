-- What the gates of a product mean.
use Rattle.std.proofs.Common.{◌≡◌, ℕ, zero, suc, ◌+◌, ◌-◌, ◌*◌, ◌^◌, ◌<◌, ◌≤◌, Bool, true, false, not, ◌&&◌, List, [], ◌∷◌, ◌++◌, length, map, take, drop, refl, sym, ◌∙◌, ap, subst, arith, pow-add, ℤ, pos, negsuc, neg_ℤ, ◌*ℤ◌, Some}
use Rattle.std.specs.Prelude.{slice_get}
use Rattle.std.specs.List.{AllByRecursion}
use borrow.Author.Differences.{up, down}
use Rattle.std.proofs.lemmas.Int.{ints}
use Rattle.std.proofs.lemmas.List.{length-map, length-replicate, length-take-le, take-map}
use Rattle.std.proofs.Math.IntN.{*ℤ-negsuc, *ℤ_comm}
use Rattle.std.proofs.Math.Nat.{pow-succ'}
use Rattle.sat_clauses.specs.Literal.{Literal}
use Rattle.sat_clauses.specs.Models.{TotalAssignment, literal_value, IsBelow}
use Rattle.sat_circuits.specs.Circuit.{Circuit, after, fold_gates}
use Rattle.sat_circuits.specs.Gates.{and_gate, constant_lit}
use Rattle.sat_circuits.specs.Meaning.{AllBelow, Means, HasTruth, BeginsWith, StopsWithin}
use Rattle.sat_circuits.proofs.Extension.{AllBelow-more, Means-after, Means-done, Means-weaker, Means-fold, begins-after, BeginsWith-refl, Means-keep, StopsWithin-here, StopsWithin-later}
use Rattle.sat_circuits.proofs.Rows.{and_gate-means, and_gate-begins}
use Rattle.sat_circuits.proofs.Turns.{Turns, Turns-end, Turns-here, Turns-next, Turns-stops, fold_gates-begins}
use Rattle.sat_circuits.specs.Bits.{bit_value, natural_value, SameModulo, IsCutTo}
use Rattle.sat_circuits.specs.Words.{fit, zeros, word_value, IsWordOf, IsOfWidth, GivesCut, push_gate, IsSized}
use Rattle.sat_circuits.specs.Sums.{sum_gates}
use Rattle.sat_circuits.specs.Products.{row_gates, product_step, product_gates, multiply_gates}
use Rattle.sat_circuits.proofs.Numbers.{SameModulo-trans, SameModulo-signed, signed_value-cut, add_bits, natural_value-add_bits}
use Rattle.sat_circuits.proofs.WordMeans.{MapsTo, map_gates-means, push_gate-adds, length-fit, AllBelow-fit, AllBelow-zeros, word_value-fit, length-values}
use Rattle.sat_circuits.proofs.SumMeans.{sum_gates-means, sum_gates-adds}

-- ---- products up to a multiple of m

SameModulo-scale : {m : ℕ} {y z : ℤ} (n : ℕ) → SameModulo m y z → SameModulo m (pos n *ℤ y) (pos n *ℤ z)
SameModulo-scale {m} {y} {z} n h =
    let e : up y + h.over * m + down z ≡ up z + h.under * m + down y = omega (arith, ints, h.same) in
    record { over = n * h.over; under = n * h.under; same = omega (arith, ints, ap (λ k. n * k) e) }

SameModulo-neg : {m : ℕ} {y z : ℤ} → SameModulo m y z → SameModulo m (neg_ℤ y) (neg_ℤ z)
SameModulo-neg h = record { over = h.under; under = h.over; same = omega (arith, ints, h.same) }

SameModulo-times : {m : ℕ} {y z : ℤ} (x : ℤ) → SameModulo m y z → SameModulo m (y *ℤ x) (z *ℤ x)
SameModulo-times {m} {y} {z} (pos n) h = rw (*ℤ_comm y (pos n), *ℤ_comm z (pos n)) (SameModulo-scale n h)
SameModulo-times {m} {y} {z} (negsuc n) h =
    rw (*ℤ-negsuc y n, *ℤ-negsuc z n, *ℤ_comm y (pos (suc n)), *ℤ_comm z (pos (suc n))) (SameModulo-neg (SameModulo-scale (suc n) h))

pub SameModulo-mul : {m : ℕ} {x y x' y' : ℤ} → SameModulo m x x' → SameModulo m y y' → SameModulo m (x *ℤ y) (x' *ℤ y')
SameModulo-mul {m} {x} {y} {x'} {y'} h k =
    SameModulo-trans (SameModulo-times y h)
    (subst (λ (z : ℤ). SameModulo m (x' *ℤ y) z) (*ℤ_comm y' x') (subst (λ (z : ℤ). SameModulo m z (y' *ℤ x')) (*ℤ_comm y x') (SameModulo-times x' k)))

SameModulo-natural : (m x y k : ℕ) → x ≡ y + k * m → SameModulo m (pos x) (pos y)
SameModulo-natural m x y k e = record { over = 0; under = k; same = omega (arith, ints, e) }

-- ---- the rows

pub AllBelow-take : (m k : ℕ) (w : List Literal) → AllBelow m w → AllBelow m (take k w)
AllBelow-take m zero w h = tt
AllBelow-take m (suc k) [] h = tt
AllBelow-take m (suc k) (x ∷ w) h = (h.0, AllBelow-take m k w h.1)

-- the number of the word's bits, the sign taken as one of them
abbrev pub value_of : TotalAssignment → List Literal → ℕ
value_of v w = natural_value (map (literal_value v) w)

bit_value-and : (b x : Bool) → bit_value (b && x) ≡ bit_value b * bit_value x
bit_value-and true true = refl
bit_value-and true false = refl
bit_value-and false x = omega arith

natural_value-and : (b : Bool) (v : TotalAssignment) (xs : List Literal) → natural_value (map (λ x. b && literal_value v x) xs) ≡ bit_value b * value_of v xs
natural_value-and b v [] = omega arith
natural_value-and b v (x ∷ xs) = omega (arith, natural_value-and b v xs, bit_value-and b (literal_value v x))

-- b may be used beside x
abbrev pub Rowable : Literal → ℕ → Literal → Type 0
Rowable b n x = IsBelow n x × IsBelow n b

pub and_gate-maps : (b : Literal) → MapsTo (and_gate b) 1 (Rowable b) (λ v x. literal_value v b && literal_value v x)
and_gate-maps b = record {
  means = λ x t h. Means-weaker t _ _ (λ u l. IsBelow u.free l × (u.free ≡ t.free + 1)) _ _ (and_gate-means t b x h.1 h.0) (λ k. (k.below, k.next)) (λ v i e. e);
  later = λ m n h x k. (omega (arith, k.0), omega (arith, k.1));
  adds = λ x t. and_gate-begins b x t;
}

pub Rowable-all : (b : Literal) (n : ℕ) (xs : List Literal) → IsBelow n b → AllBelow n xs → AllByRecursion (Rowable b n) xs
Rowable-all b n [] h k = tt
Rowable-all b n (x ∷ xs) h k = ((k.0, h), Rowable-all b n xs h k.1)

-- the lowest k bits, and the others 2 ^ k times
pub natural_value-take : (k : ℕ) (bs : List Bool) → natural_value bs ≡ natural_value (take k bs) + 2 ^ k * natural_value (drop k bs)
natural_value-take zero bs = omega arith
natural_value-take (suc k) [] = omega arith
natural_value-take (suc k) (b ∷ bs) = omega (arith, natural_value-take k bs, ap (λ p. p * natural_value (drop k bs)) (pow-succ' 2 k))

-- i bits that are clear, and then the others
natural_value-zeros : (v : TotalAssignment) (i : ℕ) (bs : List Bool) → v 1 ≡ true → natural_value (map (literal_value v) (zeros i) ++ bs) ≡ 2 ^ i * natural_value bs
natural_value-zeros v zero bs t = omega arith
natural_value-zeros v (suc i) bs t =
    omega (arith, natural_value-zeros v i bs t, ap (λ b. bit_value (not b)) t, ap (λ p. p * natural_value bs) (pow-succ' 2 i))

pub row_gates-means : (b : Literal) (i : ℕ) (a : List Literal) (s : Circuit) → 1 < s.free → i ≤ length a → IsBelow s.free b → AllBelow s.free a
    → Means s (row_gates b i a s) (IsSized (length a) (s.free + (length a - i)))
    (λ v w. v 1 ≡ true → value_of v w ≡ 2 ^ i * (bit_value (literal_value v b) * value_of v (take (length a - i) a)))
unfolding row_gates
row_gates-means b i a s f h hb ha =
    let short : List Literal = take (length a - i) a in
    let long : length short ≡ length a - i = length-take-le (length a - i) a (omega arith) in
    Means-weaker s _ _ (IsSized (length a) (s.free + (length a - i))) _ _
    (map_gates-means (and_gate b) 1 (Rowable b) (λ v x. literal_value v b && literal_value v x) (and_gate-maps b) short (zeros i) s
    (Rowable-all b s.free short hb (AllBelow-take s.free (length a - i) a ha)) (AllBelow-zeros s.free i f))
    (λ k. record {
      long = omega (arith, k.long, length-replicate {A = Literal} i (constant_lit false), long);
      below = k.below;
      free = omega (arith, k.free, long);
    })
    (λ v old e t. ap natural_value e ∙ natural_value-zeros v i _ t ∙ ap (λ x. 2 ^ i * x) (natural_value-and (literal_value v b) v short))

pub row_gates-adds : (b : Literal) (i : ℕ) (a : List Literal) (s : Circuit) → BeginsWith (row_gates b i a s).0.clauses s.clauses
unfolding row_gates
row_gates-adds b i a s =
    fold_gates-begins (push_gate (and_gate b)) (push_gate-adds (and_gate b) 1 (Rowable b) (λ v x. literal_value v b && literal_value v x) (and_gate-maps b)) _ (zeros i) s

rows_step : (p q m r row sum k c t d a b : ℕ) → a ≡ t + q * d → p * q ≡ m → row ≡ c * t → sum + k * m ≡ r + p * row
    → r + p * ((c + 2 * b) * a) ≡ (sum + 2 * p * (b * a)) + (k + c * d) * m
rows_step p q m r row sum k c t d a b ea em er es =
    omega (arith, ap (λ z. p * (c * z)) ea, ap (λ z. c * d * z) em, ap (λ z. p * z) er, es)

-- the sum of the rows so far, of which the next stands r.0 places up, where the bits bs of the other factor are left
pub record ProductShape (n limit : ℕ) (a bs : List Literal) (t : Circuit) (r : ℕ × List Literal) : Type 0 where
  pub factor : AllBelow t.free a
  pub width : length a ≡ n
  pub bits : AllBelow t.free bs
  pub word : AllBelow t.free r.1
  pub long : length r.1 ≡ n
  pub place : r.0 + length bs ≡ n
  pub room : t.free + (6 * n) * length bs ≤ limit
  pub least : 1 < t.free

-- with what is left times a, it is the target up to a multiple of 2 ^ n
abbrev ProductTo : ℕ → List Literal → (TotalAssignment → ℕ) → List Literal → TotalAssignment → ℕ × List Literal → Type 0
ProductTo n a target bs v r = v 1 ≡ true → SameModulo (2 ^ n) (pos (target v)) (pos (value_of v r.1 + 2 ^ r.0 * (value_of v bs * value_of v a)))

pub product_step-turn : (n limit : ℕ) (a : List Literal) (target : TotalAssignment → ℕ) (b : Literal) (bs : List Literal) (r : ℕ × List Literal) (s : Circuit)
    → ProductShape n limit a (b ∷ bs) s r → Means s (product_step a b r s) (ProductShape n limit a bs) (λ v q. ProductTo n a target (b ∷ bs) v r → ProductTo n a target bs v q)
unfolding product_step
product_step-turn n limit a target b bs r s h =
    let i : ℕ = r.0 in
    let short : List Literal = take (length a - i) a in
    Means-after s _ _ _ _ _ _ (row_gates-means b i a s h.least (omega (arith, h.place, h.width)) h.bits.0 h.factor) (λ row s1 hw e1.
    let whole : length r.1 ≡ length row = omega (arith, h.long, h.width, hw.long) in
    Means-after s1 _ _ _ _ _ _
    (sum_gates-means r.1 row (constant_lit false) s1 whole (AllBelow-more s.free s1.free e1.counted r.1 h.word) hw.below (omega (arith, h.least, e1.counted))) (λ sum s2 hs e2.
    Means-done s2 (i + 1, sum) _ _
    (record {
      factor = AllBelow-more s.free s2.free (omega (arith, e1.counted, e2.counted)) a h.factor;
      width = h.width;
      bits = AllBelow-more s.free s2.free (omega (arith, e1.counted, e2.counted)) bs h.bits.1;
      word = hs.below;
      long = hs.long ∙ h.long;
      place = omega (arith, h.place);
      room = omega (arith, hs.free, hw.free, h.room, h.long, h.width);
      least = omega (arith, h.least, e1.counted, e2.counted);
    })
    (λ v k es ew before t.
    let bits : length (map (literal_value v) r.1) ≡ length (map (literal_value v) row) = length-map r.1 (literal_value v) ∙ whole ∙ sym (length-map row (literal_value v)) in
    let added : (k : ℕ) × (natural_value (add_bits (map (literal_value v) r.1) (map (literal_value v) row) (not (v 1))) + k * 2 ^ length (map (literal_value v) r.1)
    ≡ value_of v r.1 + value_of v row + bit_value (not (v 1))) = natural_value-add_bits _ _ (not (v 1)) bits in
    let width : 2 ^ length (map (literal_value v) r.1) ≡ 2 ^ n = ap (λ j. 2 ^ j) (length-map r.1 (literal_value v) ∙ h.long) in
    let row_is : value_of v row ≡ 2 ^ i * (bit_value (literal_value v b) * value_of v short) = ew t in
    let total : value_of v sum + added.0 * 2 ^ n ≡ value_of v r.1 + 2 ^ i * (bit_value (literal_value v b) * value_of v short) =
    omega (arith, added.1, ap natural_value es, row_is, ap (λ c. bit_value (not c)) t, ap (λ p. added.0 * p) width) in
    let cut : value_of v a ≡ value_of v short + 2 ^ (length a - i) * natural_value (drop (length a - i) (map (literal_value v) a)) =
    natural_value-take (length a - i) (map (literal_value v) a) ∙ ap (λ z. natural_value z + 2 ^ (length a - i) * natural_value (drop (length a - i) (map (literal_value v) a))) (take-map (literal_value v) (length a - i) a) in
    let power : 2 ^ i * 2 ^ (length a - i) ≡ 2 ^ n = sym (pow-add 2 i (length a - i)) ∙ ap (λ j. 2 ^ j) (omega (arith, h.place, h.width)) in
    let is : value_of v r.1 + 2 ^ i * ((bit_value (literal_value v b) + 2 * value_of v bs) * value_of v a)
    ≡ (value_of v sum + 2 * 2 ^ i * (value_of v bs * value_of v a)) + (added.0 + bit_value (literal_value v b) * natural_value (drop (length a - i) (map (literal_value v) a))) * 2 ^ n =
    rows_step (2 ^ i) (2 ^ (length a - i)) (2 ^ n) (value_of v r.1) (bit_value (literal_value v b) * value_of v short) (value_of v sum) added.0 (bit_value (literal_value v b)) (value_of v short)
    (natural_value (drop (length a - i) (map (literal_value v) a))) (value_of v a) (value_of v bs) cut power refl total in
    let two : 2 * 2 ^ i ≡ 2 ^ (i + 1) = sym (pow-succ' 2 i) ∙ ap (λ j. 2 ^ j) (omega arith) in
    SameModulo-trans (before t)
    (SameModulo-natural (2 ^ n) _ _ _ (is ∙ ap (λ p. (value_of v sum + p * (value_of v bs * value_of v a)) + (added.0 + bit_value (literal_value v b) * natural_value (drop (length a - i) (map (literal_value v) a))) * 2 ^ n) two)))))

pub product_step-adds : (a : List Literal) (b : Literal) (r : ℕ × List Literal) (s : Circuit) → BeginsWith (product_step a b r s).0.clauses s.clauses
unfolding product_step
product_step-adds a b r s = begins-after s _ _ (row_gates-adds b r.0 a s) (λ row t. begins-after t _ _ (sum_gates-adds r.1 row (constant_lit false) t) (λ sum u. BeginsWith-refl u.clauses))

-- ---- the product

pub product-first : (a bs : List Literal) (n : ℕ) (s : Circuit) → length a ≡ n → length bs ≡ n → 1 < s.free → AllBelow s.free a → AllBelow s.free bs
    → ProductShape n (s.free + 6 * n * n) a bs s (0, zeros n)
product-first a bs n s ea eb f ha hb = record {
  factor = ha;
  width = ea;
  bits = hb;
  word = AllBelow-zeros s.free n f;
  long = length-replicate {A = Literal} n (constant_lit false);
  place = omega (arith, eb);
  room = omega (arith, ap (λ k. (6 * n) * k) eb);
  least = f;
}

pub product_gates-means : (a b : List Literal) (n : ℕ) (s : Circuit) → length a ≡ n → length b ≡ n → HasTruth s → 1 < s.free → AllBelow s.free a → AllBelow s.free b
    → Means s (product_gates a b s) (λ t x. (length x ≡ n) × AllBelow t.free x × (t.free ≤ s.free + 6 * n * n))
    (λ v x. SameModulo (2 ^ n) (pos (value_of v a * value_of v b)) (pos (value_of v x)))
unfolding product_gates
product_gates-means a b n s ea eb t f ha hb =
    let target : TotalAssignment → ℕ = λ v. value_of v a * value_of v b in
    let limit : ℕ = s.free + 6 * n * n in
    subst (λ k. Means s (after (fold_gates (product_step a) b (0, zeros k) s) (λ r t. (t, r.1))) (λ t x. (length x ≡ n) × AllBelow t.free x × (t.free ≤ s.free + 6 * n * n))
    (λ v x. SameModulo (2 ^ n) (pos (value_of v a * value_of v b)) (pos (value_of v x)))) (sym ea)
    (Means-after s _ _ _ _ _ _
    (Means-weaker s _ _ (ProductShape n limit a []) _ (λ v r. SameModulo (2 ^ n) (pos (target v)) (pos (value_of v r.1)))
    (Means-fold (product_step a) (ProductShape n limit a) (ProductTo n a target) (product_step-turn n limit a target) b (0, zeros n) s (product-first a b n s ea eb f ha hb))
    (λ k. k)
    (λ v old k.
    let one : v 1 ≡ true = t v old in
    let start : value_of v a * value_of v b ≡ value_of v (zeros n) + 2 ^ 0 * (value_of v b * value_of v a) = omega (arith, zeros_value v n one) in
    SameModulo-trans (k (λ u. SameModulo-natural (2 ^ n) _ _ 0 (omega (arith, start))) one) (SameModulo-natural (2 ^ n) _ _ 0 (omega arith))))
    (λ r u hr e. Means-done u r.1 _ _ (hr.long, hr.word, omega (arith, hr.room)) (λ v i k. k)))
  where
    zeros_value : (v : TotalAssignment) (n : ℕ) → v 1 ≡ true → value_of v (zeros n) ≡ 0
    zeros_value v zero t = refl
    zeros_value v (suc n) t = omega (arith, zeros_value v n t, ap (λ b. bit_value (not b)) t)

pub product_gates-adds : (a b : List Literal) (s : Circuit) → BeginsWith (product_gates a b s).0.clauses s.clauses
unfolding product_gates
product_gates-adds a b s = begins-after s _ _ (fold_gates-begins (product_step a) (product_step-adds a) b (0, zeros (length a)) s) (λ r t. BeginsWith-refl t.clauses)

pub multiply_gates-means : (a b : List Literal) (n : ℕ) (s : Circuit) → HasTruth s → 1 < s.free → 0 < n → IsWordOf s a → IsWordOf s b
    → Means s (multiply_gates a b n s) (λ t x. (length x ≡ n) × AllBelow t.free x × (t.free ≤ s.free + 6 * n * n))
    (λ v x. IsCutTo n (word_value v a *ℤ word_value v b) (word_value v x))
unfolding multiply_gates
multiply_gates-means a b n s t f h wa wb =
    let x : List Literal = fit n a in
    let y : List Literal = fit n b in
    let product : Means s (product_gates x y s) (λ t x. (length x ≡ n) × AllBelow t.free x × (t.free ≤ s.free + 6 * n * n)) (λ v z. SameModulo (2 ^ n) (pos (value_of v x * value_of v y)) (pos (value_of v z))) =
    product_gates-means x y n s (length-fit n a) (length-fit n b) t f (AllBelow-fit n s.free a f wa.below) (AllBelow-fit n s.free b f wb.below)
    in
    Means-weaker s _ _ (λ t x. (length x ≡ n) × AllBelow t.free x × (t.free ≤ s.free + 6 * n * n)) _ _ product
    (λ k. k)
    (λ v old k.
    let na : SameModulo (2 ^ n) (word_value v a) (pos (value_of v x)) = SameModulo-trans (word_value-fit v n a wa.signed) (SameModulo-signed (map (literal_value v) x) n (length-values v n a)) in
    let nb : SameModulo (2 ^ n) (word_value v b) (pos (value_of v y)) = SameModulo-trans (word_value-fit v n b wb.signed) (SameModulo-signed (map (literal_value v) y) n (length-values v n b)) in
    signed_value-cut (map (literal_value v) (product_gates x y s).1) n (word_value v a *ℤ word_value v b) (length-map (product_gates x y s).1 (literal_value v) ∙ product.shape.0) h
    (SameModulo-trans (SameModulo-mul na nb) k))

pub multiply_gates-gives : (a b : List Literal) (n : ℕ) (s : Circuit) → HasTruth s → 1 < s.free → 0 < n → IsWordOf s a → IsWordOf s b
    → GivesCut s (multiply_gates a b n s).0 (multiply_gates a b n s).1 n (λ v. word_value v a *ℤ word_value v b)
multiply_gates-gives a b n s t f h wa wb = Means-keep s _ _ (IsOfWidth n) _ (multiply_gates-means a b n s t f h wa wb) (λ k. record { long = k.0; below = k.1 })

pub multiply_gates-adds : (a b : List Literal) (n : ℕ) (s : Circuit) → BeginsWith (multiply_gates a b n s).0.clauses s.clauses
unfolding multiply_gates
multiply_gates-adds a b n s = product_gates-adds (fit n a) (fit n b) s

-- ---- the loops

pub slice_get-take : {A : Type 0} (xs : List A) (n i : ℕ) (x : A) → i < n → slice_get xs i ≡ Some x → slice_get (take n xs) i ≡ Some x
slice_get-take xs zero i x h e = absurd (omega arith)
slice_get-take [] (suc n) i x h e = cc
slice_get-take (y ∷ xs) (suc n) zero x h e = e
slice_get-take (y ∷ xs) (suc n) (suc i) x h e = slice_get-take xs n i x (omega arith) e

pub row-sized : (b : Literal) (i : ℕ) (a : List Literal) (s t : Circuit) (w : List Literal) → 1 < s.free → i ≤ length a → IsBelow s.free b → AllBelow s.free a
    → row_gates b i a s ≡ (t, w) → IsSized (length a) (s.free + (length a - i)) t w
row-sized b i a s t w f h hb ha e = subst (λ (z : Circuit × List Literal). IsSized (length a) (s.free + (length a - i)) z.0 z.1) e (row_gates-means b i a s f h hb ha).shape

module _ (a b : List Literal) (s : Circuit) (n limit : ℕ) (r : List Literal) (i : ℕ) (g : Circuit)
    (turns : Turns (product_step a) (ProductShape n limit a) b s (fold_gates (product_step a) b (0, zeros (length a)) s) i (i, r) g) where
  pub product_loop-end : length b ≤ i → product_gates a b s ≡ (g, r)
  unfolding product_gates after
  product_loop-end h =
      ap (λ (z : Circuit × (ℕ × List Literal)). (z.0, z.1.1)) (Turns-end (product_step a) (ProductShape n limit a) (product_step-adds a) b s _ i (i, r) g turns h)

  module _ (x : Literal) (ex : slice_get b i ≡ Some x) where
    pub product_loop-here : ProductShape n limit a (x ∷ drop (i + 1) b) g (i, r)
    product_loop-here = Turns-here (product_step a) (ProductShape n limit a) (product_step-adds a) b s _ i (i, r) g turns x ex

    pub product_loop-first : (new : Circuit) → StopsWithin g new (row_gates x i a g).0 → StopsWithin s new (product_gates a b s).0
    unfolding product_gates product_step
    product_loop-first new h =
        StopsWithin-here _ _ _ _
        (Turns-stops (product_step a) (ProductShape n limit a) (product_step-adds a) b s _ i (i, r) g turns x ex new
        (StopsWithin-here _ _ _ _ h (λ row t. begins-after t _ _ (sum_gates-adds r row (constant_lit false) t) (λ sum u. BeginsWith-refl u.clauses))))
        (λ r t. BeginsWith-refl t.clauses)

    module _ (t : Circuit) (row : List Literal) (e : row_gates x i a g ≡ (t, row)) where
      pub product_loop-second : (new : Circuit) → StopsWithin t new (sum_gates r row (constant_lit false) t).0 → StopsWithin s new (product_gates a b s).0
      unfolding product_gates product_step
      product_loop-second new h =
          StopsWithin-here _ _ _ _
          (Turns-stops (product_step a) (ProductShape n limit a) (product_step-adds a) b s _ i (i, r) g turns x ex new
          (StopsWithin-later _ _ _ _ _ _ e (subst (λ (z : Circuit × List Literal). BeginsWith z.0.clauses g.clauses) e (row_gates-adds x i a g))
          (StopsWithin-here _ _ _ _ h (λ sum u. BeginsWith-refl u.clauses))))
          (λ r t. BeginsWith-refl t.clauses)

      pub product_loop-next : (u : Circuit) (sum : List Literal) → sum_gates r row (constant_lit false) t ≡ (u, sum)
          → Turns (product_step a) (ProductShape n limit a) b s (fold_gates (product_step a) b (0, zeros (length a)) s) (i + 1) (i + 1, sum) u
      unfolding product_step after
      product_loop-next u sum f =
          Turns-next (product_step a) (ProductShape n limit a) (product_step-adds a) b s _ i (i, r) g turns x ex u (i + 1, sum)
          (ap (λ (z : Circuit × List Literal). ((sum_gates r z.1 (constant_lit false) z.0).0, (i + 1, (sum_gates r z.1 (constant_lit false) z.0).1))) e
          ∙ ap (λ (z : Circuit × List Literal). (z.0, (i + 1, z.1))) f)
          (product_step-turn n limit a (λ v. 0) x (drop (i + 1) b) (i, r) g product_loop-here).shape
