-- What the gates of a quotient mean.
use Rattle.std.proofs.Common.{◌≡◌, ℕ, zero, suc, ◌+◌, ◌-◌, ◌*◌, ◌/◌, ◌%◌, ◌^◌, ◌<◌, ◌≤◌, Bool, true, false, not, cond, List, [], ◌∷◌, ◌++◌, length, map, take, drop, reverse, refl, sym, ◌∙◌, ap, subst, arith, ℤ, pos, negsuc, neg_ℤ, nat_abs, ◌+ℤ◌, ◌-ℤ◌, ◌≤ℤ◌, ◌<ℤ◌}
use Rattle.std.specs.Prelude.{int_lt, zip}
use Rattle.std.specs.List.{AllByRecursion}
use Rattle.std.proofs.lemmas.Int.{ints}
use Rattle.std.proofs.lemmas.Nat.{div-mul-add, div-add-mod'}
use Rattle.std.proofs.lemmas.List.{length-map, length-append, length-replicate, length-reverse, reverse-append, reverse-reverse, take-map, length-take-le}
use Rattle.std.proofs.Math.Nat.{pow-succ', div-le_self}
use Rattle.std.proofs.Math.Pow.{pow_mono}
use Rattle.sat_clauses.specs.Literal.{Literal, opposite}
use Rattle.sat_clauses.specs.Models.{TotalAssignment, literal_value, IsBelow}
use Rattle.sat_clauses.proofs.ModelLemmas.{literal_value-opposite}
use Rattle.sat_circuits.specs.Circuit.{Circuit}
use Rattle.sat_circuits.specs.Gates.{mux_gate, constant_lit}
use Rattle.sat_circuits.specs.Meaning.{AllBelow, Means, HasTruth, BeginsWith}
use Rattle.sat_circuits.proofs.Extension.{AllBelow-more, AllBelow-append, Means-after, Means-done, Means-weaker, Means-fold, HasTruth-later, begins-after, BeginsWith-refl}
use Rattle.sat_circuits.proofs.Rows.{mux_gate-means, mux_gate-begins}
use Rattle.sat_circuits.proofs.Turns.{fold_gates-begins}
use Rattle.sat_circuits.specs.Bits.{bit_value, natural_value, last_from, last_bit, signed_value}
use Rattle.sat_circuits.specs.Words.{word_value, fit, sign_of, zeros, IsWordOf, IsOfWidth, push_gate, IsSized}
use Rattle.sat_circuits.specs.Quotients.{choose_gates, negate_where_gates, magnitude_gates, divide_bit, quotient_step, long_division_gates}
use Rattle.sat_circuits.proofs.Numbers.{natural_value-below, last_from-half}
use Rattle.sat_circuits.proofs.Orders.{Fits, Fits-more, exact}
use Rattle.sat_circuits.proofs.WordMeans.{PairBelow, PairBelow-later, zip-below, length-pairs, map-first, map-second, MapsTo, map_gates-means, push_gate-adds, AllBelow-zeros, AllBelow-fit, length-fit, sign-below, sign-value, word_value-fit_exact, Fits-word}
use Rattle.sat_circuits.proofs.SumMeans.{subtract_gates-means, subtract_gates-adds, negate_gates-means, negate_gates-adds}
use Rattle.sat_circuits.proofs.TestMeans.{less_gates-means, less_gates-adds}
use Rattle.sat_circuits.proofs.ProductMeans.{natural_value-take, AllBelow-take}

-- ---- the word chosen

abbrev pub Choosable : Literal → ℕ → Literal × Literal → Type 0
Choosable c n p = PairBelow n p × IsBelow n c

abbrev pub chosen : Literal → TotalAssignment → Literal × Literal → Bool
chosen c v p = cond (literal_value v c) (literal_value v p.0) (literal_value v p.1)

-- the gate that chooses
abbrev pub choice : Literal → Literal × Literal → Circuit → Circuit × Literal
choice c p = mux_gate c p.0 p.1

pub choice-maps : (c : Literal) → MapsTo (choice c) 1 (Choosable c) (chosen c)
choice-maps c = record {
  means = λ p t h. Means-weaker t _ _ (λ u l. IsBelow u.free l × (u.free ≡ t.free + 1)) _ _ (mux_gate-means t c p.0 p.1 h.1 h.0.0 h.0.1) (λ k. (k.below, k.next)) (λ v i e. e);
  later = λ m n h p k. (PairBelow-later m n h p k.0, omega (arith, k.1));
  adds = λ p t. mux_gate-begins c p.0 p.1 t;
}

pub Choosable-zip : (c : Literal) (n : ℕ) (ps : List (Literal × Literal)) → IsBelow n c → AllByRecursion (PairBelow n) ps → AllByRecursion (Choosable c n) ps
Choosable-zip c n [] h b = tt
Choosable-zip c n (p ∷ ps) h b = ((b.0, h), Choosable-zip c n ps h b.1)

chosen-bits : (v : TotalAssignment) (c : Literal) (xs ys : List Literal) → length xs ≡ length ys
    → map (chosen c v) (zip xs ys) ≡ cond (literal_value v c) (map (literal_value v) xs) (map (literal_value v) ys)
chosen-bits v c xs ys e = by_choice (literal_value v c)
  where
    by_choice : (b : Bool) → map (λ p. cond b (literal_value v p.0) (literal_value v p.1)) (zip xs ys) ≡ cond b (map (literal_value v) xs) (map (literal_value v) ys)
    by_choice true = map-first (literal_value v) xs ys e
    by_choice false = map-second (literal_value v) xs ys e

pub choose_gates-means : (c : Literal) (xs ys : List Literal) (s : Circuit) → length xs ≡ length ys → IsBelow s.free c → AllBelow s.free xs → AllBelow s.free ys
    → Means s (choose_gates c xs ys s) (IsSized (length xs) (s.free + length xs))
    (λ v w. map (literal_value v) w ≡ cond (literal_value v c) (map (literal_value v) xs) (map (literal_value v) ys))
unfolding choose_gates
choose_gates-means c xs ys s e hc hx hy =
    Means-weaker s _ _ (IsSized (length xs) (s.free + length xs)) _ _
    (map_gates-means (choice c) 1 (Choosable c) (chosen c) (choice-maps c) (zip xs ys) [] s (Choosable-zip c s.free (zip xs ys) hc (zip-below s.free xs ys hx hy)) tt)
    (λ h. record { long = omega (arith, h.long, length-pairs xs ys e); below = h.below; free = omega (arith, h.free, length-pairs xs ys e) })
    (λ v i k. k ∙ chosen-bits v c xs ys e)

pub choose_gates-adds : (c : Literal) (xs ys : List Literal) (s : Circuit) → BeginsWith (choose_gates c xs ys s).0.clauses s.clauses
unfolding choose_gates
choose_gates-adds c xs ys s = fold_gates-begins (push_gate (choice c)) (push_gate-adds (choice c) 1 (Choosable c) (chosen c) (choice-maps c)) (zip xs ys) [] s

pub value_chosen : (q : Bool) (xs ys : List Bool) → signed_value (cond q xs ys) ≡ cond q (signed_value xs) (signed_value ys)
value_chosen true xs ys = refl
value_chosen false xs ys = refl

-- ---- a word, negated where c is true

pub negate_where_gates-means : (c : Literal) (w : List Literal) (s : Circuit) → HasTruth s → 1 < s.free → IsBelow s.free c → IsWordOf s w
    → Means s (negate_where_gates c w s) (IsSized (length w) (s.free + 6 * length w))
    (λ v x. Fits (length w) (neg_ℤ (word_value v w)) → word_value v x ≡ cond (literal_value v c) (neg_ℤ (word_value v w)) (word_value v w))
unfolding negate_where_gates
negate_where_gates-means c w s t f hc hw =
    Means-after s _ _ _ _ _ _ (negate_gates-means w (length w) s t f hw.signed hw) (λ n u hn e.
    Means-weaker u _ _ (IsSized (length w) (s.free + 6 * length w)) _ _
    (choose_gates-means c n w u hn.long (omega (arith, hc, e.counted)) hn.below (AllBelow-more s.free u.free e.counted w hw.below))
    (λ h. record { long = h.long ∙ hn.long; below = h.below; free = omega (arith, h.free, hn.long, hn.free) })
    (λ v i k cut fits.
    ap signed_value k ∙ value_chosen (literal_value v c) (map (literal_value v) n) (map (literal_value v) w)
    ∙ ap (λ z. cond (literal_value v c) z (word_value v w)) (exact (length w) _ _ hw.signed fits cut)))

pub negate_where_gates-adds : (c : Literal) (w : List Literal) (s : Circuit) → BeginsWith (negate_where_gates c w s).0.clauses s.clauses
unfolding negate_where_gates
negate_where_gates-adds c w s = begins-after s _ _ (negate_gates-adds w (length w) s) (λ n t. choose_gates-adds c n w t)

-- ---- the number without its sign

absolute : (z : ℤ) → cond (int_lt z (pos 0)) (neg_ℤ z) z ≡ pos (nat_abs z)
absolute (pos n) = none n
  where
    none : (n : ℕ) → cond (int_lt (pos n) (pos 0)) (neg_ℤ (pos n)) (pos n) ≡ pos n
    none n = grind (arith, ints)
absolute (negsuc n) = refl

absolute-most : (n m : ℕ) (z : ℤ) → n - 1 ≤ m → Fits n z → nat_abs z ≤ 2 ^ m
absolute-most n m (pos x) h f =
    let wider : 2 ^ (n - 1) ≤ 2 ^ m = pow_mono h in
    omega (arith, ints, f.high, wider)
absolute-most n m (negsuc x) h f =
    let wider : 2 ^ (n - 1) ≤ 2 ^ m = pow_mono h in
    omega (arith, ints, f.low, wider)

-- one bit more than the number has is enough for its negation
Fits-negation : (n : ℕ) (z : ℤ) → 0 < n → Fits n z → Fits (suc n) (neg_ℤ z)
Fits-negation zero z h f = absurd (omega arith)
Fits-negation (suc n) z h f =
    let half : 2 ^ (suc n - 1) ≡ 2 ^ n = ap (λ i. 2 ^ i) (omega arith) in
    let whole : 2 ^ (suc (suc n) - 1) ≡ 2 * 2 ^ n = ap (λ i. 2 ^ i) (omega arith) ∙ pow-succ' 2 n in
    record { low = omega (arith, ints, f.low, f.high, half, whole); high = omega (arith, ints, f.low, f.high, half, whole) }

pub magnitude_gates-means : (a : List Literal) (m : ℕ) (s : Circuit) → HasTruth s → 1 < s.free → length a ≤ suc m → IsWordOf s a
    → Means s (magnitude_gates a (suc (suc m)) s) (IsSized (suc (suc m)) (s.free + 6 * suc (suc m)))
    (λ v x. (word_value v x ≡ pos (nat_abs (word_value v a))) × (nat_abs (word_value v a) ≤ 2 ^ m))
unfolding magnitude_gates
magnitude_gates-means a m s t f h wa =
    let n : ℕ = suc (suc m) in
    let w : List Literal = fit n a in
    let long : length w ≡ n = length-fit n a in
    Means-weaker s _ _ (IsSized n (s.free + 6 * n)) _ _
    (negate_where_gates-means (sign_of a) w s t f (sign-below s.free a f wa.below) (record { signed = omega (arith, long); below = AllBelow-fit n s.free a f wa.below }))
    (λ k. record { long = k.long ∙ long; below = k.below; free = k.free ∙ ap (λ i. s.free + 6 * i) long })
    (λ v i k.
    let whole : word_value v w ≡ word_value v a = word_value-fit_exact v n a wa.signed (omega (arith, h)) in
    let small : Fits (length a) (word_value v a) = Fits-word v a wa.signed in
    let fits : Fits (length w) (neg_ℤ (word_value v w)) =
    subst (λ (z : ℤ). Fits (length w) (neg_ℤ z)) (sym whole)
    (subst (λ (i : ℕ). Fits i (neg_ℤ (word_value v a))) (sym long)
    (Fits-more (suc (length a)) n _ (omega (arith, h)) (Fits-negation (length a) (word_value v a) wa.signed small)))
    in (
      k fits
          ∙ ap (λ z. cond (literal_value v (sign_of a)) (neg_ℤ z) z) whole
          ∙ ap (λ b. cond b (neg_ℤ (word_value v a)) (word_value v a)) (sign-value v a wa.signed)
          ∙ absolute (word_value v a),
      absolute-most (length a) m (word_value v a) (omega (arith, h)) small,
    ))

pub magnitude_gates-adds : (a : List Literal) (n : ℕ) (s : Circuit) → BeginsWith (magnitude_gates a n s).0.clauses s.clauses
unfolding magnitude_gates
magnitude_gates-adds a n s = negate_where_gates-adds (sign_of a) (fit n a) s

-- ---- one bit of a long division

-- a number of 0 or more is its natural value, and its sign is clear
plain : (bs : List Bool) (n x : ℕ) → length bs ≡ suc n → natural_value bs ≡ x → x < 2 ^ n → signed_value bs ≡ pos x
plain bs n x e k h = by_sign (last_bit bs) (natural_value bs) (2 ^ n) (2 ^ length bs) x (last_from-half false bs n e) k h
  where
    by_sign : (b : Bool) (y p q x : ℕ) → (bit_value b * p ≤ y) × (y < p + bit_value b * p) → y ≡ x → x < p → pos y -ℤ pos (bit_value b * q) ≡ pos x
    by_sign true y p q x h e k = absurd (omega arith)
    by_sign false y p q x h e k = omega (arith, ints)

natural_of : (bs : List Bool) (n : ℕ) → length bs ≡ suc n → pos 0 ≤ℤ signed_value bs → signed_value bs ≡ pos (natural_value bs)
natural_of bs n e h = by_sign (last_bit bs) (natural_value bs) (2 ^ length bs) (natural_value-below bs) h
  where
    by_sign : (b : Bool) (y q : ℕ) → y < q → pos 0 ≤ℤ (pos y -ℤ pos (bit_value b * q)) → pos y -ℤ pos (bit_value b * q) ≡ pos y
    by_sign true y q k h = absurd (omega (arith, ints, h))
    by_sign false y q k h = omega (arith, ints)

-- one bit taken in from below, where the highest bit was clear
natural_value-take_all : (n : ℕ) (bs : List Bool) → length bs ≡ suc n → natural_value bs < 2 ^ n → natural_value (take n bs) ≡ natural_value bs
natural_value-take_all n bs e h = whole (natural_value bs) (natural_value (take n bs)) (2 ^ n) (natural_value (drop n bs)) (natural_value-take n bs) h
  where
    whole : (x y p d : ℕ) → x ≡ y + p * d → x < p → y ≡ x
    whole x y p zero e h = omega (arith, e)
    whole x y p (suc d) e h = absurd (omega (arith, e))

-- the remainder with one bit more
shifted : (v : TotalAssignment) (m : ℕ) (bit : Literal) (r : List Literal) → length r ≡ suc (suc m) → pos 0 ≤ℤ word_value v r → word_value v r <ℤ pos (2 ^ m)
    → word_value v (take (suc (suc m)) (bit ∷ r)) ≡ pos (bit_value (literal_value v bit)) +ℤ (word_value v r +ℤ word_value v r)
shifted v m bit r e low high =
    let bs : List Bool = map (literal_value v) r in
    let long : length bs ≡ suc (suc m) = length-map r (literal_value v) ∙ e in
    let is : signed_value bs ≡ pos (natural_value bs) = natural_of bs (suc m) long low in
    let small : natural_value bs < 2 ^ m = omega (arith, ints, is, high) in
    let two : 2 ^ suc m ≡ 2 * 2 ^ m = pow-succ' 2 m in
    let kept : natural_value (take (suc m) bs) ≡ natural_value bs = natural_value-take_all (suc m) bs long (omega (arith, small, two)) in
    let width : length (take (suc (suc m)) (map (literal_value v) (bit ∷ r))) ≡ suc (suc m) = length-take-le (suc (suc m)) (map (literal_value v) (bit ∷ r)) (omega (arith, long)) in
    ap signed_value (sym (take-map (literal_value v) (suc (suc m)) (bit ∷ r)))
    ∙ plain (take (suc (suc m)) (map (literal_value v) (bit ∷ r))) (suc m) (bit_value (literal_value v bit) + 2 * natural_value bs) width (omega (arith, kept)) (below (literal_value v bit) (natural_value bs) (2 ^ m) (2 ^ suc m) two small)
    ∙ omega (arith, ints, is)
  where
    below : (b : Bool) (x p q : ℕ) → q ≡ 2 * p → x < p → bit_value b + 2 * x < q
    below true x p q e h = omega arith
    below false x p q e h = omega arith

-- what one step of a division does to numbers: d is the remainder with its bit, and is below twice the divisor
pub record Divides (q : Bool) (d b r : ℤ) : Type 0 where
  pub same : d ≡ cond q b (pos 0) +ℤ r
  pub low : pos 0 ≤ℤ r
  pub high : r <ℤ b

step_numbers : (l : Bool) (d b t : ℤ) → l ≡ int_lt d b → t ≡ d -ℤ b → pos 0 ≤ℤ d → d <ℤ (b +ℤ b) → Divides (not l) d b (cond (not l) t d)
step_numbers true d b t e k low high = record { same = omega (arith, ints); low = low; high = grind (arith, ints) }
step_numbers false d b t e k low high = record { same = omega (arith, ints, k); low = grind (arith, ints); high = omega (arith, ints, k) }

-- d is below twice b, and b is at most 2 ^ m: then the difference has suc (suc m) bits
Fits-rest : (m : ℕ) (d b : ℤ) → pos 0 ≤ℤ d → d <ℤ (b +ℤ b) → b ≤ℤ pos (2 ^ m) → Fits (suc (suc m)) (d -ℤ b)
Fits-rest m d b low high most =
    let half : 2 ^ (suc (suc m) - 1) ≡ 2 * 2 ^ m = ap (λ i. 2 ^ i) (omega arith) ∙ pow-succ' 2 m in
    record { low = omega (arith, ints, low, high, most, half); high = omega (arith, ints, low, high, most, half) }

abbrev pub divide_cost : ℕ → ℕ
divide_cost n = 11 * n + 5

pub divide_bit-means : (m : ℕ) (bit : Literal) (r b : List Literal) (s : Circuit) → HasTruth s → 1 < s.free → IsBelow s.free bit → IsOfWidth (suc (suc m)) s r → IsOfWidth (suc (suc m)) s b
    → Means s (divide_bit b bit r s) (λ t a. IsBelow t.free a.0 × IsOfWidth (suc (suc m)) t a.1 × (t.free ≡ s.free + divide_cost (suc (suc m))))
    (λ v a. pos 0 ≤ℤ word_value v r → word_value v r <ℤ word_value v b → word_value v b ≤ℤ pos (2 ^ m)
    → Divides (literal_value v a.0) (pos (bit_value (literal_value v bit)) +ℤ (word_value v r +ℤ word_value v r)) (word_value v b) (word_value v a.1))
unfolding divide_bit
divide_bit-means m bit r b s t f hbit hr hb =
    let n : ℕ = suc (suc m) in
    let d : List Literal = take (length b) (bit ∷ r) in
    let long : length d ≡ n = length-take-le (length b) (bit ∷ r) (omega (arith, hr.long, hb.long)) ∙ hb.long in
    let below : AllBelow s.free d = AllBelow-take s.free (length b) (bit ∷ r) (hbit, hr.below) in
    let wd : IsWordOf s d = record { signed = omega (arith, long); below = below } in
    let wb : IsWordOf s b = record { signed = omega (arith, hb.long); below = hb.below } in
    Means-after s _ _ _ _ _ _ (less_gates-means d b s t f wd wb) (λ l s1 hl x1.
    Means-after s1 _ _ _ _ _ _
    (subtract_gates-means d b (length b) s1 (HasTruth-later s s1 x1 t) (omega (arith, f, x1.counted)) (omega (arith, hb.long))
    (record { signed = omega (arith, long); below = AllBelow-more s.free s1.free x1.counted d below })
    (record { signed = omega (arith, hb.long); below = AllBelow-more s.free s1.free x1.counted b hb.below })) (λ u s2 hu x2.
    Means-after s2 _ _ _ _ _ _
    (choose_gates-means (opposite l) u d s2 (hu.long ∙ hb.long ∙ sym long) (omega (arith, hl.0, x2.counted)) hu.below
    (AllBelow-more s.free s2.free (omega (arith, x1.counted, x2.counted)) d below)) (λ rest s3 hrest x3.
    Means-done s3 (opposite l, rest) _ _
    (omega (arith, hl.0, x2.counted, x3.counted), record { long = hrest.long ∙ hu.long ∙ hb.long; below = hrest.below }, omega (arith, hl.1, hu.free, hu.long, hrest.free, long, hb.long))
    (λ v h er eu el low high most.
    let is : word_value v d ≡ pos (bit_value (literal_value v bit)) +ℤ (word_value v r +ℤ word_value v r) =
    ap (λ k. word_value v (take k (bit ∷ r))) hb.long ∙ shifted v m bit r hr.long low (omega (arith, ints, high, most))
    in
    let twice : word_value v d <ℤ (word_value v b +ℤ word_value v b) = less_twice (literal_value v bit) (word_value v r) (word_value v b) (word_value v d) is high in
    let none : pos 0 ≤ℤ word_value v d = omega (arith, ints, is, low) in
    let ut : word_value v u ≡ word_value v d -ℤ word_value v b =
    exact (length b) _ _ (omega (arith, hb.long)) (subst (λ (i : ℕ). Fits i (word_value v d -ℤ word_value v b)) (sym hb.long) (Fits-rest m (word_value v d) (word_value v b) none twice most)) eu
    in
    let picked : word_value v rest ≡ cond (not (literal_value v l)) (word_value v u) (word_value v d) =
    ap signed_value (er ∙ ap (λ q. cond q (map (literal_value v) u) (map (literal_value v) d)) (literal_value-opposite v l)) ∙ value_chosen (not (literal_value v l)) (map (literal_value v) u) (map (literal_value v) d)
    in
    let step : Divides (not (literal_value v l)) (word_value v d) (word_value v b) (cond (not (literal_value v l)) (word_value v u) (word_value v d)) =
    step_numbers (literal_value v l) (word_value v d) (word_value v b) (word_value v u) el ut none twice
    in
    subst (λ (q : Bool). Divides q (pos (bit_value (literal_value v bit)) +ℤ (word_value v r +ℤ word_value v r)) (word_value v b) (word_value v rest)) (sym (literal_value-opposite v l))
    (subst (λ (z : ℤ). Divides (not (literal_value v l)) z (word_value v b) (word_value v rest)) is
    (subst (λ (z : ℤ). Divides (not (literal_value v l)) (word_value v d) (word_value v b) z) (sym picked) step))))))
  where
    less_twice : (q : Bool) (r b d : ℤ) → d ≡ pos (bit_value q) +ℤ (r +ℤ r) → r <ℤ b → d <ℤ (b +ℤ b)
    less_twice true r b d e h = omega (arith, ints, e, h)
    less_twice false r b d e h = omega (arith, ints, e, h)

pub divide_bit-adds : (b : List Literal) (bit : Literal) (r : List Literal) (s : Circuit) → BeginsWith (divide_bit b bit r s).0.clauses s.clauses
unfolding divide_bit
divide_bit-adds b bit r s =
    begins-after s _ _ (less_gates-adds (take (length b) (bit ∷ r)) b s) (λ l s1.
    begins-after s1 _ _ (subtract_gates-adds (take (length b) (bit ∷ r)) b (length b) s1) (λ t s2.
    begins-after s2 _ _ (choose_gates-adds (opposite l) t (take (length b) (bit ∷ r)) s2) (λ rest s3. BeginsWith-refl s3.clauses)))

-- ---- the loop over the bits of the dividend, the highest first

-- x, and then the bits as further binary digits
abbrev pub digits_onto : TotalAssignment → List Literal → ℕ → ℕ
digits_onto v [] x = x
digits_onto v (bit ∷ bits) x = digits_onto v bits (2 * x + bit_value (literal_value v bit))

digits_onto-push : (v : TotalAssignment) (w : List Literal) (l : Literal) (x : ℕ) → digits_onto v (w ++ l ∷ []) x ≡ 2 * digits_onto v w x + bit_value (literal_value v l)
digits_onto-push v [] l x = refl
digits_onto-push v (k ∷ w) l x = digits_onto-push v w l (2 * x + bit_value (literal_value v k))

reverse-cons : (x : Literal) (w : List Literal) → reverse (x ∷ w) ≡ reverse w ++ x ∷ []
reverse-cons x w = reverse-append (x ∷ []) w

-- the literals from the highest, as digits, are the number
digits-reverse : (v : TotalAssignment) (w : List Literal) → digits_onto v (reverse w) 0 ≡ natural_value (map (literal_value v) w)
digits-reverse v [] = refl
digits-reverse v (x ∷ w) =
    ap (λ u. digits_onto v u 0) (reverse-cons x w) ∙ digits_onto-push v (reverse w) x 0 ∙ omega (arith, digits-reverse v w)

reverse-digits : (v : TotalAssignment) (w : List Literal) → natural_value (map (literal_value v) (reverse w)) ≡ digits_onto v w 0
reverse-digits v w = sym (digits-reverse v (reverse w)) ∙ ap (λ u. digits_onto v u 0) (reverse-reverse w)

pub AllBelow-reverse : (m : ℕ) (w : List Literal) → AllBelow m w → AllBelow m (reverse w)
AllBelow-reverse m [] h = h
AllBelow-reverse m (x ∷ w) h = subst (λ (u : List Literal). AllBelow m u) (sym (reverse-cons x w)) (AllBelow-append m (reverse w) (x ∷ []) (AllBelow-reverse m w h.1) (h.0, tt))

-- the quotient's bits so far and the remainder, where the bits of the dividend are left
pub record DivideShape (m n limit : ℕ) (b xs : List Literal) (t : Circuit) (a : List Literal × List Literal) : Type 0 where
  pub bits : AllBelow t.free xs
  pub divisor : IsOfWidth (suc (suc m)) t b
  pub quotient : AllBelow t.free a.0
  pub rest : IsOfWidth (suc (suc m)) t a.1
  pub long : length a.0 + length xs ≡ n
  pub room : t.free + divide_cost (suc (suc m)) * length xs ≡ limit
  pub truth : HasTruth t
  pub least : 1 < t.free

-- The number made of the dividend's bits that were taken in is that of the quotient's bits times the divisor, and a
-- remainder below it.
pub record DividedSoFar (total : TotalAssignment → ℕ) (bits : List Literal) (v : TotalAssignment) (a : List Literal × List Literal) (d : ℕ) : Type 0 where
  pub taken : ℕ
  pub rest : ℕ
  pub left : digits_onto v bits taken ≡ total v
  pub is : word_value v a.1 ≡ pos rest
  pub small : rest < d
  pub same : digits_onto v a.0 0 * d + rest ≡ taken

-- for a divisor that is not too great
abbrev pub DividesTo : ℕ → List Literal → (TotalAssignment → ℕ) → List Literal → TotalAssignment → List Literal × List Literal → Type 0
DividesTo m b total bits v a = (d : ℕ) → word_value v b ≡ pos d → d ≤ 2 ^ m → 0 < d → DividedSoFar total bits v a d

next_bit : (m : ℕ) (total : TotalAssignment → ℕ) (bit : Literal) (bits : List Literal) (v : TotalAssignment) (a : List Literal × List Literal) (x : Literal × List Literal) (d : ℕ)
    → length x.1 ≡ suc (suc m) → (h : DividedSoFar total (bit ∷ bits) v a d)
    → Divides (literal_value v x.0) (pos (bit_value (literal_value v bit)) +ℤ (word_value v a.1 +ℤ word_value v a.1)) (pos d) (word_value v x.1)
    → DividedSoFar total bits v (a.0 ++ x.0 ∷ [], x.1) d
next_bit m total bit bits v a x d e h k =
    let is : word_value v x.1 ≡ pos (natural_value (map (literal_value v) x.1)) = natural_of (map (literal_value v) x.1) (suc m) (length-map x.1 (literal_value v) ∙ e) k.low in
    record {
      taken = 2 * h.taken + bit_value (literal_value v bit);
      rest = natural_value (map (literal_value v) x.1);
      left = h.left;
      is = is;
      small = omega (arith, ints, is, k.high);
      same =
          ap (λ q. q * d + natural_value (map (literal_value v) x.1)) (digits_onto-push v a.0 x.0 0)
          ∙ digits (literal_value v x.0) (bit_value (literal_value v bit)) (digits_onto v a.0 0) d h.rest h.taken (natural_value (map (literal_value v) x.1)) (word_value v a.1) (word_value v x.1) h.same h.is is k.same;
    }
  where
    digits : (qb : Bool) (a q b r x r' : ℕ) (z z' : ℤ) → q * b + r ≡ x → z ≡ pos r → z' ≡ pos r' → pos a +ℤ (z +ℤ z) ≡ cond qb (pos b) (pos 0) +ℤ z' → (2 * q + bit_value qb) * b + r' ≡ 2 * x + a
    digits true a q b r x r' z z' e f g h = omega (arith, ints, e, f, g, h)
    digits false a q b r x r' z z' e f g h = omega (arith, ints, e, f, g, h)

pub quotient_step-turn : (m n limit : ℕ) (b : List Literal) (total : TotalAssignment → ℕ) (bit : Literal) (bits : List Literal) (a : List Literal × List Literal) (t : Circuit)
    → DivideShape m n limit b (bit ∷ bits) t a
    → Means t (quotient_step b bit a t) (DivideShape m n limit b bits) (λ v q. DividesTo m b total (bit ∷ bits) v a → DividesTo m b total bits v q)
unfolding quotient_step
quotient_step-turn m n limit b total bit bits a t h =
    Means-after t _ _ _ _ _ _ (divide_bit-means m bit a.1 b t h.truth h.least h.bits.0 h.rest h.divisor) (λ x u hx e.
    Means-done u (a.0 ++ x.0 ∷ [], x.1) _ _
    (record {
      bits = AllBelow-more t.free u.free e.counted bits h.bits.1;
      divisor = record { long = h.divisor.long; below = AllBelow-more t.free u.free e.counted b h.divisor.below };
      quotient = AllBelow-append u.free a.0 (x.0 ∷ []) (AllBelow-more t.free u.free e.counted a.0 h.quotient) (hx.0, tt);
      rest = hx.1;
      long = omega (arith, length-append {A = Literal} a.0 (x.0 ∷ []), h.long);
      room = omega (arith, hx.2, h.room);
      truth = HasTruth-later t u e h.truth;
      least = omega (arith, h.least, e.counted);
    })
    (λ v i ex before d eb k some.
    let old : DividedSoFar total (bit ∷ bits) v a d = before d eb k some in
    next_bit m total bit bits v a x d hx.1.long old
    (subst (λ (z : ℤ). Divides (literal_value v x.0) (pos (bit_value (literal_value v bit)) +ℤ (word_value v a.1 +ℤ word_value v a.1)) z (word_value v x.1)) eb
    (ex (omega (arith, ints, old.is)) (omega (arith, ints, old.is, old.small, eb)) (omega (arith, ints, eb, k))))))

pub quotient_step-adds : (b : List Literal) (bit : Literal) (a : List Literal × List Literal) (s : Circuit) → BeginsWith (quotient_step b bit a s).0.clauses s.clauses
unfolding quotient_step
quotient_step-adds b bit a s = begins-after s _ _ (divide_bit-adds b bit a.1 s) (λ x t. BeginsWith-refl t.clauses)

pub divide-first : (m : ℕ) (a b : List Literal) (s : Circuit) → HasTruth s → 1 < s.free → AllBelow s.free a → IsOfWidth (suc (suc m)) s b
    → DivideShape m (length a) (s.free + divide_cost (suc (suc m)) * length a) b (reverse a) s ([], zeros (length b))
divide-first m a b s t f ha hb = record {
  bits = AllBelow-reverse s.free a ha;
  divisor = hb;
  quotient = tt;
  rest = record { long = length-replicate {A = Literal} (length b) (constant_lit false) ∙ hb.long; below = AllBelow-zeros s.free (length b) f };
  long = omega (arith, length-reverse a);
  room = ap (λ k. s.free + divide_cost (suc (suc m)) * k) (length-reverse a);
  truth = t;
  least = f;
}

-- the quotient and the remainder, by what the loop has come to
by_division : (q d r x : ℕ) → r < d → q * d + r ≡ x → (q ≡ x / d) × (r ≡ x % d)
by_division q d r x h e =
    let quotient : q ≡ x / d = sym (div-mul-add q d r h) ∙ ap (λ y. y / d) e in
    (quotient, omega (arith, e, div-add-mod' x d, ap (λ y. y * d) quotient))

zeros_bits : (v : TotalAssignment) (n : ℕ) → v 1 ≡ true → word_value v (zeros n) ≡ pos 0
zeros_bits v n t = plain_zero (map (literal_value v) (zeros n)) (none n) (last n)
  where
    none : (n : ℕ) → natural_value (map (literal_value v) (zeros n)) ≡ 0
    none zero = refl
    none (suc n) = omega (arith, none n, ap (λ b. bit_value (not b)) t)

    last : (n : ℕ) → last_bit (map (literal_value v) (zeros n)) ≡ false
    last n = go n false refl
      where
        go : (n : ℕ) (d : Bool) → d ≡ false → last_from d (map (literal_value v) (zeros n)) ≡ false
        go zero d h = h
        go (suc n) d h = go n (not (v 1)) (ap not t)

    plain_zero : (bs : List Bool) → natural_value bs ≡ 0 → last_bit bs ≡ false → signed_value bs ≡ pos 0
    plain_zero bs e h = omega (arith, ints, e, ap (λ b. bit_value b * 2 ^ length bs) h)

pub long_division_gates-means : (m : ℕ) (a b : List Literal) (s : Circuit) → HasTruth s → 1 < s.free → IsOfWidth (suc (suc m)) s a → IsOfWidth (suc (suc m)) s b
    → Means s (long_division_gates a b s) (λ t r. IsOfWidth (suc (suc m)) t r.0 × IsOfWidth (suc (suc m)) t r.1 × (t.free ≡ s.free + divide_cost (suc (suc m)) * suc (suc m)))
    (λ v r. (x d : ℕ) → word_value v a ≡ pos x → word_value v b ≡ pos d → x ≤ 2 ^ m → d ≤ 2 ^ m → 0 < d
    → (word_value v r.0 ≡ pos (x / d)) × (word_value v r.1 ≡ pos (x % d)))
unfolding long_division_gates
long_division_gates-means m a b s t f ha hb =
    let n : ℕ = suc (suc m) in
    let limit : ℕ = s.free + divide_cost n * length a in
    let total : TotalAssignment → ℕ = λ v. natural_value (map (literal_value v) a) in
    Means-after s _ _ _ _ _ _
    (Means-weaker s _ _ (DivideShape m (length a) limit b []) _ (λ v q. DividesTo m b total [] v q)
    (Means-fold (quotient_step b) (DivideShape m (length a) limit b) (DividesTo m b total) (quotient_step-turn m (length a) limit b total) (reverse a) ([], zeros (length b)) s (divide-first m a b s t f ha.below hb))
    (λ h. h)
    (λ v old k. k (λ d eb most some. record { taken = 0; rest = 0; left = digits-reverse v a; is = zeros_bits v (length b) (t v old); small = some; same = omega arith })))
    (λ q u hq e.
    Means-done u (reverse q.0, q.1) _ _ (
      record { long = length-reverse q.0 ∙ omega (arith, hq.long, ha.long); below = AllBelow-reverse u.free q.0 hq.quotient },
      hq.rest,
      omega (arith, hq.room, ap (λ k. divide_cost n * k) ha.long),
    )
    (λ v i k x d ea eb mx md some.
    let h : DividedSoFar total [] v q d = k d eb md some in
    let number : natural_value (map (literal_value v) a) ≡ x = natural_is (map (literal_value v) a) (suc m) x (length-map a (literal_value v) ∙ ha.long) ea in
    let parts : _ = by_division (digits_onto v q.0 0) d h.rest x h.small (h.same ∙ h.left ∙ number) in
    let two : 2 ^ suc m ≡ 2 * 2 ^ m = pow-succ' 2 m in
    let small : x / d < 2 ^ suc m = omega (arith, div-le_self x d, mx, two, pow-positive m) in (
      plain (map (literal_value v) (reverse q.0)) (suc m) (x / d) (length-map (reverse q.0) (literal_value v) ∙ length-reverse q.0 ∙ omega (arith, hq.long, ha.long)) (reverse-digits v q.0 ∙ parts.0) small,
      h.is ∙ ap pos parts.1,
    )))
  where
    natural_is : (bs : List Bool) (n x : ℕ) → length bs ≡ suc n → signed_value bs ≡ pos x → natural_value bs ≡ x
    natural_is bs n x e k =
        let is : signed_value bs ≡ pos (natural_value bs) = natural_of bs n e (omega (arith, ints, k)) in
        omega (arith, ints, is, k)

    pow-positive : (m : ℕ) → 0 < 2 ^ m
    pow-positive zero = omega arith
    pow-positive (suc m) = omega (arith, pow-positive m, pow-succ' 2 m)

pub long_division_gates-adds : (a b : List Literal) (s : Circuit) → BeginsWith (long_division_gates a b s).0.clauses s.clauses
unfolding long_division_gates
long_division_gates-adds a b s = begins-after s _ _ (fold_gates-begins (quotient_step b) (quotient_step-adds b) (reverse a) ([], zeros (length b)) s) (λ r t. BeginsWith-refl t.clauses)
