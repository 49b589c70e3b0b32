-- What the gates of sums and differences mean.
use Rattle.std.proofs.Common.{◌≡◌, ℕ, ◌+◌, ◌*◌, ◌<◌, ◌≤◌, Bool, true, false, not, ◌&&◌, ◌||◌, List, [], ◌∷◌, length, map, ◌++◌, sym, ◌∙◌, ap, subst, arith, ℤ, pos, ◌+ℤ◌, ◌-ℤ◌, neg_ℤ, drop, Some}
use Rattle.std.specs.Prelude.{zip, slice_get}
use Rattle.std.specs.List.{AllByRecursion}
use Rattle.std.proofs.lemmas.Int.{ints}
use Rattle.std.proofs.lemmas.List.{length-map, length-append, append-nil}
use Rattle.sat_clauses.specs.Literal.{Literal, opposite}
use Rattle.sat_clauses.specs.Models.{TotalAssignment, literal_value, IsBelow}
use Rattle.sat_circuits.specs.Circuit.{Circuit, after, fold_gates}
use Rattle.sat_circuits.specs.Gates.{differ, constant_lit}
use Rattle.sat_circuits.specs.Meaning.{AllBelow, Means, HasTruth, BeginsWith, StopsWithin}
use Rattle.sat_circuits.proofs.Extension.{AllBelow-more, AllBelow-append, Means-after, Means-done, Means-weaker, Means-fold, Means-keep, begins-after, BeginsWith-refl, StopsWithin-here}
use Rattle.sat_circuits.proofs.Rows.{gates_begin, and_gate-means, or_gate-means, xor_gate-means}
use Rattle.sat_circuits.proofs.Turns.{Turns, Turns-end, Turns-between, Turns-here, Turns-next, Turns-stops, fold_gates-begins}
use Rattle.sat_circuits.specs.Bits.{carry_of, signed_value, IsCutTo}
use Rattle.sat_circuits.specs.Words.{word_value, fit, IsWordOf, IsOfWidth, GivesCut, IsSized}
use Rattle.sat_circuits.specs.Sums.{full_adder, sum_step, sum_gates, add_gates, subtract_gates, negate_gates}
use Rattle.sat_circuits.proofs.Numbers.{add_bits, plain_bits-cut, subtract_bits-cut, SameModulo-add, SameModulo-sub, IsCutTo-same}
use Rattle.sat_circuits.proofs.WordMeans.{PairBelow, PairBelow-later, zip-below, length-pairs, map-first, map-second, map-push, slice_get-zip, width_of, length-fit, length-values, AllBelow-fit, AllBelow-opposite, map-opposite, word_value-fit}
use Rattle.base_values.proofs.ListLaws.{all_more}

pub full_adder-means : (s : Circuit) (x y c : Literal) → IsBelow s.free x → IsBelow s.free y → IsBelow s.free c
    → Means s (full_adder x y c s) (λ t r. IsBelow t.free r.0 × IsBelow t.free r.1 × (t.free ≡ s.free + 5))
    (λ v r. (literal_value v r.0 ≡ differ (differ (literal_value v x) (literal_value v y)) (literal_value v c))
    × (literal_value v r.1 ≡ carry_of (literal_value v x) (literal_value v y) (literal_value v c)))
unfolding full_adder
full_adder-means s x y c hx hy hc =
    Means-after s _ _ _ _ _ _ (xor_gate-means s x y hx hy) (λ t s1 ht e1.
    Means-after s1 _ _ _ _ _ _ (xor_gate-means s1 t c ht.below (omega (arith, ht.next))) (λ r s2 hr e2.
    Means-after s2 _ _ _ _ _ _ (and_gate-means s2 x y (omega (arith, ht.next, hr.next)) (omega (arith, ht.next, hr.next))) (λ p s3 hp e3.
    Means-after s3 _ _ _ _ _ _ (and_gate-means s3 t c (omega (arith, ht.below, hr.next, hp.next)) (omega (arith, ht.next, hr.next, hp.next))) (λ q s4 hq e4.
    Means-after s4 _ _ _ _ _ _ (or_gate-means s4 p q (omega (arith, hp.below, hq.next)) hq.below) (λ d s5 hd e5.
    Means-done s5 (r, d) _ _ (omega (arith, hr.below, hp.next, hq.next, hd.next), hd.below, omega (arith, ht.next, hr.next, hp.next, hq.next, hd.next))
    (λ v h ed eq ep er et. (er ∙ ap (λ b. differ b (literal_value v c)) et, ed ∙ carries (literal_value v x) (literal_value v y) (literal_value v c) (literal_value v t) (literal_value v p) (literal_value v q) ep eq et)))))))
  where
    carries : (x y c t p q : Bool) → p ≡ (x && y) → q ≡ (t && c) → t ≡ differ x y → (p || q) ≡ carry_of x y c
    carries x y c t p q ep eq et = ap (λ b. b || q) ep ∙ ap (λ b. (x && y) || b) (eq ∙ ap (λ b. b && c) et)

full_adder-adds : (x y c : Literal) (s : Circuit) → BeginsWith (full_adder x y c s).0.clauses s.clauses
unfolding full_adder
full_adder-adds x y c s = search gates_begin depth 12

pub sum_step-adds : (p : Literal × Literal) (a : List Literal × Literal) (s : Circuit) → BeginsWith (sum_step p a s).0.clauses s.clauses
unfolding sum_step
sum_step-adds p a s = begins-after s _ _ (full_adder-adds p.0 p.1 a.1 s) (λ r t. BeginsWith-refl t.clauses)

-- the sum so far and the carry, where the pairs are left
pub record SumShape (n limit : ℕ) (ps : List (Literal × Literal)) (t : Circuit) (a : List Literal × Literal) : Type 0 where
  pub pairs : AllByRecursion (PairBelow t.free) ps
  pub word : AllBelow t.free a.0
  pub carry : IsBelow t.free a.1
  pub long : length a.0 + length ps ≡ n
  pub room : t.free + 5 * length ps ≡ limit

-- the values of what was given, and the sum of what is left, are the target
abbrev SumsTo : (TotalAssignment → List Bool) → List (Literal × Literal) → TotalAssignment → List Literal × Literal → Type 0
SumsTo target ps v a =
    map (literal_value v) a.0 ++ add_bits (map (λ p. literal_value v p.0) ps) (map (λ p. literal_value v p.1) ps) (literal_value v a.1) ≡ target v

pub sum_step-turn : (n limit : ℕ) (target : TotalAssignment → List Bool) (p : Literal × Literal) (ps : List (Literal × Literal)) (a : List Literal × Literal) (t : Circuit)
    → SumShape n limit (p ∷ ps) t a → Means t (sum_step p a t) (SumShape n limit ps) (λ v b. SumsTo target (p ∷ ps) v a → SumsTo target ps v b)
unfolding sum_step
sum_step-turn n limit target p ps a t h =
    Means-after t _ _ _ _ _ _ (full_adder-means t p.0 p.1 a.1 h.pairs.0.0 h.pairs.0.1 h.carry) (λ r u hr e.
    Means-done u (a.0 ++ r.0 ∷ [], r.1) _ _
    (record {
      pairs = all_more (PairBelow t.free) (PairBelow u.free) (PairBelow-later t.free u.free e.counted) ps h.pairs.1;
      word = AllBelow-append u.free a.0 (r.0 ∷ []) (AllBelow-more t.free u.free e.counted a.0 h.word) (hr.0, tt);
      carry = hr.1;
      long = omega (arith, length-append {A = Literal} a.0 (r.0 ∷ []), h.long);
      room = omega (arith, hr.2, h.room);
    })
    (λ v k er before.
    map-push (literal_value v) a.0 r.0 _
    ∙ ap (λ b. map (literal_value v) a.0 ++ b ∷ add_bits (map (λ p. literal_value v p.0) ps) (map (λ p. literal_value v p.1) ps) (literal_value v r.1)) er.0
    ∙ ap (λ c. map (literal_value v) a.0 ++ differ (differ (literal_value v p.0) (literal_value v p.1)) (literal_value v a.1) ∷ add_bits (map (λ p. literal_value v p.0) ps) (map (λ p. literal_value v p.1) ps) c) er.1
    ∙ before))

pub sum-first : (xs ys : List Literal) (c : Literal) (s : Circuit) → length xs ≡ length ys → AllBelow s.free xs → AllBelow s.free ys → IsBelow s.free c
    → SumShape (length xs) (s.free + 5 * length xs) (zip xs ys) s ([], c)
sum-first xs ys c s e hx hy hc = record {
  pairs = zip-below s.free xs ys hx hy;
  word = tt;
  carry = hc;
  long = omega (arith, length-pairs xs ys e);
  room = omega (arith, length-pairs xs ys e);
}

pub sum_gates-means : (xs ys : List Literal) (c : Literal) (s : Circuit) → length xs ≡ length ys → AllBelow s.free xs → AllBelow s.free ys → IsBelow s.free c
    → Means s (sum_gates xs ys c s) (IsSized (length xs) (s.free + 5 * length xs))
    (λ v w. map (literal_value v) w ≡ add_bits (map (literal_value v) xs) (map (literal_value v) ys) (literal_value v c))
unfolding sum_gates
sum_gates-means xs ys c s e hx hy hc =
    let target : TotalAssignment → List Bool = λ v. add_bits (map (literal_value v) xs) (map (literal_value v) ys) (literal_value v c) in
    Means-after s _ _ _ _ _ _
    (Means-fold sum_step (SumShape (length xs) (s.free + 5 * length xs)) (SumsTo target) (sum_step-turn (length xs) (s.free + 5 * length xs) target) (zip xs ys) ([], c) s
    (sum-first xs ys c s e hx hy hc)) (λ a t h k.
    Means-done t a.0 _ _ (record { long = omega (arith, h.long); below = h.word; free = omega (arith, h.room) })
    (λ v i given.
    sym (append-nil _)
    ∙ given
    (ap (λ bs. add_bits bs (map (λ p. literal_value v p.1) (zip xs ys)) (literal_value v c)) (map-first (literal_value v) xs ys e)
    ∙ ap (λ bs. add_bits (map (literal_value v) xs) bs (literal_value v c)) (map-second (literal_value v) xs ys e))))

pub sum_gates-adds : (xs ys : List Literal) (c : Literal) (s : Circuit) → BeginsWith (sum_gates xs ys c s).0.clauses s.clauses
unfolding sum_gates
sum_gates-adds xs ys c s = begins-after s _ _ (fold_gates-begins sum_step sum_step-adds (zip xs ys) ([], c) s) (λ a t. BeginsWith-refl t.clauses)

-- ---- sums of words

pub add_gates-adds : (a b : List Literal) (n : ℕ) (s : Circuit) → BeginsWith (add_gates a b n s).0.clauses s.clauses
unfolding add_gates
add_gates-adds a b n s = sum_gates-adds (fit n a) (fit n b) (constant_lit false) s

pub subtract_gates-adds : (a b : List Literal) (n : ℕ) (s : Circuit) → BeginsWith (subtract_gates a b n s).0.clauses s.clauses
unfolding subtract_gates
subtract_gates-adds a b n s = sum_gates-adds (fit n a) (map opposite (fit n b)) (constant_lit true) s

pub negate_gates-adds : (a : List Literal) (n : ℕ) (s : Circuit) → BeginsWith (negate_gates a n s).0.clauses s.clauses
unfolding negate_gates
negate_gates-adds a n s = subtract_gates-adds (constant_lit false ∷ []) a n s

pub add_gates-means : (a b : List Literal) (n : ℕ) (s : Circuit) → HasTruth s → 1 < s.free → 0 < n → IsWordOf s a → IsWordOf s b
    → Means s (add_gates a b n s) (IsSized n (s.free + 5 * n)) (λ v x. IsCutTo n (word_value v a +ℤ word_value v b) (word_value v x))
unfolding add_gates
add_gates-means a b n s t f h wa wb =
    Means-weaker s _ _ (IsSized n (s.free + 5 * n)) _ _
    (sum_gates-means (fit n a) (fit n b) (constant_lit false) s (length-fit n a ∙ sym (length-fit n b)) (AllBelow-fit n s.free a f wa.below) (AllBelow-fit n s.free b f wb.below) f)
    (λ w. record { long = w.long ∙ length-fit n a; below = w.below; free = w.free ∙ ap (λ k. s.free + 5 * k) (length-fit n a) })
    (λ v old e.
    let bits : map (literal_value v) (sum_gates (fit n a) (fit n b) (constant_lit false) s).1 ≡ add_bits (map (literal_value v) (fit n a)) (map (literal_value v) (fit n b)) false =
    e ∙ ap (λ b'. add_bits (map (literal_value v) (fit n a)) (map (literal_value v) (fit n b)) (not b')) (t v old)
    in
    subst (λ (bs : List Bool). IsCutTo n (word_value v a +ℤ word_value v b) (signed_value bs)) (sym bits)
    (IsCutTo-same (SameModulo-add (word_value-fit v n a wa.signed) (word_value-fit v n b wb.signed))
    (plain_bits-cut (map (literal_value v) (fit n a)) (map (literal_value v) (fit n b)) n (length-values v n a) (length-values v n b) h)))

pub subtract_gates-means : (a b : List Literal) (n : ℕ) (s : Circuit) → HasTruth s → 1 < s.free → 0 < n → IsWordOf s a → IsWordOf s b
    → Means s (subtract_gates a b n s) (IsSized n (s.free + 5 * n)) (λ v x. IsCutTo n (word_value v a -ℤ word_value v b) (word_value v x))
unfolding subtract_gates
subtract_gates-means a b n s t f h wa wb =
    let long : length (map opposite (fit n b)) ≡ n = length-map (fit n b) opposite ∙ length-fit n b in
    Means-weaker s _ _ (IsSized n (s.free + 5 * n)) _ _
    (sum_gates-means (fit n a) (map opposite (fit n b)) (constant_lit true) s (length-fit n a ∙ sym long) (AllBelow-fit n s.free a f wa.below)
    (AllBelow-opposite s.free (fit n b) (AllBelow-fit n s.free b f wb.below)) f)
    (λ w. record { long = w.long ∙ length-fit n a; below = w.below; free = w.free ∙ ap (λ k. s.free + 5 * k) (length-fit n a) })
    (λ v old e.
    let bits : map (literal_value v) (sum_gates (fit n a) (map opposite (fit n b)) (constant_lit true) s).1 ≡ add_bits (map (literal_value v) (fit n a)) (map not (map (literal_value v) (fit n b))) true =
    e
    ∙ ap (λ c. add_bits (map (literal_value v) (fit n a)) (map (literal_value v) (map opposite (fit n b))) c) (t v old)
    ∙ ap (λ ys. add_bits (map (literal_value v) (fit n a)) ys true) (map-opposite v (fit n b))
    in
    subst (λ (bs : List Bool). IsCutTo n (word_value v a -ℤ word_value v b) (signed_value bs)) (sym bits)
    (IsCutTo-same (SameModulo-sub (word_value-fit v n a wa.signed) (word_value-fit v n b wb.signed))
    (subtract_bits-cut (map (literal_value v) (fit n a)) (map (literal_value v) (fit n b)) n (length-values v n a) (length-values v n b) h)))

-- the word of the literal that is always false is 0
zero_word : (v : TotalAssignment) → v 1 ≡ true → word_value v (constant_lit false ∷ []) ≡ pos 0
zero_word v t = ap (λ b. signed_value (not b ∷ [])) t

pub negate_gates-means : (a : List Literal) (n : ℕ) (s : Circuit) → HasTruth s → 1 < s.free → 0 < n → IsWordOf s a
    → Means s (negate_gates a n s) (IsSized n (s.free + 5 * n)) (λ v x. IsCutTo n (neg_ℤ (word_value v a)) (word_value v x))
unfolding negate_gates
negate_gates-means a n s t f h wa =
    Means-weaker s _ _ (IsSized n (s.free + 5 * n)) _ _ (subtract_gates-means (constant_lit false ∷ []) a n s t f h (record { signed = omega arith; below = (f, tt) }) wa)
    (λ w. w)
    (λ v old c. subst (λ (z : ℤ). IsCutTo n z (word_value v (negate_gates a n s).1)) (ap (λ z. z -ℤ word_value v a) (zero_word v (t v old)) ∙ omega (arith, ints)) c)

pub add_gates-gives : (a b : List Literal) (n : ℕ) (s : Circuit) → HasTruth s → 1 < s.free → 0 < n → IsWordOf s a → IsWordOf s b
    → GivesCut s (add_gates a b n s).0 (add_gates a b n s).1 n (λ v. word_value v a +ℤ word_value v b)
add_gates-gives a b n s t f h wa wb = Means-keep s _ _ (IsOfWidth n) _ (add_gates-means a b n s t f h wa wb) (width_of n _ _ _)

pub subtract_gates-gives : (a b : List Literal) (n : ℕ) (s : Circuit) → HasTruth s → 1 < s.free → 0 < n → IsWordOf s a → IsWordOf s b
    → GivesCut s (subtract_gates a b n s).0 (subtract_gates a b n s).1 n (λ v. word_value v a -ℤ word_value v b)
subtract_gates-gives a b n s t f h wa wb = Means-keep s _ _ (IsOfWidth n) _ (subtract_gates-means a b n s t f h wa wb) (width_of n _ _ _)

pub negate_gates-gives : (a : List Literal) (n : ℕ) (s : Circuit) → HasTruth s → 1 < s.free → 0 < n → IsWordOf s a
    → GivesCut s (negate_gates a n s).0 (negate_gates a n s).1 n (λ v. neg_ℤ (word_value v a))
negate_gates-gives a n s t f h wa = Means-keep s _ _ (IsOfWidth n) _ (negate_gates-means a n s t f h wa) (width_of n _ _ _)

-- ---- the loop over the places

module _ (a b : List Literal) (c : Literal) (s : Circuit) (n limit : ℕ) (w : List Literal) (i : ℕ) (carry : Literal) (g : Circuit)
    (turns : Turns sum_step (SumShape n limit) (zip a b) s (fold_gates sum_step (zip a b) ([], c) s) i (w, carry) g) where
  pub sum_loop-end : length (zip a b) ≤ i → sum_gates a b c s ≡ (g, w)
  unfolding sum_gates after
  sum_loop-end h =
      ap (λ (z : Circuit × (List Literal × Literal)). (z.0, z.1.0)) (Turns-end sum_step (SumShape n limit) sum_step-adds (zip a b) s _ i (w, carry) g turns h)

  pub sum_loop-between : StopsWithin s g (sum_gates a b c s).0
  unfolding sum_gates
  sum_loop-between =
      StopsWithin-here _ _ _ _ (Turns-between sum_step (SumShape n limit) sum_step-adds (zip a b) s _ i (w, carry) g turns) (λ r t. BeginsWith-refl t.clauses)

  module _ (x y : Literal) (ex : slice_get a i ≡ Some x) (ey : slice_get b i ≡ Some y) where
    pair_is : slice_get (zip a b) i ≡ Some (x, y)
    pair_is = slice_get-zip a b i x y ex ey

    pub sum_loop-here : SumShape n limit ((x, y) ∷ drop (i + 1) (zip a b)) g (w, carry)
    sum_loop-here = Turns-here sum_step (SumShape n limit) sum_step-adds (zip a b) s _ i (w, carry) g turns (x, y) pair_is

    pub sum_loop-next : (t : Circuit) (r d : Literal) → full_adder x y carry g ≡ (t, (r, d))
        → Turns sum_step (SumShape n limit) (zip a b) s (fold_gates sum_step (zip a b) ([], c) s) (i + 1) (w ++ r ∷ [], d) t
    unfolding sum_step after
    sum_loop-next t r d e =
        Turns-next sum_step (SumShape n limit) sum_step-adds (zip a b) s _ i (w, carry) g turns (x, y) pair_is t (w ++ r ∷ [], d)
        (ap (λ (z : Circuit × (Literal × Literal)). (z.0, (w ++ z.1.0 ∷ [], z.1.1))) e)
        (sum_step-turn n limit (λ v. []) (x, y) (drop (i + 1) (zip a b)) (w, carry) g sum_loop-here).shape

    pub sum_loop-stops : (new : Circuit) → StopsWithin g new (full_adder x y carry g).0 → StopsWithin s new (sum_gates a b c s).0
    unfolding sum_gates sum_step
    sum_loop-stops new h =
        StopsWithin-here _ _ _ _
        (Turns-stops sum_step (SumShape n limit) sum_step-adds (zip a b) s _ i (w, carry) g turns (x, y) pair_is new
        (StopsWithin-here _ _ _ _ h (λ r t. BeginsWith-refl t.clauses)))
        (λ r t. BeginsWith-refl t.clauses)
