-- What the gates of comparisons mean.
use Rattle.std.proofs.Common.{◌≡◌, ℕ, ◌+◌, ◌*◌, ◌<◌, ◌≤◌, max, Bool, true, false, not, ◌&&◌, List, ◌∷◌, length, map, refl, sym, ◌∙◌, ap, subst, arith, pos, ◌-ℤ◌, drop, Some}
use Rattle.std.specs.Prelude.{int_lt, zip, slice_get}
use Rattle.std.specs.List.{AllByRecursion}
use Rattle.std.specs.Ordering.{int_eq}
use Rattle.sat_clauses.specs.Literal.{Literal, opposite}
use Rattle.sat_clauses.specs.Models.{TotalAssignment, literal_value, IsBelow}
use Rattle.sat_clauses.proofs.ModelLemmas.{literal_value-opposite}
use Rattle.sat_circuits.specs.Circuit.{Circuit, after, fold_gates}
use Rattle.sat_circuits.specs.Gates.{constant_lit, and_gate, xor_gate}
use Rattle.sat_circuits.specs.Meaning.{AllBelow, Means, GivesBool, HasTruth, BeginsWith, StopsWithin}
use Rattle.sat_circuits.proofs.Extension.{Means-after, Means-done, Means-weaker, Means-fold, Means-keep, begins-after, BeginsWith-refl, StopsWithin-here, StopsWithin-later}
use Rattle.sat_circuits.proofs.Rows.{and_gate-means, xor_gate-means, xor_gate-begins, and_gate-begins}
use Rattle.sat_circuits.proofs.Turns.{Turns, Turns-end, Turns-here, Turns-next, Turns-stops, fold_gates-begins}
use Rattle.sat_circuits.specs.Words.{word_value, fit, sign_of, IsWordOf}
use Rattle.sat_circuits.specs.Sums.{subtract_gates, less_gates, equal_step, equal_gates}
use Rattle.sat_circuits.proofs.Orders.{Fits, Fits-more, Fits-difference, exact, int_lt-difference, agree, agree-int_eq}
use Rattle.sat_circuits.proofs.WordMeans.{PairBelow, PairBelow-later, zip-below, slice_get-zip, length-pairs, map-first, map-second, length-fit, length-values, AllBelow-fit, word_value-fit_exact, Fits-word, sign-below, sign-value}
use Rattle.sat_circuits.proofs.SumMeans.{subtract_gates-means, subtract_gates-adds}
use Rattle.base_values.proofs.ListLaws.{all_more}

pub less_gates-means : (a b : List Literal) (s : Circuit) → HasTruth s → 1 < s.free → IsWordOf s a → IsWordOf s b
    → Means s (less_gates a b s) (λ t l. IsBelow t.free l × (t.free ≡ s.free + 5 * (max (length a) (length b) + 1)))
    (λ v l. literal_value v l ≡ int_lt (word_value v a) (word_value v b))
unfolding less_gates
less_gates-means a b s t f wa wb =
    let n : ℕ = max (length a) (length b) in
    let positive : 0 < n = omega (arith, wa.signed) in
    Means-after s _ _ _ _ _ _ (subtract_gates-means a b (n + 1) s t f (omega arith) wa wb) (λ d u hd e.
    Means-done u (sign_of d) _ _ (sign-below u.free d (omega (arith, e.counted)) hd.below, hd.free) (λ v h cut.
    let fa : Fits n (word_value v a) = Fits-more (length a) n _ (omega arith) (Fits-word v a wa.signed) in
    let fb : Fits n (word_value v b) = Fits-more (length b) n _ (omega arith) (Fits-word v b wb.signed) in
    let is : word_value v d ≡ word_value v a -ℤ word_value v b = exact (n + 1) _ _ (omega arith) (Fits-difference n _ _ positive fa fb) cut in
    sign-value v d (omega (arith, hd.long)) ∙ ap (λ z. int_lt z (pos 0)) is ∙ int_lt-difference (word_value v a) (word_value v b)))

pub less_gates-adds : (a b : List Literal) (s : Circuit) → BeginsWith (less_gates a b s).0.clauses s.clauses
unfolding less_gates
less_gates-adds a b s = begins-after s _ _ (subtract_gates-adds a b _ s) (λ d t. BeginsWith-refl t.clauses)

-- ---- equality

pub equal_step-adds : (p : Literal × Literal) (r : Literal) (s : Circuit) → BeginsWith (equal_step p r s).0.clauses s.clauses
unfolding equal_step
equal_step-adds p r s = begins-after s _ _ (xor_gate-begins p.0 p.1 s) (λ t u. and_gate-begins r (opposite t) u)

-- whether all so far agree, where the pairs are left
pub record EqualShape (limit : ℕ) (ps : List (Literal × Literal)) (t : Circuit) (r : Literal) : Type 0 where
  pub pairs : AllByRecursion (PairBelow t.free) ps
  pub agree : IsBelow t.free r
  pub room : t.free + 2 * length ps ≡ limit

-- those so far agree, and what is left does
abbrev Agrees : (TotalAssignment → Bool) → List (Literal × Literal) → TotalAssignment → Literal → Type 0
Agrees target ps v r = (literal_value v r && agree (map (λ p. literal_value v p.0) ps) (map (λ p. literal_value v p.1) ps)) ≡ target v

pub equal_step-turn : (limit : ℕ) (target : TotalAssignment → Bool) (p : Literal × Literal) (ps : List (Literal × Literal)) (r : Literal) (t : Circuit)
    → EqualShape limit (p ∷ ps) t r → Means t (equal_step p r t) (EqualShape limit ps) (λ v q. Agrees target (p ∷ ps) v r → Agrees target ps v q)
unfolding equal_step
equal_step-turn limit target p ps r t h =
    Means-after t _ _ _ _ _ _ (xor_gate-means t p.0 p.1 h.pairs.0.0 h.pairs.0.1) (λ x u hx e.
    Means-weaker u _ _ (EqualShape limit ps) _ _ (and_gate-means u r (opposite x) (omega (arith, h.agree, e.counted)) hx.below)
    (λ k. record {
      pairs = all_more (PairBelow t.free) _ (PairBelow-later t.free _ (omega (arith, hx.next, k.next))) ps h.pairs.1;
      agree = k.below;
      room = omega (arith, hx.next, k.next, h.room);
    })
    (λ v i eq ex before.
    ap (λ b. b && agree (map (λ p. literal_value v p.0) ps) (map (λ p. literal_value v p.1) ps)) (eq ∙ ap (λ b. literal_value v r && b) (literal_value-opposite v x ∙ ap not ex))
    ∙ and_assoc (literal_value v r) _ _ ∙ before))
  where
    and_assoc : (a b c : Bool) → ((a && b) && c) ≡ (a && (b && c))
    and_assoc true b c = refl
    and_assoc false b c = refl

pub equal-first : (xs ys : List Literal) (r : Literal) (s : Circuit) → length xs ≡ length ys → AllBelow s.free xs → AllBelow s.free ys → IsBelow s.free r
    → EqualShape (s.free + 2 * length xs) (zip xs ys) s r
equal-first xs ys r s e hx hy hr = record { pairs = zip-below s.free xs ys hx hy; agree = hr; room = omega (arith, length-pairs xs ys e) }

pub equal_gates-means : (a b : List Literal) (s : Circuit) → HasTruth s → 1 < s.free → IsWordOf s a → IsWordOf s b
    → Means s (equal_gates a b s) (λ t l. IsBelow t.free l × (t.free ≡ s.free + 2 * max (length a) (length b)))
    (λ v l. literal_value v l ≡ int_eq (word_value v a) (word_value v b))
unfolding equal_gates
equal_gates-means a b s t f wa wb =
    let n : ℕ = max (length a) (length b) in
    let xs : List Literal = fit n a in
    let ys : List Literal = fit n b in
    let same : length xs ≡ length ys = length-fit n a ∙ sym (length-fit n b) in
    let target : TotalAssignment → Bool = λ v. v 1 && agree (map (literal_value v) xs) (map (literal_value v) ys) in
    Means-weaker s _ _ (λ u l. IsBelow u.free l × (u.free ≡ s.free + 2 * n)) _ _
    (Means-fold equal_step (EqualShape (s.free + 2 * length xs)) (Agrees target) (equal_step-turn (s.free + 2 * length xs) target) (zip xs ys) (constant_lit true) s
    (equal-first xs ys (constant_lit true) s same (AllBelow-fit n s.free a f wa.below) (AllBelow-fit n s.free b f wb.below) f))
    (λ h. (h.agree, omega (arith, h.room, length-fit n a)))
    (λ v old given.
    and_true _
    ∙ given
    (ap (λ bs. v 1 && agree bs (map (λ p. literal_value v p.1) (zip xs ys))) (map-first (literal_value v) xs ys same)
    ∙ ap (λ bs. v 1 && agree (map (literal_value v) xs) bs) (map-second (literal_value v) xs ys same))
    ∙ ap (λ b'. b' && agree (map (literal_value v) xs) (map (literal_value v) ys)) (t v old)
    ∙ agree-int_eq (map (literal_value v) xs) (map (literal_value v) ys) (length-values v n a ∙ sym (length-values v n b))
    ∙ ap (λ z. int_eq z (word_value v ys)) (word_value-fit_exact v n a wa.signed (omega arith))
    ∙ ap (int_eq (word_value v a)) (word_value-fit_exact v n b wb.signed (omega arith)))
  where
    and_true : (b : Bool) → b ≡ (b && true)
    and_true true = refl
    and_true false = refl

pub equal_gates-adds : (a b : List Literal) (s : Circuit) → BeginsWith (equal_gates a b s).0.clauses s.clauses
unfolding equal_gates
equal_gates-adds a b s = fold_gates-begins equal_step equal_step-adds _ _ s

pub less_gates-gives : (a b : List Literal) (s : Circuit) → HasTruth s → 1 < s.free → IsWordOf s a → IsWordOf s b
    → GivesBool s (less_gates a b s).0 (less_gates a b s).1 (λ v. int_lt (word_value v a) (word_value v b))
less_gates-gives a b s t f wa wb = Means-keep s _ _ (λ u l. IsBelow u.free l) _ (less_gates-means a b s t f wa wb) (λ h. h.0)

pub less_gates-stops : (a b : List Literal) (s new : Circuit) → StopsWithin s new (subtract_gates a b (max (length a) (length b) + 1) s).0 → StopsWithin s new (less_gates a b s).0
unfolding less_gates
less_gates-stops a b s new stops = StopsWithin-here _ _ _ _ stops (λ d t. BeginsWith-refl t.clauses)

pub less_gates-exact : (a b : List Literal) (s t : Circuit) (w : List Literal) → subtract_gates a b (max (length a) (length b) + 1) s ≡ (t, w) → less_gates a b s ≡ (t, sign_of w)
unfolding less_gates after
less_gates-exact a b s t w e = rw e refl

pub equal_gates-gives : (a b : List Literal) (s : Circuit) → HasTruth s → 1 < s.free → IsWordOf s a → IsWordOf s b
    → GivesBool s (equal_gates a b s).0 (equal_gates a b s).1 (λ v. int_eq (word_value v a) (word_value v b))
equal_gates-gives a b s t f wa wb = Means-keep s _ _ (λ u l. IsBelow u.free l) _ (equal_gates-means a b s t f wa wb) (λ h. h.0)

-- ---- the loop over the places

module _ (a b : List Literal) (c : Literal) (s : Circuit) (limit : ℕ) (i : ℕ) (r : Literal) (g : Circuit)
    (turns : Turns equal_step (EqualShape limit) (zip a b) s (fold_gates equal_step (zip a b) c s) i r g) where
  pub equal_loop-end : length (zip a b) ≤ i → fold_gates equal_step (zip a b) c s ≡ (g, r)
  equal_loop-end h = Turns-end equal_step (EqualShape limit) equal_step-adds (zip a b) s _ i r g turns h

  module _ (x y : Literal) (ex : slice_get a i ≡ Some x) (ey : slice_get b i ≡ Some y) where
    pair_is : slice_get (zip a b) i ≡ Some (x, y)
    pair_is = slice_get-zip a b i x y ex ey

    pub equal_loop-here : EqualShape limit ((x, y) ∷ drop (i + 1) (zip a b)) g r
    equal_loop-here = Turns-here equal_step (EqualShape limit) equal_step-adds (zip a b) s _ i r g turns (x, y) pair_is

    pub equal_loop-first : (new : Circuit) → StopsWithin g new (xor_gate x y g).0 → StopsWithin s new (fold_gates equal_step (zip a b) c s).0
    unfolding equal_step
    equal_loop-first new h =
        Turns-stops equal_step (EqualShape limit) equal_step-adds (zip a b) s _ i r g turns (x, y) pair_is new
        (StopsWithin-here _ _ _ _ h (λ t u. and_gate-begins r (opposite t) u))

    module _ (u : Circuit) (t : Literal) (e : xor_gate x y g ≡ (u, t)) where
      pub equal_loop-second : (new : Circuit) → StopsWithin u new (and_gate r (opposite t) u).0 → StopsWithin s new (fold_gates equal_step (zip a b) c s).0
      unfolding equal_step
      equal_loop-second new h =
          Turns-stops equal_step (EqualShape limit) equal_step-adds (zip a b) s _ i r g turns (x, y) pair_is new
          (StopsWithin-later _ _ _ _ _ _ e (subst (λ (z : Circuit × Literal). BeginsWith z.0.clauses g.clauses) e (xor_gate-begins x y g)) h)

      pub equal_loop-next : (w : Circuit) (q : Literal) → and_gate r (opposite t) u ≡ (w, q)
          → Turns equal_step (EqualShape limit) (zip a b) s (fold_gates equal_step (zip a b) c s) (i + 1) q w
      unfolding equal_step after
      equal_loop-next w q f =
          Turns-next equal_step (EqualShape limit) equal_step-adds (zip a b) s _ i r g turns (x, y) pair_is w q
          (ap (λ (z : Circuit × Literal). and_gate r (opposite z.1) z.0) e ∙ f)
          (equal_step-turn limit (λ v. true) (x, y) (drop (i + 1) (zip a b)) r g equal_loop-here).shape
