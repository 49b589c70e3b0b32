-- What the gates that count mean.
use Rattle.std.proofs.Common.{◌≡◌, ℕ, zero, suc, ◌+◌, ◌*◌, ◌<◌, ◌≤◌, Bool, true, false, not, ◌&&◌, ◌||◌, leb, List, [], ◌∷◌, ◌++◌, length, map, drop, refl, sym, ◌∙◌, ap, subst, arith, Some}
use Rattle.std.specs.Prelude.{zip, slice_get}
use Rattle.std.specs.List.{AllByRecursion}
use Rattle.std.proofs.lemmas.List.{length-append, length-replicate, map-append}
use Rattle.std.proofs.lemmas.Bool.Decides.{nat_tests}
use Rattle.sat_clauses.specs.Literal.{Literal, opposite}
use Rattle.sat_clauses.specs.Models.{TotalAssignment, literal_value, IsBelow}
use Rattle.sat_clauses.proofs.ModelLemmas.{literal_value-opposite}
use Rattle.sat_circuits.specs.Circuit.{Circuit, after, fold_gates}
use Rattle.sat_circuits.specs.Gates.{constant_lit}
use Rattle.sat_circuits.specs.Meaning.{AllBelow, Means, GivesBool, HasTruth, BeginsWith, StopsWithin}
use Rattle.sat_circuits.proofs.Extension.{AllBelow-more, AllBelow-append, Means-after, Means-done, Means-weaker, Means-fold, begins-after, BeginsWith-refl, Means-keep, StopsWithin-here}
use Rattle.sat_circuits.proofs.Rows.{and_gate-means, or_gate-means, and_gate-begins, or_gate-begins}
use Rattle.sat_circuits.proofs.Turns.{Turns, Turns-end, Turns-here, Turns-next, Turns-stops, fold_gates-begins}
use Rattle.sat_circuits.specs.Bits.{bit_value}
use Rattle.sat_circuits.specs.Words.{sign_of, zeros, push_gate, map_gates}
use Rattle.sat_circuits.specs.Counts.{true_count, count_gate, count_step, first_from, at_most_gates}
use Rattle.sat_circuits.proofs.WordMeans.{PairBelow, PairBelow-later, zip-below, slice_get-zip, MapsTo, map_gates-means, push_gate-adds, AllBelow-zeros, sign-below}
use Rattle.sat_circuits.proofs.QuotientMeans.{Choosable}

-- ---- one literal more

-- at least k + 1 with l, or the one above it
abbrev pub counted : Literal → TotalAssignment → Literal × Literal → Bool
counted l v p = literal_value v p.0 || (literal_value v p.1 && literal_value v l)

pub count_gate-maps : (l : Literal) → MapsTo (count_gate l) 2 (Choosable l) (counted l)
unfolding count_gate
count_gate-maps l = record {
  means = λ p t h.
      Means-after t _ _ _ _ _ _ (and_gate-means t p.1 l h.0.1 h.1) (λ q u hq e.
      Means-weaker u _ _ (λ w x. IsBelow w.free x × (w.free ≡ t.free + 2)) _ _ (or_gate-means u p.0 q (omega (arith, h.0.0, e.counted)) hq.below)
      (λ k. (k.below, omega (arith, k.next, hq.next)))
      (λ v i ex eq. ex ∙ ap (λ b. literal_value v p.0 || b) eq));
  later = λ m n h p b. (PairBelow-later m n h p b.0, omega (arith, b.1));
  adds = λ p t. begins-after t _ _ (and_gate-begins p.1 l t) (λ q u. or_gate-begins p.0 q u);
}

pub Countable-zip : (l : Literal) (n : ℕ) (ps : List (Literal × Literal)) → IsBelow n l → AllByRecursion (PairBelow n) ps → AllByRecursion (Choosable l n) ps
Countable-zip l n [] h b = tt
Countable-zip l n (p ∷ ps) h b = ((b.0, h), Countable-zip l n ps h b.1)

-- the counters say whether at least so many of the literals so far, of which count are true, are true: the last says at least 0
abbrev Counts : TotalAssignment → ℕ → List Literal → Type 0
Counts v count [] = Unit {0}
Counts v count (c ∷ cs) = (literal_value v c ≡ leb (length cs) count) × Counts v count cs

-- the same of the values
abbrev CountValues : ℕ → List Bool → Type 0
CountValues count [] = Unit {0}
CountValues count (c ∷ cs) = (c ≡ leb (length cs) count) × CountValues count cs

from_values : (v : TotalAssignment) (m : ℕ) (cs : List Literal) → CountValues m (map (literal_value v) cs) → Counts v m cs
from_values v m [] h = tt
from_values v m (c ∷ cs) h = (h.0 ∙ ap (λ k. leb k m) (length-values cs), from_values v m cs h.1)
  where
    length-values : (cs : List Literal) → length (map (literal_value v) cs) ≡ length cs
    length-values [] = refl
    length-values (c ∷ cs) = ap suc (length-values cs)

-- at least k + 1 with one more: at least k + 1 before, or k before and the one more
one_more : (k m : ℕ) (b : Bool) → (leb (suc k) m || (leb k m && b)) ≡ leb (suc k) (m + bit_value b)
one_more k m true = grind (arith, nat_tests)
one_more k m false = grind (arith, nat_tests)

any : (m n : ℕ) → leb 0 m ≡ leb 0 n
any m n = grind (arith, nat_tests)

length-step : (l : Literal) (v : TotalAssignment) (c : Literal) (cs : List Literal) (last : Bool) → length (map (counted l v) (zip (c ∷ cs) cs) ++ last ∷ []) ≡ length (c ∷ cs)
length-step l v c [] last = refl
length-step l v c (d ∷ ds) last = ap suc (length-step l v d ds last)

step-values : (l : Literal) (v : TotalAssignment) (m : ℕ) (c : Literal) (cs : List Literal) → Counts v m (c ∷ cs)
    → CountValues (m + bit_value (literal_value v l)) (map (counted l v) (zip (c ∷ cs) cs) ++ literal_value v (sign_of (c ∷ cs)) ∷ [])
step-values l v m c [] h = (h.0 ∙ any m (m + bit_value (literal_value v l)), tt)
step-values l v m c (d ∷ ds) h = (
  ap (λ b. b || (literal_value v d && literal_value v l)) h.0 ∙ ap (λ b. leb (suc (length ds)) m || (b && literal_value v l)) h.1.0
      ∙ one_more (length ds) m (literal_value v l)
      ∙ ap (λ k. leb k (m + bit_value (literal_value v l))) (sym (length-step l v d ds (literal_value v (sign_of (c ∷ (d ∷ ds)))))),
  step-values l v m d ds h.1,
)

-- the counters, where the literals are left
pub record CountShape (n limit : ℕ) (ls : List Literal) (t : Circuit) (cs : List Literal) : Type 0 where
  pub literals : AllBelow t.free ls
  pub counters : AllBelow t.free cs
  pub long : length cs ≡ suc (suc n)
  pub room : t.free + (2 * (n + 1)) * length ls ≡ limit
  pub least : 1 < t.free

-- so many of the literals before these are true, and the counters say so
pub record CountsSoFar (total : TotalAssignment → ℕ) (ls : List Literal) (v : TotalAssignment) (cs : List Literal) : Type 0 where
  pub so_far : ℕ
  pub is : so_far + true_count v ls ≡ total v
  pub counts : Counts v so_far cs

length-tail : (c : Literal) (cs : List Literal) → length (zip (c ∷ cs) cs) ≡ length cs
length-tail c [] = refl
length-tail c (d ∷ ds) = ap suc (length-tail d ds)

pub count_step-turn : (n limit : ℕ) (total : TotalAssignment → ℕ) (l : Literal) (ls cs : List Literal) (t : Circuit)
    → CountShape n limit (l ∷ ls) t cs → Means t (count_step l cs t) (CountShape n limit ls) (λ v ds. CountsSoFar total (l ∷ ls) v cs → CountsSoFar total ls v ds)
unfolding count_step
count_step-turn n limit total l ls [] t h = absurd (omega (arith, h.long))
count_step-turn n limit total l ls (c ∷ cs) t h =
    Means-after t _ _ _ _ _ _
    (map_gates-means (count_gate l) 2 (Choosable l) (counted l) (count_gate-maps l) (zip (c ∷ cs) cs) [] t
    (Countable-zip l t.free (zip (c ∷ cs) cs) h.literals.0 (zip-below t.free (c ∷ cs) cs h.counters h.counters.1)) tt) (λ w u hw e.
    Means-done u (w ++ sign_of (c ∷ cs) ∷ []) _ _
    (record {
      literals = AllBelow-more t.free u.free e.counted ls h.literals.1;
      counters = AllBelow-append u.free w (sign_of (c ∷ cs) ∷ []) hw.below (sign-below u.free (c ∷ cs) (omega (arith, h.least, e.counted)) (AllBelow-more t.free u.free e.counted (c ∷ cs) h.counters), tt);
      long = omega (arith, length-append {A = Literal} w (sign_of (c ∷ cs) ∷ []), hw.long, length-tail c cs, h.long);
      room = omega (arith, hw.free, length-tail c cs, h.long, h.room);
      least = omega (arith, h.least, e.counted);
    })
    (λ v i ew k.
    let values : map (literal_value v) (w ++ sign_of (c ∷ cs) ∷ []) ≡ map (counted l v) (zip (c ∷ cs) cs) ++ literal_value v (sign_of (c ∷ cs)) ∷ [] =
    map-append (literal_value v) w (sign_of (c ∷ cs) ∷ []) ∙ ap (λ bs. bs ++ literal_value v (sign_of (c ∷ cs)) ∷ []) ew
    in
    record {
      so_far = k.so_far + bit_value (literal_value v l);
      is = omega (arith, k.is);
      counts =
          from_values v (k.so_far + bit_value (literal_value v l)) (w ++ sign_of (c ∷ cs) ∷ [])
          (subst (λ (bs : List Bool). CountValues (k.so_far + bit_value (literal_value v l)) bs) (sym values) (step-values l v k.so_far c cs k.counts));
    }))

pub count_step-adds : (l : Literal) (cs : List Literal) (s : Circuit) → BeginsWith (count_step l cs s).0.clauses s.clauses
unfolding count_step
count_step-adds l cs s =
    begins-after s _ _ (fold_gates-begins (push_gate (count_gate l)) (push_gate-adds (count_gate l) 2 (Choosable l) (counted l) (count_gate-maps l)) _ [] s) (λ w t. BeginsWith-refl t.clauses)

-- ---- all literals

-- before any literal is counted: at least 0, and no more
Counts-start : (v : TotalAssignment) (j : ℕ) → v 1 ≡ true → Counts v 0 (zeros j ++ constant_lit true ∷ [])
Counts-start v zero t = (t ∙ zero_le, tt)
  where
    zero_le : true ≡ leb 0 0
    zero_le = refl
Counts-start v (suc j) t = (ap not t ∙ sym (le-false (length (zeros j ++ constant_lit true ∷ [])) (omega (arith, length-append {A = Literal} (zeros j) (constant_lit true ∷ [])))), Counts-start v j t)
  where
    le-false : (n : ℕ) → 0 < n → leb n 0 ≡ false
    le-false n h = grind (arith, nat_tests)

first-value : (v : TotalAssignment) (ds : List Literal) (n m : ℕ) → length ds ≡ suc (suc n) → Counts v m ds → literal_value v (opposite (first_from (constant_lit false) ds)) ≡ leb m n
first-value v [] n m e k = absurd (omega arith)
first-value v (d ∷ ds) n m e k = literal_value-opposite v d ∙ ap not k.0 ∙ turn (length ds) m n (omega arith)
  where
    turn : (j m n : ℕ) → j ≡ suc n → not (leb j m) ≡ leb m n
    turn j m n e = grind (arith, nat_tests)

pub first-below : (m : ℕ) (ds : List Literal) → 1 < m → AllBelow m ds → IsBelow m (first_from (constant_lit false) ds)
first-below m [] h b = h
first-below m (d ∷ ds) h b = b.0

pub count-first : (lits : List Literal) (n : ℕ) (s : Circuit) → 1 < s.free → AllBelow s.free lits
    → CountShape n (s.free + (2 * (n + 1)) * length lits) lits s (zeros (n + 1) ++ constant_lit true ∷ [])
count-first lits n s f hl = record {
  literals = hl;
  counters = AllBelow-append s.free (zeros (n + 1)) (constant_lit true ∷ []) (AllBelow-zeros s.free (n + 1) f) (f, tt);
  long = length-append {A = Literal} (zeros (n + 1)) (constant_lit true ∷ []) ∙ omega (arith, length-replicate {A = Literal} (n + 1) (constant_lit false));
  room = refl;
  least = f;
}

pub at_most_gates-means : (lits : List Literal) (n : ℕ) (s : Circuit) → HasTruth s → 1 < s.free → AllBelow s.free lits
    → Means s (at_most_gates lits n s) (λ t l. IsBelow t.free l × (t.free ≡ s.free + (2 * (n + 1)) * length lits)) (λ v l. literal_value v l ≡ leb (true_count v lits) n)
unfolding at_most_gates
at_most_gates-means lits n s t f hl =
    let limit : ℕ = s.free + (2 * (n + 1)) * length lits in
    let start : List Literal = zeros (n + 1) ++ constant_lit true ∷ [] in
    Means-after s _ _ _ _ _ _
    (Means-weaker s _ _ (CountShape n limit []) _ (λ v cs. CountsSoFar (λ w. true_count w lits) [] v cs)
    (Means-fold count_step (CountShape n limit) (CountsSoFar (λ w. true_count w lits)) (count_step-turn n limit (λ w. true_count w lits)) lits start s (count-first lits n s f hl))
    (λ h. h)
    (λ v old k. k (record { so_far = 0; is = omega arith; counts = Counts-start v (n + 1) (t v old) })))
    (λ ds u hd e.
    Means-done u (opposite (first_from (constant_lit false) ds)) _ _ (first-below u.free ds hd.least hd.counters, omega (arith, hd.room))
    (λ v i k. first-value v ds n k.so_far hd.long k.counts ∙ ap (λ m. leb m n) (omega (arith, k.is))))

pub at_most_gates-adds : (lits : List Literal) (n : ℕ) (s : Circuit) → BeginsWith (at_most_gates lits n s).0.clauses s.clauses
unfolding at_most_gates
at_most_gates-adds lits n s = begins-after s _ _ (fold_gates-begins count_step count_step-adds lits _ s) (λ ds t. BeginsWith-refl t.clauses)

pub at_most_gates-gives : (lits : List Literal) (n : ℕ) (s : Circuit) → HasTruth s → 1 < s.free → AllBelow s.free lits
    → GivesBool s (at_most_gates lits n s).0 (at_most_gates lits n s).1 (λ v. leb (true_count v lits) n)
at_most_gates-gives lits n s t f hl = Means-keep s _ _ (λ u l. IsBelow u.free l) _ (at_most_gates-means lits n s t f hl) (λ h. h.0)

-- ---- the loop over the counters

pub neighbours : (xs : List Literal) (i : ℕ) (x y : Literal) → slice_get xs i ≡ Some x → slice_get xs (i + 1) ≡ Some y → slice_get (zip xs (drop 1 xs)) i ≡ Some (x, y)
neighbours [] i x y e f = cc
neighbours (a ∷ xs) i x y e f =
    let next : suc i ≡ i + 1 = omega arith in
    slice_get-zip (a ∷ xs) xs i x y e (ap (slice_get (a ∷ xs)) next ∙ f)

pub length-neighbours : (xs : List Literal) → 0 < length xs → length (zip xs (drop 1 xs)) + 1 ≡ length xs
length-neighbours [] h = absurd (omega arith)
length-neighbours (x ∷ xs) h = omega (arith, length-tail x xs)

pub neighbours-below : (n : ℕ) (xs : List Literal) → AllBelow n xs → AllByRecursion (PairBelow n) (zip xs (drop 1 xs))
neighbours-below n [] h = tt
neighbours-below n (x ∷ xs) h = zip-below n (x ∷ xs) xs h h.1

pub count_step-stops : (l : Literal) (cs : List Literal) (s new : Circuit) → StopsWithin s new (map_gates (count_gate l) (zip cs (drop 1 cs)) [] s).0 → StopsWithin s new (count_step l cs s).0
unfolding count_step
count_step-stops l cs s new h = StopsWithin-here _ _ _ _ h (λ w t. BeginsWith-refl t.clauses)

pub count_step-exact : (l : Literal) (cs : List Literal) (s t : Circuit) (w : List Literal) → map_gates (count_gate l) (zip cs (drop 1 cs)) [] s ≡ (t, w) → count_step l cs s ≡ (t, w ++ sign_of cs ∷ [])
unfolding count_step after
count_step-exact l cs s t w e = ap (λ (z : Circuit × List Literal). (z.0, z.1 ++ sign_of cs ∷ [])) e

-- ---- the loop over the literals

module _ (lits : List Literal) (n : ℕ) (s : Circuit) (limit : ℕ) (cs : List Literal) (i : ℕ) (g : Circuit)
    (turns : Turns count_step (CountShape n limit) lits s (fold_gates count_step lits (zeros (n + 1) ++ constant_lit true ∷ []) s) i cs g) where
  pub count_loop-end : length lits ≤ i → at_most_gates lits n s ≡ (g, opposite (first_from (constant_lit false) cs))
  unfolding at_most_gates after
  count_loop-end h =
      ap (λ (z : Circuit × List Literal). (z.0, opposite (first_from (constant_lit false) z.1))) (Turns-end count_step (CountShape n limit) count_step-adds lits s _ i cs g turns h)

  module _ (l : Literal) (e : slice_get lits i ≡ Some l) where
    pub count_loop-here : CountShape n limit (l ∷ drop (i + 1) lits) g cs
    count_loop-here = Turns-here count_step (CountShape n limit) count_step-adds lits s _ i cs g turns l e

    pub count_loop-stops : (new : Circuit) → StopsWithin g new (count_step l cs g).0 → StopsWithin s new (at_most_gates lits n s).0
    unfolding at_most_gates
    count_loop-stops new h =
        StopsWithin-here _ _ _ _ (Turns-stops count_step (CountShape n limit) count_step-adds lits s _ i cs g turns l e new h) (λ ds t. BeginsWith-refl t.clauses)

    pub count_loop-next : (t : Circuit) (ds : List Literal) → count_step l cs g ≡ (t, ds)
        → Turns count_step (CountShape n limit) lits s (fold_gates count_step lits (zeros (n + 1) ++ constant_lit true ∷ []) s) (i + 1) ds t
    count_loop-next t ds k =
        Turns-next count_step (CountShape n limit) count_step-adds lits s _ i cs g turns l e t ds k
        (count_step-turn n limit (λ v. 0) l (drop (i + 1) lits) cs g count_loop-here).shape

pub first-at : (cs : List Literal) (c : Literal) → slice_get cs 0 ≡ Some c → first_from (constant_lit false) cs ≡ c
first-at [] c e = cc
first-at (d ∷ ds) c e = cc
