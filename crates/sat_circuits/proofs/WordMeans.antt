-- Words: their numbers at other widths, their signs, and words made literal by literal.
use Rattle.std.proofs.Common.{◌≡◌, ℕ, zero, suc, ◌+◌, ◌-◌, ◌*◌, ◌^◌, ◌<◌, ◌≤◌, min, Bool, false, not, List, [], ◌∷◌, length, map, add-one, ◌++◌, refl, sym, ◌∙◌, ap, subst, arith, pos, drop, Some}
use Rattle.std.specs.Prelude.{int_lt, slice_get, zip, Result, Ok, Err, IfOk, OnOk}
use Rattle.std.specs.List.{AllByRecursion}
use Rattle.std.proofs.lemmas.List.{length-map, length-append, append_assoc, append-nil, map-append}
use Rattle.sat_clauses.specs.Literal.{Literal, opposite}
use Rattle.sat_clauses.specs.Models.{TotalAssignment, literal_value, IsBelow}
use Rattle.sat_clauses.proofs.ModelLemmas.{literal_value-opposite}
use Rattle.sat_circuits.specs.Circuit.{Circuit, after}
use Rattle.sat_circuits.specs.Gates.{constant_lit}
use Rattle.sat_circuits.specs.Meaning.{AllBelow, Means, BeginsWith, StopsWithin}
use Rattle.sat_circuits.proofs.Extension.{AllBelow-more, AllBelow-append, Means-after, Means-done, Means-weaker, Means-fold, begins-after, BeginsWith-refl, StopsWithin-here}
use Rattle.sat_circuits.proofs.Turns.{Turns, Turns-first, Turns-end, Turns-between, Turns-here, Turns-next, Turns-stops}
use Rattle.sat_circuits.specs.Bits.{last_from, signed_value, SameModulo, fit_from}
use Rattle.sat_circuits.specs.Words.{word_value, fit, sign_of, zeros, IsOfWidth, IsSized, push_gate, map_gates}
use Rattle.sat_circuits.proofs.Numbers.{length-fit_from, map-fit_from, SameModulo-fit_from}
use Rattle.sat_circuits.proofs.Orders.{Fits, Fits-signed, signed_value-fit_from, last_bit-sign}
use Rattle.base_values.proofs.ListLaws.{all_more}

-- ---- words at another width

pub length-fit : (n : ℕ) (w : List Literal) → length (fit n w) ≡ n
unfolding fit
length-fit n w = length-fit_from (constant_lit false) n w

pub length-values : (v : TotalAssignment) (n : ℕ) (w : List Literal) → length (map (literal_value v) (fit n w)) ≡ n
length-values v n w = length-map (fit n w) (literal_value v) ∙ length-fit n w

pub AllBelow-fit : (n m : ℕ) (w : List Literal) → 1 < m → AllBelow m w → AllBelow m (fit n w)
unfolding fit
AllBelow-fit n m w h b = go (constant_lit false) n w h b
  where
    go : (d : Literal) (n : ℕ) (w : List Literal) → IsBelow m d → AllBelow m w → AllBelow m (fit_from d n w)
    go d zero w k b = tt
    go d (suc n) [] k b = (k, go d n [] k tt)
    go d (suc n) (x ∷ w) k b = (b.0, go x n w b.0 b.1)

pub AllBelow-opposite : (m : ℕ) (w : List Literal) → AllBelow m w → AllBelow m (map opposite w)
AllBelow-opposite m [] b = tt
AllBelow-opposite m (x ∷ w) b = (b.0, AllBelow-opposite m w b.1)

pub map-opposite : (v : TotalAssignment) (w : List Literal) → map (literal_value v) (map opposite w) ≡ map not (map (literal_value v) w)
map-opposite v [] = refl
map-opposite v (x ∷ w) = rw (literal_value-opposite v x, map-opposite v w) refl

pub AllBelow-zeros : (m n : ℕ) → 1 < m → AllBelow m (zeros n)
AllBelow-zeros m zero h = tt
AllBelow-zeros m (suc n) h = (h, AllBelow-zeros m n h)

-- a word at n bits is its number up to a multiple of 2 ^ n
pub word_value-fit : (v : TotalAssignment) (n : ℕ) (w : List Literal) → 0 < length w → SameModulo (2 ^ n) (word_value v w) (word_value v (fit n w))
unfolding fit
word_value-fit v n w h =
    subst (λ (bs : List Bool). SameModulo (2 ^ n) (word_value v w) (signed_value bs)) (sym (map-fit_from (literal_value v) (constant_lit false) n w))
    (SameModulo-fit_from (literal_value v (constant_lit false)) n (map (literal_value v) w) (rw length-map h))

-- and its number itself where it has no more bits
pub word_value-fit_exact : (v : TotalAssignment) (n : ℕ) (w : List Literal) → 0 < length w → length w ≤ n → word_value v (fit n w) ≡ word_value v w
unfolding fit
word_value-fit_exact v n w h k =
    ap signed_value (map-fit_from (literal_value v) (constant_lit false) n w)
    ∙ signed_value-fit_from (literal_value v (constant_lit false)) n (map (literal_value v) w) (rw length-map h) (rw length-map k)

pub Fits-word : (v : TotalAssignment) (w : List Literal) → 0 < length w → Fits (length w) (word_value v w)
Fits-word v w h = subst (λ (n : ℕ). Fits n (word_value v w)) (length-map w (literal_value v)) (Fits-signed (map (literal_value v) w) (rw length-map h))

-- the literal at n, or the last one where n is past the end
at_from : Literal → List Literal → ℕ → Literal
at_from d [] n = d
at_from d (x ∷ w) zero = x
at_from d (x ∷ w) (suc n) = at_from x w n

fit_from-more : (d : Literal) (n : ℕ) (w : List Literal) → fit_from d (suc n) w ≡ fit_from d n w ++ at_from d w n ∷ []
unfolding at_from
fit_from-more d zero [] = refl
fit_from-more d zero (x ∷ w) = refl
fit_from-more d (suc n) [] = ap (λ y. d ∷ y) (fit_from-more d n [])
fit_from-more d (suc n) (x ∷ w) = ap (λ y. x ∷ y) (fit_from-more x n w)

at_from-is : (d : Literal) (n : ℕ) (w : List Literal) (l : Literal) → slice_get w (min n (length w - 1)) ≡ Some l → at_from d w n ≡ l
unfolding at_from
at_from-is d n [] l e = cc
at_from-is d zero (x ∷ w) l e =
    let first : min 0 (length (x ∷ w) - 1) ≡ 0 = omega arith in
    let at : slice_get (x ∷ w) 0 ≡ Some l = ap (slice_get (x ∷ w)) (sym first) ∙ e in
    cc
at_from-is d (suc n) (x ∷ []) l e =
    let only : min (suc n) (length (x ∷ []) - 1) ≡ 0 = omega arith in
    let at : slice_get (x ∷ []) 0 ≡ Some l = ap (slice_get (x ∷ [])) (sym only) ∙ e in
    cc
at_from-is d (suc n) (x ∷ (y ∷ w)) l e =
    let next : min (suc n) (length (x ∷ (y ∷ w)) - 1) ≡ suc (min n (length (y ∷ w) - 1)) = omega arith in
    at_from-is x n (y ∷ w) l (ap (slice_get (x ∷ (y ∷ w))) (sym next) ∙ e)

-- one bit more
pub fit_more : (n : ℕ) (w : List Literal) (l : Literal) → slice_get w (min n (length w - 1)) ≡ Some l → fit (n + 1) w ≡ fit n w ++ l ∷ []
unfolding fit
fit_more n w l e = rw add-one (fit_from-more (constant_lit false) n w ∙ ap (λ x. fit_from (constant_lit false) n w ++ x ∷ []) (at_from-is (constant_lit false) n w l e))

-- ---- the sign

last_from-below : (m : ℕ) (d : Literal) (w : List Literal) → IsBelow m d → AllBelow m w → IsBelow m (last_from d w)
last_from-below m d [] h b = h
last_from-below m d (x ∷ w) h b = last_from-below m x w b.0 b.1

pub sign-below : (m : ℕ) (w : List Literal) → 1 < m → AllBelow m w → IsBelow m (sign_of w)
sign-below m w h b = last_from-below m (constant_lit false) w h b

last_from-value : (v : TotalAssignment) (d : Literal) (w : List Literal) → literal_value v (last_from d w) ≡ last_from (literal_value v d) (map (literal_value v) w)
last_from-value v d [] = refl
last_from-value v d (x ∷ w) = last_from-value v x w

-- of a word that is not empty, whatever stands in for the last one of an empty word
last_from-any : (a b : Bool) (bs : List Bool) → 0 < length bs → last_from a bs ≡ last_from b bs
last_from-any a b [] h = absurd (omega arith)
last_from-any a b (x ∷ bs) h = refl

pub sign-value : (v : TotalAssignment) (w : List Literal) → 0 < length w → literal_value v (sign_of w) ≡ int_lt (word_value v w) (pos 0)
sign-value v w h =
    last_from-value v (constant_lit false) w ∙ last_from-any (literal_value v (constant_lit false)) false (map (literal_value v) w) (rw length-map h)
    ∙ last_bit-sign (map (literal_value v) w)

-- the last literal, by its place
pub sign-at : (w : List Literal) (l : Literal) → slice_get w (length w - 1) ≡ Some l → sign_of w ≡ l
sign-at w l e = go (constant_lit false) w e
  where
    go : (d : Literal) (w : List Literal) → slice_get w (length w - 1) ≡ Some l → last_from d w ≡ l
    go d [] e = cc
    go d (x ∷ []) e =
        let only : length (x ∷ []) - 1 ≡ 0 = omega arith in
        let at : slice_get (x ∷ []) 0 ≡ Some l = ap (slice_get (x ∷ [])) (sym only) ∙ e in
        cc
    go d (x ∷ (y ∷ w)) e =
        let next : length (x ∷ (y ∷ w)) - 1 ≡ suc (length (y ∷ w) - 1) = omega arith in
        go x (y ∷ w) (ap (slice_get (x ∷ (y ∷ w))) (sym next) ∙ e)

-- ---- two words side by side

abbrev pub PairBelow : ℕ → Literal × Literal → Type 0
PairBelow n p = IsBelow n p.0 × IsBelow n p.1

pub zip-below : (n : ℕ) (xs ys : List Literal) → AllBelow n xs → AllBelow n ys → AllByRecursion (PairBelow n) (zip xs ys)
zip-below n [] ys hx hy = tt
zip-below n (x ∷ xs) [] hx hy = tt
zip-below n (x ∷ xs) (y ∷ ys) hx hy = ((hx.0, hy.0), zip-below n xs ys hx.1 hy.1)

pub PairBelow-later : (m n : ℕ) → m ≤ n → (p : Literal × Literal) → PairBelow m p → PairBelow n p
PairBelow-later m n h p b = (omega (arith, b.0), omega (arith, b.1))

pub slice_get-zip : {A B : Type 0} (xs : List A) (ys : List B) (i : ℕ) (x : A) (y : B) → slice_get xs i ≡ Some x → slice_get ys i ≡ Some y → slice_get (zip xs ys) i ≡ Some (x, y)
slice_get-zip [] ys i x y e f = cc
slice_get-zip (a ∷ xs) [] i x y e f = cc
slice_get-zip (a ∷ xs) (b ∷ ys) zero x y e f = cc
slice_get-zip (a ∷ xs) (b ∷ ys) (suc i) x y e f = slice_get-zip xs ys i x y e f

pub length-pairs : {A B : Type 0} (xs : List A) (ys : List B) → length xs ≡ length ys → length (zip xs ys) ≡ length xs
length-pairs [] ys e = refl
length-pairs (x ∷ xs) [] e = absurd (omega arith)
length-pairs (x ∷ xs) (y ∷ ys) e = ap suc (length-pairs xs ys (omega arith))

pub map-first : {A B C : Type 0} (f : A → C) (xs : List A) (ys : List B) → length xs ≡ length ys → map (λ p. f p.0) (zip xs ys) ≡ map f xs
map-first f [] ys e = refl
map-first f (x ∷ xs) [] e = absurd (omega arith)
map-first f (x ∷ xs) (y ∷ ys) e = ap (λ z. f x ∷ z) (map-first f xs ys (omega arith))

pub map-second : {A B C : Type 0} (f : B → C) (xs : List A) (ys : List B) → length xs ≡ length ys → map (λ p. f p.1) (zip xs ys) ≡ map f ys
map-second f [] [] e = refl
map-second f [] (y ∷ ys) e = absurd (omega arith)
map-second f (x ∷ xs) [] e = absurd (omega arith)
map-second f (x ∷ xs) (y ∷ ys) e = ap (λ z. f y ∷ z) (map-second f xs ys (omega arith))

-- ---- words made literal by literal

pub map-push : {A B : Type 0} (f : A → B) (w : List A) (x : A) (ys : List B) → map f (w ++ x ∷ []) ++ ys ≡ map f w ++ f x ∷ ys
map-push f w x ys = ap (λ z. z ++ ys) (map-append f w (x ∷ [])) ∙ append_assoc (map f w) (f x ∷ []) ys

pub width_of : (n limit : ℕ) (s : Circuit) (w : List Literal) → IsSized n limit s w → IsOfWidth n s w
width_of n limit s w h = record { long = h.long; below = h.below }

-- each item that is lawful gets k variables and a literal with the value f
pub record MapsTo {X : Type 0} (gate : X → Circuit → Circuit × Literal) (k : ℕ) (B : ℕ → X → Type 0) (f : TotalAssignment → X → Bool) : Type 0 where
  pub means : (x : X) (t : Circuit) → B t.free x → Means t (gate x t) (λ u l. IsBelow u.free l × (u.free ≡ t.free + k)) (λ v l. literal_value v l ≡ f v x)
  pub later : (m n : ℕ) → m ≤ n → (x : X) → B m x → B n x
  pub adds : (x : X) (t : Circuit) → BeginsWith (gate x t).0.clauses t.clauses

-- w is what was given so far, and xs are left
pub record MapShape {X : Type 0} (k : ℕ) (B : ℕ → X → Type 0) (n limit : ℕ) (xs : List X) (t : Circuit) (w : List Literal) : Type 0 where
  pub items : AllByRecursion (B t.free) xs
  pub word : AllBelow t.free w
  pub long : length w + length xs ≡ n
  pub room : t.free + k * length xs ≡ limit

module _ {X : Type 0} (gate : X → Circuit → Circuit × Literal) (k : ℕ) (B : ℕ → X → Type 0) (f : TotalAssignment → X → Bool) (m : MapsTo gate k B f) where
  pub push_gate-turn : (n limit : ℕ) (target : TotalAssignment → List Bool) (x : X) (xs : List X) (w : List Literal) (t : Circuit) → MapShape k B n limit (x ∷ xs) t w
      → Means t (push_gate gate x w t) (MapShape k B n limit xs)
      (λ v u. map (literal_value v) w ++ map (f v) (x ∷ xs) ≡ target v → map (literal_value v) u ++ map (f v) xs ≡ target v)
  unfolding push_gate
  push_gate-turn n limit target x xs w t h =
      Means-after t _ _ _ _ _ _ (m.means x t h.items.0) (λ l u hl e.
      Means-done u (w ++ l ∷ []) _ _
      (record {
        items = all_more (B t.free) (B u.free) (m.later t.free u.free e.counted) xs h.items.1;
        word = AllBelow-append u.free w (l ∷ []) (AllBelow-more t.free u.free e.counted w h.word) (hl.0, tt);
        long = omega (arith, length-append {A = Literal} w (l ∷ []), h.long);
        room = omega (arith, hl.1, h.room);
      })
      (λ v i el before. map-push (literal_value v) w l (map (f v) xs) ∙ ap (λ b. map (literal_value v) w ++ b ∷ map (f v) xs) el ∙ before))

  pub map_gates-first : (xs : List X) (w : List Literal) (s : Circuit) → AllByRecursion (B s.free) xs → AllBelow s.free w
      → MapShape k B (length w + length xs) (s.free + k * length xs) xs s w
  map_gates-first xs w s hx hw = record { items = hx; word = hw; long = refl; room = refl }

  pub map_gates-means : (xs : List X) (w : List Literal) (s : Circuit) → AllByRecursion (B s.free) xs → AllBelow s.free w
      → Means s (map_gates gate xs w s) (IsSized (length w + length xs) (s.free + k * length xs)) (λ v u. map (literal_value v) u ≡ map (literal_value v) w ++ map (f v) xs)
  map_gates-means xs w s hx hw =
      Means-weaker s _ _ (IsSized (length w + length xs) (s.free + k * length xs)) _ _
      (Means-fold (push_gate gate) (MapShape k B (length w + length xs) (s.free + k * length xs))
      (λ ys v u. map (literal_value v) u ++ map (f v) ys ≡ map (literal_value v) w ++ map (f v) xs)
      (push_gate-turn (length w + length xs) (s.free + k * length xs) (λ v. map (literal_value v) w ++ map (f v) xs)) xs w s (map_gates-first xs w s hx hw))
      (λ h. record { long = omega (arith, h.long); below = h.word; free = omega (arith, h.room) })
      (λ v i p. sym (append-nil _) ∙ p refl)

  pub push_gate-adds : (x : X) (w : List Literal) (t : Circuit) → BeginsWith (push_gate gate x w t).0.clauses t.clauses
  unfolding push_gate
  push_gate-adds x w t = begins-after t _ _ (m.adds x t) (λ l u. BeginsWith-refl u.clauses)

-- ---- what a call says of the circuit that it left

pub OnOk-built : {A E : Type 0} (r : Result A E) (new : Circuit) (built : Circuit × A) (P : Circuit → Type 0) → IfOk r (λ a. built ≡ (new, a)) → P built.0 → OnOk r (P new)
OnOk-built (Ok a) new built P is p = subst (λ (x : Circuit × _). P x.0) is p
OnOk-built (Err e) new built P is p = tt

-- ---- the loop over the items

-- the loop has given w after i items
abbrev pub MapTurns : {X : Type 0} → (X → Circuit → Circuit × Literal) → ℕ → (ℕ → X → Type 0) → List X → List Literal → Circuit → ℕ → List Literal → Circuit → Type 0
MapTurns gate k B xs w0 s i w g = Turns (push_gate gate) (MapShape k B (length w0 + length xs) (s.free + k * length xs)) xs s (map_gates gate xs w0 s) i w g

pub map_loop-start : {X : Type 0} (gate : X → Circuit → Circuit × Literal) (k : ℕ) (B : ℕ → X → Type 0) (f : TotalAssignment → X → Bool) (m : MapsTo gate k B f)
    (xs : List X) (w0 : List Literal) (s : Circuit) → AllByRecursion (B s.free) xs → AllBelow s.free w0 → MapTurns gate k B xs w0 s 0 w0 s
map_loop-start gate k B f m xs w0 s hx hw = Turns-first (push_gate gate) (MapShape k B (length w0 + length xs) (s.free + k * length xs)) xs w0 s (map_gates-first gate k B f m xs w0 s hx hw)

module _ {X : Type 0} (gate : X → Circuit → Circuit × Literal) (k : ℕ) (B : ℕ → X → Type 0) (f : TotalAssignment → X → Bool) (m : MapsTo gate k B f)
    (xs : List X) (w0 : List Literal) (s : Circuit) (n limit : ℕ) (w : List Literal) (i : ℕ) (g : Circuit)
    (turns : Turns (push_gate gate) (MapShape k B n limit) xs s (map_gates gate xs w0 s) i w g) where
  pub map_loop-end : length xs ≤ i → map_gates gate xs w0 s ≡ (g, w)
  map_loop-end h = Turns-end (push_gate gate) (MapShape k B n limit) (push_gate-adds gate k B f m) xs s _ i w g turns h

  pub map_loop-between : StopsWithin s g (map_gates gate xs w0 s).0
  map_loop-between = Turns-between (push_gate gate) (MapShape k B n limit) (push_gate-adds gate k B f m) xs s _ i w g turns

  module _ (x : X) (e : slice_get xs i ≡ Some x) where
    pub map_loop-here : MapShape k B n limit (x ∷ drop (i + 1) xs) g w
    map_loop-here = Turns-here (push_gate gate) (MapShape k B n limit) (push_gate-adds gate k B f m) xs s _ i w g turns x e

    pub map_loop-stops : (new : Circuit) → StopsWithin g new (gate x g).0 → StopsWithin s new (map_gates gate xs w0 s).0
    unfolding push_gate
    map_loop-stops new h =
        Turns-stops (push_gate gate) (MapShape k B n limit) (push_gate-adds gate k B f m) xs s _ i w g turns x e new
        (StopsWithin-here _ _ _ _ h (λ l u. BeginsWith-refl u.clauses))

    pub map_loop-next : (t : Circuit) (l : Literal) → gate x g ≡ (t, l) → Turns (push_gate gate) (MapShape k B n limit) xs s (map_gates gate xs w0 s) (i + 1) (w ++ l ∷ []) t
    unfolding push_gate after
    map_loop-next t l h =
        Turns-next (push_gate gate) (MapShape k B n limit) (push_gate-adds gate k B f m) xs s _ i w g turns x e t (w ++ l ∷ [])
        (ap (λ (z : Circuit × Literal). (z.0, w ++ z.1 ∷ [])) h)
        (push_gate-turn gate k B f m n limit (λ v. []) x (drop (i + 1) xs) w g map_loop-here).shape
