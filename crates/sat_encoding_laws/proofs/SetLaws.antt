-- Which sets contain which, and the order of sets.
use Rattle.std.proofs.Common.{◌≡◌, ℕ, ◌<◌, ◌≤◌, nat_eq, nat_lt, Bool, true, false, List, [], ◌∷◌, length, refl, sym, ◌∙◌, subst, arith, ◌⊎◌, inl, inr, eq-eqb, eqb-true, lt-ltb, ltb-true}
use Rattle.smv_language.specs.Trace.{Each}
use Rattle.std.specs.Prelude.{Contains, if◌then◌else◌}
use Rattle.std.proofs.lemmas.Bool.{cases_eq, cases_lt, or_left, or_right, and_parts, and_from as and_both}
use Rattle.cut_right_laws.specs.Sets.{has_number, is_contained, is_before_in_order, stands_before}
use Rattle.smv_language.proofs.BoolLaws.{or_cases, not_both}
use Rattle.smv_language.proofs.ListLaws.{contains_later, contains_cases}
use Rattle.base_values.proofs.ListLaws.{none_contained, contains_here}

-- what follows from each of two follows from either
pub either_of : {A B C : Type 0} → (A → C) → (B → C) → A ⊎ B → C
either_of f g (inl a) = f a
either_of f g (inr b) = g b

pub true_or_false : (b : Bool) → (b ≡ true) ⊎ (b ≡ false)
true_or_false true = inl refl
true_or_false false = inr refl

pub has_contains : (set : List ℕ) (i : ℕ) → has_number set i ≡ true → Contains set i
has_contains [] i h = cc
has_contains (j ∷ js) i h =
    either_of (λ e. subst (λ k. Contains (j ∷ js) k) (eqb-true j i e) (contains_here j js)) (λ g. contains_later i j js (has_contains js i g)) (or_cases (nat_eq j i) (has_number js i) h)

pub contains_has : (set : List ℕ) (i : ℕ) → Contains set i → has_number set i ≡ true
contains_has [] i m = absurd (none_contained i m)
contains_has (j ∷ js) i m =
    either_of (λ e. or_left (nat_eq j i) (has_number js i) (eq-eqb j i e)) (λ g. or_right (nat_eq j i) (has_number js i) (contains_has js i g)) (contains_cases i j js m)

pub has_first : (i : ℕ) (is : List ℕ) → has_number (i ∷ is) i ≡ true
has_first i is = or_left (nat_eq i i) (has_number is i) (eq-eqb i i refl)

pub has_later : (i j : ℕ) (is : List ℕ) → has_number is j ≡ true → has_number (i ∷ is) j ≡ true
has_later i j is h = or_right (nat_eq i j) (has_number is j) h

pub contained_has : (s t : List ℕ) (i : ℕ) → is_contained s t ≡ true → has_number s i ≡ true → has_number t i ≡ true
contained_has [] t i h g = cc
contained_has (j ∷ js) t i h g =
    let parts : (has_number t j ≡ true) × (is_contained js t ≡ true) = and_parts (has_number t j) (is_contained js t) h in
    either_of (λ e. subst (λ k. has_number t k ≡ true) (eqb-true j i e) parts.0) (λ more. contained_has js t i parts.1 more) (or_cases (nat_eq j i) (has_number js i) g)

pub contained_from : (s t : List ℕ) → ((i : ℕ) → has_number s i ≡ true → has_number t i ≡ true) → is_contained s t ≡ true
contained_from [] t f = refl
contained_from (j ∷ js) t f = and_both (has_number t j) (is_contained js t) (f j (has_first j js)) (contained_from js t (λ i h. f i (has_later j i js h)))

pub contained_in_itself : (s : List ℕ) → is_contained s s ≡ true
contained_in_itself s = contained_from s s (λ i h. h)

pub contained_through : (s t u : List ℕ) → is_contained s t ≡ true → is_contained t u ≡ true → is_contained s u ≡ true
contained_through s t u h g = contained_from s u (λ i e. contained_has t u i g (contained_has s t i h e))

-- The order.
order_split : (i j : ℕ) (is js : List ℕ) → is_before_in_order (i ∷ is) (j ∷ js) ≡ true → (i < j) ⊎ ((i ≡ j) × (is_before_in_order is js ≡ true))
order_split i j is js h = by_test (nat_eq i j) refl h
  where
    by_test : (b : Bool) → nat_eq i j ≡ b → (if b then is_before_in_order is js else nat_lt i j) ≡ true → (i < j) ⊎ ((i ≡ j) × (is_before_in_order is js ≡ true))
    by_test true e g = inr (eqb-true i j e, g)
    by_test false e g = inl (ltb-true i j g)

order_less : (i j : ℕ) (is js : List ℕ) → i < j → is_before_in_order (i ∷ is) (j ∷ js) ≡ true
order_less i j is js h = by_test (nat_eq i j) refl
  where
    by_test : (b : Bool) → nat_eq i j ≡ b → (if b then is_before_in_order is js else nat_lt i j) ≡ true
    by_test true e = let same : i ≡ j = eqb-true i j e in absurd (omega (arith, same, h))
    by_test false e = lt-ltb i j h

order_same : (i j : ℕ) (is js : List ℕ) → i ≡ j → is_before_in_order is js ≡ true → is_before_in_order (i ∷ is) (j ∷ js) ≡ true
order_same i j is js e h = rw (eq-eqb i j e) h

pub order_through : (s t u : List ℕ) → is_before_in_order s t ≡ true → is_before_in_order t u ≡ true → is_before_in_order s u ≡ true
order_through s t [] h g = cc
order_through s [] (k ∷ ks) h g = cc
order_through [] (j ∷ js) (k ∷ ks) h g = refl
order_through (i ∷ is) (j ∷ js) (k ∷ ks) h g = by_cases (λ a b. order_through is js ks a b) (order_split i j is js h) (order_split j k js ks g)
  where
    by_cases : (is_before_in_order is js ≡ true → is_before_in_order js ks ≡ true → is_before_in_order is ks ≡ true) →
        (i < j) ⊎ ((i ≡ j) × (is_before_in_order is js ≡ true)) → (j < k) ⊎ ((j ≡ k) × (is_before_in_order js ks ≡ true)) → is_before_in_order (i ∷ is) (k ∷ ks) ≡ true
    by_cases more (inl a) (inl b) = order_less i k is ks (omega (arith, a, b))
    by_cases more (inl a) (inr b) = let e : j ≡ k = b.0 in order_less i k is ks (omega (arith, a, e))
    by_cases more (inr a) (inl b) = let e : i ≡ j = a.0 in order_less i k is ks (omega (arith, e, b))
    by_cases more (inr a) (inr b) = order_same i k is ks (a.0 ∙ b.0) (more a.1 b.1)

-- of two different lists one comes first
pub order_either : (s t : List ℕ) → (is_before_in_order s t ≡ true) ⊎ ((s ≡ t) ⊎ (is_before_in_order t s ≡ true))
order_either [] [] = inr (inl refl)
order_either [] (j ∷ js) = inl refl
order_either (i ∷ is) [] = inr (inr refl)
order_either (i ∷ is) (j ∷ js) = by_order (cases_eq i j) (order_either is js)
  where
    unequal : (i ≡ j → ⊥) → (i < j) ⊎ (j ≤ i) → (is_before_in_order (i ∷ is) (j ∷ js) ≡ true) ⊎ (((i ∷ is) ≡ (j ∷ js)) ⊎ (is_before_in_order (j ∷ js) (i ∷ is) ≡ true))
    unequal n (inl h) = inl (order_less i j is js h)
    unequal n (inr h) = inr (inr (order_less j i js is (strict i j n h)))
      where
        strict : (i j : ℕ) → (i ≡ j → ⊥) → j ≤ i → j < i
        strict i j n h = grind (arith, n, h)

    equal : i ≡ j → (is_before_in_order is js ≡ true) ⊎ ((is ≡ js) ⊎ (is_before_in_order js is ≡ true)) →
        (is_before_in_order (i ∷ is) (j ∷ js) ≡ true) ⊎ (((i ∷ is) ≡ (j ∷ js)) ⊎ (is_before_in_order (j ∷ js) (i ∷ is) ≡ true))
    equal e (inl h) = inl (order_same i j is js e h)
    equal e (inr (inl h)) = inr (inl (same i j is js e h))
      where
        same : (i j : ℕ) (is js : List ℕ) → i ≡ j → is ≡ js → (i ∷ is) ≡ (j ∷ js)
        same i j is js e h = cc
    equal e (inr (inr h)) = inr (inr (order_same j i js is (sym e) h))

    by_order : (i ≡ j) ⊎ (i ≡ j → ⊥) → (is_before_in_order is js ≡ true) ⊎ ((is ≡ js) ⊎ (is_before_in_order js is ≡ true)) →
        (is_before_in_order (i ∷ is) (j ∷ js) ≡ true) ⊎ (((i ∷ is) ≡ (j ∷ js)) ⊎ (is_before_in_order (j ∷ js) (i ∷ is) ≡ true))
    by_order (inl e) r = equal e r
    by_order (inr n) r = unequal n (cases_lt i j)

before_split : (s t : List ℕ) → stands_before s t ≡ true → (length s < length t) ⊎ ((length s ≡ length t) × (is_before_in_order s t ≡ true))
before_split s t h = by_test (nat_eq (length s) (length t)) refl h
  where
    by_test : (b : Bool) → nat_eq (length s) (length t) ≡ b → (if b then is_before_in_order s t else nat_lt (length s) (length t)) ≡ true →
        (length s < length t) ⊎ ((length s ≡ length t) × (is_before_in_order s t ≡ true))
    by_test true e g = inr (eqb-true (length s) (length t) e, g)
    by_test false e g = inl (ltb-true (length s) (length t) g)

before_shorter : (s t : List ℕ) → length s < length t → stands_before s t ≡ true
before_shorter s t h = by_test (nat_eq (length s) (length t)) refl
  where
    no : (m n : ℕ) → m ≡ n → m < n → ⊥
    no m n e l = omega (arith, e, l)

    by_test : (b : Bool) → nat_eq (length s) (length t) ≡ b → (if b then is_before_in_order s t else nat_lt (length s) (length t)) ≡ true
    by_test true e = absurd (no (length s) (length t) (eqb-true (length s) (length t) e) h)
    by_test false e = lt-ltb (length s) (length t) h

before_same : (s t : List ℕ) → length s ≡ length t → is_before_in_order s t ≡ true → stands_before s t ≡ true
before_same s t e h = rw (eq-eqb (length s) (length t) e) h

pub before_through : (s t u : List ℕ) → stands_before s t ≡ true → stands_before t u ≡ true → stands_before s u ≡ true
before_through s t u h g = by_cases (before_split s t h) (before_split t u g)
  where
    less : (l m n : ℕ) → l < m → m < n → l < n
    less l m n a b = omega (arith, a, b)

    by_cases : (length s < length t) ⊎ ((length s ≡ length t) × (is_before_in_order s t ≡ true)) →
        (length t < length u) ⊎ ((length t ≡ length u) × (is_before_in_order t u ≡ true)) → stands_before s u ≡ true
    by_cases (inl a) (inl b) = before_shorter s u (less (length s) (length t) (length u) a b)
    by_cases (inl a) (inr b) = before_shorter s u (subst (λ n. length s < n) b.0 a)
    by_cases (inr a) (inl b) = before_shorter s u (subst (λ n. n < length u) (sym a.0) b)
    by_cases (inr a) (inr b) = before_same s u (a.0 ∙ b.0) (order_through s t u a.1 b.1)

-- of two different sets one stands before the other
pub before_either : (s t : List ℕ) → stands_before s t ≡ false → (s ≡ t → ⊥) → stands_before t s ≡ true
before_either s t h n = by_size (cases_eq (length s) (length t))
  where
    by_order : length s ≡ length t → (is_before_in_order s t ≡ true) ⊎ ((s ≡ t) ⊎ (is_before_in_order t s ≡ true)) → stands_before t s ≡ true
    by_order e (inl o) = absurd (not_both (stands_before s t) (before_same s t e o) h)
    by_order e (inr (inl o)) = absurd (n o)
    by_order e (inr (inr o)) = before_same t s (sym e) o

    strict : (m n : ℕ) → (m ≡ n → ⊥) → n ≤ m → n < m
    strict m n e l = grind (arith, e, l)

    by_length : (length s ≡ length t → ⊥) → (length s < length t) ⊎ (length t ≤ length s) → stands_before t s ≡ true
    by_length e (inl l) = absurd (not_both (stands_before s t) (before_shorter s t l) h)
    by_length e (inr l) = before_shorter t s (strict (length s) (length t) e l)

    by_size : (length s ≡ length t) ⊎ (length s ≡ length t → ⊥) → stands_before t s ≡ true
    by_size (inl e) = by_order e (order_either s t)
    by_size (inr e) = by_length e (cases_lt (length s) (length t))

-- What holds of each member.
pub each_kept : {A : Type 0} (P Q : A → Type 0) → ((x : A) → P x → Q x) → (xs : List A) → Each P xs → Each Q xs
each_kept P Q f [] h = tt
each_kept P Q f (x ∷ xs) h = (f x h.0, each_kept P Q f xs h.1)
