-- The numbers of the members of a list that pass a test: a rising list, which has exactly these.
use Rattle.std.proofs.Common.{◌≡◌, ◌≢◌, ℕ, zero, suc, ◌+◌, ◌-◌, ◌<◌, ◌≤◌, nat_eq, Bool, true, false, ◌||◌, List, [], ◌∷◌, length, Some, refl, sym, ap, ◌∙◌, subst, arith, ◌⊎◌, inl, inr, eqb-true}
use Rattle.std.specs.Prelude.{slice_get, slice_index_or, cond, if◌then◌else◌, filter}
use Rattle.smv_language.specs.Trace.{Each}
use Rattle.cut_right_laws.specs.Sets.{IsRising, has_number}
use Rattle.sat_encoding_laws.specs.FlatTraces.{numbers_where}
use Rattle.sat_encoding_laws.proofs.SetLaws.{either_of, has_first, has_later}
use Rattle.sat_encoding_laws.proofs.SetLaws.{each_kept}
use Rattle.std.proofs.lemmas.Bool.{or_left, or_right, false_from_ne_true as refuted}
use Rattle.smv_language.proofs.BoolLaws.{or_cases}

module _ {A : Type 0} (test : A → Bool) where
  -- there are as many of them as members that pass
  pub count_where : (k : ℕ) (xs : List A) → length (filter test xs) ≡ length (numbers_where test k xs)
  count_where k [] = refl
  count_where k (x ∷ xs) = by_test (test x) (count_where (suc k) xs)
    where
      by_test : (b : Bool) → length (filter test xs) ≡ length (numbers_where test (suc k) xs) →
          length (cond b (x ∷ filter test xs) (filter test xs)) ≡ length (if b then k ∷ numbers_where test (suc k) xs else numbers_where test (suc k) xs)
      by_test true h = ap suc h
      by_test false h = h

  -- each is at least the first, and at most the last
  pub where_within : (k : ℕ) (xs : List A) → Each (λ i. (k ≤ i) × (i < k + length xs)) (numbers_where test k xs)
  where_within k [] = tt
  where_within k (x ∷ xs) = by_test (test x) (each_kept (λ i. (suc k ≤ i) × (i < suc k + length xs)) (λ i. (k ≤ i) × (i < k + length (x ∷ xs))) wider (numbers_where test (suc k) xs) (where_within (suc k) xs))
    where
      wider : (i : ℕ) → (suc k ≤ i) × (i < suc k + length xs) → (k ≤ i) × (i < k + length (x ∷ xs))
      wider i h = let a : suc k ≤ i = h.0 in let b : i < suc k + length xs = h.1 in (omega (arith, a), omega (arith, b))

      by_test : (b : Bool) → Each (λ i. (k ≤ i) × (i < k + length (x ∷ xs))) (numbers_where test (suc k) xs) →
          Each (λ i. (k ≤ i) × (i < k + length (x ∷ xs))) (if b then k ∷ numbers_where test (suc k) xs else numbers_where test (suc k) xs)
      by_test true h = ((omega arith, omega arith), h)
      by_test false h = h

rising_first : (n : ℕ) (xs : List ℕ) → Each (λ i. n < i) xs → IsRising xs → IsRising (n ∷ xs)
rising_first n [] h r = tt
rising_first n (x ∷ xs) h r = (h.0, r)

-- a number of a list of which each has a property has it
pub each_has : (P : ℕ → Type 0) (xs : List ℕ) (i : ℕ) → Each P xs → has_number xs i ≡ true → P i
each_has P [] i h e = cc
each_has P (x ∷ xs) i h e = either_of (λ f. subst P (eqb-true x i f) h.0) (λ g. each_has P xs i h.1 g) (or_cases (nat_eq x i) (has_number xs i) e)

module _ {A : Type 0} (test : A → Bool) where
  pub where_rising : (k : ℕ) (xs : List A) → IsRising (numbers_where test k xs)
  where_rising k [] = tt
  where_rising k (x ∷ xs) = by_test (test x) (where_rising (suc k) xs)
    where
      above : Each (λ i. k < i) (numbers_where test (suc k) xs)
      above = each_kept (λ i. (suc k ≤ i) × (i < suc k + length xs)) (λ i. k < i) (λ i h. more i h.0) (numbers_where test (suc k) xs) (where_within test (suc k) xs)
        where
          more : (i : ℕ) → suc k ≤ i → k < i
          more i a = omega (arith, a)

      by_test : (b : Bool) → IsRising (numbers_where test (suc k) xs) → IsRising (if b then k ∷ numbers_where test (suc k) xs else numbers_where test (suc k) xs)
      by_test true h = rising_first k (numbers_where test (suc k) xs) above h
      by_test false h = h

  -- the first number is none of the later ones
  first_is_gone : (k : ℕ) (xs : List A) → has_number (numbers_where test (suc k) xs) k ≡ false
  first_is_gone k xs = refuted (has_number (numbers_where test (suc k) xs) k) (λ h. no (each_has (λ i. (suc k ≤ i) × (i < suc k + length xs)) (numbers_where test (suc k) xs) k (where_within test (suc k) xs) h).0)
    where
      no : suc k ≤ k → ⊥
      no h = omega (arith, h)

  -- the number of a place is one of them exactly where the member there passes
  pub where_has : (d : A) (k : ℕ) (xs : List A) (j : ℕ) → j < length xs → has_number (numbers_where test k xs) (k + j) ≡ test (slice_index_or xs j d)
  where_has d k [] j h = absurd (omega (arith, h))
  where_has d k (x ∷ xs) zero h = by_test (test x) refl
    where
      same : k + 0 ≡ k
      same = omega arith

      by_test : (b : Bool) → test x ≡ b → has_number (if b then k ∷ numbers_where test (suc k) xs else numbers_where test (suc k) xs) (k + 0) ≡ b
      by_test true e = subst (λ i. has_number (k ∷ numbers_where test (suc k) xs) i ≡ true) (sym same) (has_first k (numbers_where test (suc k) xs))
      by_test false e = subst (λ i. has_number (numbers_where test (suc k) xs) i ≡ false) (sym same) (first_is_gone k xs)
  where_has d k (x ∷ xs) (suc j) h = by_test (test x) (subst (λ i. has_number (numbers_where test (suc k) xs) i ≡ test (slice_index_or xs j d)) moved (where_has d (suc k) xs j (omega (arith, h))))
    where
      moved : suc k + j ≡ k + suc j
      moved = omega arith

      other : nat_eq k (k + suc j) ≡ false
      other = refuted (nat_eq k (k + suc j)) (λ e. no (eqb-true k (k + suc j) e))
        where
          no : k ≡ k + suc j → ⊥
          no e = omega (arith, e)

      by_test : (b : Bool) → has_number (numbers_where test (suc k) xs) (k + suc j) ≡ test (slice_index_or xs j d) →
          has_number (if b then k ∷ numbers_where test (suc k) xs else numbers_where test (suc k) xs) (k + suc j) ≡ test (slice_index_or xs j d)
      by_test true g = rw other g
      by_test false g = g

  -- a number that is among them is that of a member that passes
  pub where_from : (k : ℕ) (xs : List A) (i : ℕ) → has_number (numbers_where test k xs) i ≡ true → (x : A) × (k ≤ i) × (slice_get xs (i - k) ≡ Some x) × (test x ≡ true)
  where_from k [] i h = cc
  where_from k (x ∷ xs) i h = by_test (test x) refl h (λ g. further (where_from (suc k) xs i g))
    where
      further : ((y : A) × (suc k ≤ i) × (slice_get xs (i - suc k) ≡ Some y) × (test y ≡ true)) → (y : A) × (k ≤ i) × (slice_get (x ∷ xs) (i - k) ≡ Some y) × (test y ≡ true)
      further f = (f.0, below f.1, subst (λ n. slice_get (x ∷ xs) n ≡ Some f.0) (sym (moved f.1)) f.2, f.3)
        where
          below : suc k ≤ i → k ≤ i
          below a = omega (arith, a)

          moved : suc k ≤ i → i - k ≡ suc (i - suc k)
          moved a = omega (arith, a)

      at_first : test x ≡ true → k ≡ i → (y : A) × (k ≤ i) × (slice_get (x ∷ xs) (i - k) ≡ Some y) × (test y ≡ true)
      at_first e f = (x, omega (arith, f), subst (λ n. slice_get (x ∷ xs) n ≡ Some x) (none f) refl, e)
        where
          none : k ≡ i → 0 ≡ i - k
          none f = omega (arith, f)

      by_test : (b : Bool) → test x ≡ b → has_number (if b then k ∷ numbers_where test (suc k) xs else numbers_where test (suc k) xs) i ≡ true →
          (has_number (numbers_where test (suc k) xs) i ≡ true → (y : A) × (k ≤ i) × (slice_get (x ∷ xs) (i - k) ≡ Some y) × (test y ≡ true)) →
          (y : A) × (k ≤ i) × (slice_get (x ∷ xs) (i - k) ≡ Some y) × (test y ≡ true)
      by_test true e g more = either_of (λ f. at_first e (eqb-true k i f)) more (or_cases (nat_eq k i) (has_number (numbers_where test (suc k) xs) i) g)
      by_test false e g more = more g

  -- and the number of a member that passes is among them
  pub where_to : (k : ℕ) (xs : List A) (j : ℕ) (x : A) → slice_get xs j ≡ Some x → test x ≡ true → has_number (numbers_where test k xs) (k + j) ≡ true
  where_to k xs j x e h = let at : (j < length xs) × (slice_index_or xs j x ≡ x) = got xs j x e in where_has x k xs j at.0 ∙ ap test at.1 ∙ h
    where
      got : (xs : List A) (j : ℕ) (x : A) → slice_get xs j ≡ Some x → (j < length xs) × (slice_index_or xs j x ≡ x)
      got [] j x e = cc
      got (y ∷ xs) zero x e = (omega arith, some_same y x e)
        where
          some_same : (y x : A) → Some y ≡ Some x → y ≡ x
          some_same y x e = cc
      got (y ∷ xs) (suc j) x e = let h : (j < length xs) × (slice_index_or xs j x ≡ x) = got xs j x e in (longer h.0, h.1)
        where
          longer : j < length xs → suc j < length (y ∷ xs)
          longer l = grind (arith, l)

-- A rising list within a list is no longer.
abbrev removed : ℕ → List ℕ → List ℕ
removed i [] = []
removed i (j ∷ js) = if nat_eq j i then js else j ∷ removed i js

length_removed : (i : ℕ) (xs : List ℕ) → has_number xs i ≡ true → suc (length (removed i xs)) ≡ length xs
length_removed i [] h = cc
length_removed i (j ∷ js) h = by_test (nat_eq j i) h (λ g. length_removed i js g)
  where
    by_test : (b : Bool) → (b || has_number js i) ≡ true → (has_number js i ≡ true → suc (length (removed i js)) ≡ length js) → suc (length (if b then js else j ∷ removed i js)) ≡ length (j ∷ js)
    by_test true g more = refl
    by_test false g more = ap suc (more g)

has_removed : (i k : ℕ) (xs : List ℕ) → i ≢ k → has_number xs k ≡ true → has_number (removed i xs) k ≡ true
has_removed i k [] n h = h
has_removed i k (j ∷ js) n h = by_test (nat_eq j i) refl (or_cases (nat_eq j k) (has_number js k) h) (λ g. has_removed i k js n g)
  where
    by_test : (b : Bool) → nat_eq j i ≡ b → (nat_eq j k ≡ true) ⊎ (has_number js k ≡ true) → (has_number js k ≡ true → has_number (removed i js) k ≡ true) →
        has_number (if b then js else j ∷ removed i js) k ≡ true
    by_test true e (inl f) more = absurd (n (sym (eqb-true j i e) ∙ eqb-true j k f))
    by_test true e (inr g) more = g
    by_test false e (inl f) more = or_left (nat_eq j k) (has_number (removed i js) k) f
    by_test false e (inr g) more = or_right (nat_eq j k) (has_number (removed i js) k) (more g)

pub rising_rest : (i : ℕ) (xs : List ℕ) → IsRising (i ∷ xs) → IsRising xs
rising_rest i [] r = tt
rising_rest i (j ∷ js) r = r.1

pub rising_above : (i k : ℕ) (xs : List ℕ) → IsRising (i ∷ xs) → has_number xs k ≡ true → i < k
rising_above i k [] r h = cc
rising_above i k (j ∷ js) r h = either_of (λ e. subst (λ x. i < x) (eqb-true j k e) r.0) (λ g. through r.0 (rising_above j k js r.1 g)) (or_cases (nat_eq j k) (has_number js k) h)
  where
    through : i < j → j < k → i < k
    through a b = omega (arith, a, b)

pub no_more_numbers : (s numbers : List ℕ) → IsRising s → ((i : ℕ) → has_number s i ≡ true → has_number numbers i ≡ true) → length s ≤ length numbers
no_more_numbers [] numbers r f = omega arith
no_more_numbers (i ∷ s) numbers r f =
    let rest : length s ≤ length (removed i numbers) =
    no_more_numbers s (removed i numbers) (rising_rest i s r) (λ k h. has_removed i k numbers (different k (rising_above i k s r h)) (f k (has_later i k s h))) in
    counted (length s) (length (removed i numbers)) (length numbers) rest (length_removed i numbers (f i (has_first i s)))
  where
    different : (k : ℕ) → i < k → i ≢ k
    different k l = λ e. absurd (omega (arith, l, e))

    counted : (a b c : ℕ) → a ≤ b → suc b ≡ c → suc a ≤ c
    counted a b c l e = omega (arith, l, e)
