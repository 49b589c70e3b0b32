-- The bits of a longer range, and values as definitions see them.
use Rattle.std.proofs.Common.{◌≡◌, ℕ, zero, suc, ◌+◌, Bool, true, false, List, [], ◌∷◌, ◌++◌, length, refl, ap, ◌∙◌, arith}
use Rattle.std.specs.Prelude.{if◌then◌else◌}
use Rattle.std.specs.List.{range_with_len}
use Rattle.std.proofs.lemmas.List.FromFn.{length-range_with_len}
use Rattle.smv_language.specs.ProgramTree.{Text}
use Rattle.base_values.specs.declared.value.Value.{Value}
use Rattle.base_values.specs.declared.value.Value.TheVariants as value
use Rattle.sat_encoding_laws.specs.FlatTraces.{numbers_where}
use Rattle.sat_encoding_laws.specs.Encodings.{is_true_at}
use Rattle.cut_search.specs.Values.{values_of}
use Rattle.cut_search.specs.Bits.{is_set_at, bits_set}

range_more : (a n : ℕ) → range_with_len a (suc n) ≡ range_with_len a n ++ (a + n) ∷ []
range_more a zero = ap (λ x. x ∷ []) (none a)
  where
    none : (a : ℕ) → a ≡ a + 0
    none a = omega arith
range_more a (suc n) = ap (λ more. a ∷ more) (range_more (a + 1) n ∙ ap (λ x. range_with_len (a + 1) n ++ x ∷ []) (moved a n))
  where
    moved : (a n : ℕ) → a + 1 + n ≡ a + suc n
    moved a n = omega arith

where_more : {A : Type 0} (test : A → Bool) (k : ℕ) (xs : List A) (x : A) → numbers_where test k (xs ++ x ∷ []) ≡ numbers_where test k xs ++ (if test x then (k + length xs) ∷ [] else [])
where_more test k [] x = by_test (test x)
  where
    by_test : (b : Bool) → (if b then k ∷ [] else []) ≡ (if b then (k + 0) ∷ [] else [])
    by_test true = ap (λ n. n ∷ []) (none k)
      where
        none : (a : ℕ) → a ≡ a + 0
        none a = omega arith
    by_test false = refl
where_more test k (y ∷ xs) x = by_test (test y) (where_more test (suc k) xs x ∙ ap (λ n. numbers_where test (suc k) xs ++ (if test x then n ∷ [] else [])) (moved k (length xs)))
  where
    moved : (k n : ℕ) → suc k + n ≡ k + suc n
    moved k n = omega arith

    by_test : (b : Bool) → numbers_where test (suc k) (xs ++ x ∷ []) ≡ numbers_where test (suc k) xs ++ (if test x then (k + suc (length xs)) ∷ [] else []) →
        (if b then k ∷ numbers_where test (suc k) (xs ++ x ∷ []) else numbers_where test (suc k) (xs ++ x ∷ []))
        ≡ (if b then k ∷ numbers_where test (suc k) xs else numbers_where test (suc k) xs) ++ (if test x then (k + suc (length xs)) ∷ [] else [])
    by_test true h = ap (λ more. k ∷ more) h
    by_test false h = h

-- one bit more
pub bits_more : (v : List Value) (first i : ℕ) → bits_set v first (i + 1) ≡ bits_set v first i ++ (if is_set_at v (first + i) then (i + 1) ∷ [] else [])
bits_more v first i =
    ap (λ n. numbers_where (is_set_at v) 1 (range_with_len first n)) (plus i)
    ∙ ap (λ xs. numbers_where (is_set_at v) 1 xs) (range_more first i)
    ∙ where_more (is_set_at v) 1 (range_with_len first i) (first + i)
    ∙ ap (λ n. bits_set v first i ++ (if is_set_at v (first + i) then n ∷ [] else [])) (ap (λ n. 1 + n) (length-range_with_len first i) ∙ swap i)
  where
    plus : (i : ℕ) → i + 1 ≡ suc i
    plus i = omega arith

    swap : (i : ℕ) → 1 + i ≡ i + 1
    swap i = omega arith

-- A value is TRUE exactly where it is read as TRUE.
pub set_is_true : (symbols : List Text) (v : List Value) (n : ℕ) → is_true_at (values_of symbols v) n ≡ is_set_at v n
set_is_true symbols [] n = refl
set_is_true symbols (value.Bool b ∷ v) zero = refl
set_is_true symbols (value.Num k ∷ v) zero = refl
set_is_true symbols (value.Sym k ∷ v) zero = refl
set_is_true symbols (x ∷ v) (suc n) = set_is_true symbols v n
