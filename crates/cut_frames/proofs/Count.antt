-- How many patterns of n truth values pass a test.
use Rattle.std.proofs.Common.{◌≡◌, ◌≤◌, ◌<◌, ℕ, zero, suc, ◌+◌, ◌^◌, Bool, true, false, List, [], ◌∷◌, refl, sym, ◌∙◌, arith, length, ◌⊎◌, inl, inr}
use Rattle.std.proofs.lemmas.Bool.{cases_lt}
use Rattle.cut_frames.specs.StatesLeft.{one_if, count}

pub twice : (n : ℕ) → 2 ^ suc n ≡ 2 ^ n + 2 ^ n
twice n = grind arith

one_if_bound : (b : Bool) → one_if b ≤ 1
one_if_bound true = omega arith
one_if_bound false = omega arith

pub count_bound : (n : ℕ) (p : List Bool → Bool) → count n p ≤ 2 ^ n
count_bound zero p = one_if_bound (p [])
count_bound (suc n) p =
    let a = count_bound n (λ s. p (true ∷ s)) in
    let b = count_bound n (λ s. p (false ∷ s)) in
    let c = twice n in
    omega (arith, a, b, c)

-- each pattern of n values that passes p passes q
abbrev pub Within : ℕ → (List Bool → Bool) → (List Bool → Bool) → Type 0
Within n p q = (s : List Bool) → length s ≡ n → p s ≡ true → q s ≡ true

longer : (n : ℕ) (b : Bool) (s : List Bool) → length s ≡ n → length (b ∷ s) ≡ suc n
longer n b s e = grind arith

within_cons : (n : ℕ) (b : Bool) (p q : List Bool → Bool) → Within (suc n) p q → Within n (λ s. p (b ∷ s)) (λ s. q (b ∷ s))
within_cons n b p q w = λ s e t. w (b ∷ s) (longer n b s e) t

one_if_mono : (a b : Bool) → (a ≡ true → b ≡ true) → one_if a ≤ one_if b
one_if_mono true true f = omega arith
one_if_mono true false f = let e : false ≡ true = f refl in cc
one_if_mono false b f = omega arith

pub count_mono : (n : ℕ) (p q : List Bool → Bool) → Within n p q → count n p ≤ count n q
count_mono zero p q w = one_if_mono (p []) (q []) (w [] refl)
count_mono (suc n) p q w =
    let a = count_mono n (λ s. p (true ∷ s)) (λ s. q (true ∷ s)) (within_cons n true p q w) in
    let b = count_mono n (λ s. p (false ∷ s)) (λ s. q (false ∷ s)) (within_cons n false p q w) in
    omega (arith, a, b)

one_if_back : (a b : Bool) → one_if b ≤ one_if a → b ≡ true → a ≡ true
one_if_back true b l e = refl
one_if_back false true l e = let no : 1 ≤ 0 = l in absurd (omega (arith, no))
one_if_back false false l e = cc

empty_length : (n : ℕ) → length {A = Bool} [] ≡ suc n → ⊥
empty_length n e = omega (arith, e)

shorter : (n : ℕ) (b : Bool) (s : List Bool) → length (b ∷ s) ≡ suc n → length s ≡ n
shorter n b s e = grind arith

-- where no more pass q than p, the two tests are one
pub count_back : (n : ℕ) (p q : List Bool → Bool) → Within n p q → count n q ≤ count n p → Within n q p
count_back zero p q w l = λ s e t. by_list s e t
  where
    by_list : (s : List Bool) → length s ≡ zero → q s ≡ true → p s ≡ true
    by_list [] e t = one_if_back (p []) (q []) l t
    by_list (b ∷ s) e t = absurd (no b s e)
      where
        no : (b : Bool) (s : List Bool) → length (b ∷ s) ≡ zero → ⊥
        no b s e = grind arith
count_back (suc n) p q w l =
    let wt = within_cons n true p q w in
    let wf = within_cons n false p q w in
    let mt = count_mono n (λ s. p (true ∷ s)) (λ s. q (true ∷ s)) wt in
    let mf = count_mono n (λ s. p (false ∷ s)) (λ s. q (false ∷ s)) wf in
    let lt : count n (λ s. q (true ∷ s)) ≤ count n (λ s. p (true ∷ s)) = omega (arith, mt, mf, l) in
    let lf : count n (λ s. q (false ∷ s)) ≤ count n (λ s. p (false ∷ s)) = omega (arith, mt, mf, l) in
    let bt = count_back n (λ s. p (true ∷ s)) (λ s. q (true ∷ s)) wt lt in
    let bf = count_back n (λ s. p (false ∷ s)) (λ s. q (false ∷ s)) wf lf in
    λ s e t. by_list bt bf s e t
  where
    by_list : Within n (λ s. q (true ∷ s)) (λ s. p (true ∷ s)) → Within n (λ s. q (false ∷ s)) (λ s. p (false ∷ s)) →
        (s : List Bool) → length s ≡ suc n → q s ≡ true → p s ≡ true
    by_list bt bf [] e t = absurd (empty_length n e)
    by_list bt bf (true ∷ s) e t = bt s (shorter n true s e) t
    by_list bt bf (false ∷ s) e t = bf s (shorter n false s e) t

-- a test that one pattern less passes has a smaller count
pub count_less : (n : ℕ) (p q : List Bool → Bool) (s : List Bool) → Within n p q → length s ≡ n → q s ≡ true → p s ≡ false → count n p < count n q
count_less n p q s w e hit miss = by_order (cases_lt (count n p) (count n q))
  where
    by_order : (count n p < count n q) ⊎ (count n q ≤ count n p) → count n p < count n q
    by_order (inr l) = let t : p s ≡ true = count_back n p q w l s e hit in let f : true ≡ false = sym t ∙ miss in cc
    by_order (inl l) = l
