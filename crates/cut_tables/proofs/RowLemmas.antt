-- Steps of the loops that count rows.
use Rattle.std.proofs.Common.{◌≡◌, ℕ, zero, suc, ◌+◌, ◌-◌, ◌<◌, ◌≤◌, List, [], ◌∷◌, ◌++◌, ap, subst, sym, ◌∙◌, arith}
use Rattle.std.proofs.lemmas.List.{append_assoc}
use Rattle.std.specs.Prelude.{map}
use Rattle.std.specs.List.{range_with_len}
use Rattle.cut_tables.specs.Tables.{pairs_from}

-- what is appended next is the first of what is left
pub step : {A : Type 0} (rows whole left rest : List A) (x : A) → rows ++ left ≡ whole → left ≡ x ∷ rest → (rows ++ x ∷ []) ++ rest ≡ whole
step rows whole left rest x h e = append_assoc rows (x ∷ []) rest ∙ (ap (λ l. rows ++ l) (sym e) ∙ h)

before : (n : ℕ) → suc n - 1 ≡ n
before n = omega arith

-- the faults of which so many are left, by their numbers
abbrev pub numbers_left : ℕ → ℕ → List ℕ
numbers_left faults left = range_with_len (faults - left + 1) left

pub left_more : (faults left : ℕ) → 0 < left → left ≤ faults → numbers_left faults left ≡ (faults - (left - 1)) ∷ numbers_left faults (left - 1)
left_more faults zero p h = absurd (omega (arith, p))
left_more faults (suc n) p h =
    subst (λ m. numbers_left faults (suc n) ≡ (faults - m) ∷ numbers_left faults m) (sym (before n))
    (ap (λ k. range_with_len k (suc n)) (here faults n h))
  where
    here : (faults n : ℕ) → suc n ≤ faults → faults - suc n + 1 ≡ faults - n
    here faults n h = omega (arith, h)

-- the sets of one fault each that are left
abbrev pub singles_left : ℕ → ℕ → List (List ℕ)
singles_left faults left = map (λ i. i ∷ []) (numbers_left faults left)

pub singles_more : (faults left : ℕ) → 0 < left → left ≤ faults → singles_left faults left ≡ ((faults - (left - 1)) ∷ []) ∷ singles_left faults (left - 1)
singles_more faults left p h = ap (map (λ i. i ∷ [])) (left_more faults left p h)

-- the pairs of one fault that are left
abbrev pub after_left : ℕ → ℕ → ℕ → List (List ℕ)
after_left first faults left = map (λ j. first ∷ j ∷ []) (numbers_left faults left)

-- the pairs that are left
abbrev pub pairs_left : ℕ → ℕ → List (List ℕ)
pairs_left faults left = pairs_from (faults - left + 1) left

-- a set that is appended is the first of those that are left
pub single_on : (faults left : ℕ) (rows new whole : List (List ℕ)) (set : List ℕ) → 0 < left → left ≤ faults → new ≡ rows ++ set ∷ [] → set ≡ (faults - (left - 1)) ∷ [] →
    rows ++ singles_left faults left ≡ whole → new ++ singles_left faults (left - 1) ≡ whole
single_on faults left rows new whole set p h e f g =
    ap (λ r. r ++ singles_left faults (left - 1)) (e ∙ ap (λ s. rows ++ s ∷ []) f)
    ∙ step rows whole (singles_left faults left) (singles_left faults (left - 1)) ((faults - (left - 1)) ∷ []) g (singles_more faults left p h)
