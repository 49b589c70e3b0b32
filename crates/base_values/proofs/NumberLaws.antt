-- Places one after the other.
use Rattle.std.proofs.Common.{◌≡◌, ℕ, ◌+◌, ◌<◌, suc, sym, subst, arith, ⊎_elim}
use Rattle.std.proofs.lemmas.Bool.{cases_eq}

-- the place i after the next one is the one after the place i
pub next_place : (n i : ℕ) → n + 1 + i ≡ n + suc i
next_place n i = omega arith

-- what holds below a number and at it holds below the next one
pub one_more : (P : ℕ → Type 0) (n : ℕ) → ((i : ℕ) → i < n → P i) → P n → (i : ℕ) → i < n + 1 → P i
one_more P n before here i lt = ⊎_elim (λ same. subst P (sym same) here) (λ other. before i (less i other lt)) (cases_eq i n)
  where
    less : (i : ℕ) → (i ≡ n → ⊥) → i < n + 1 → i < n
    less i other l = grind (arith, other, l)
