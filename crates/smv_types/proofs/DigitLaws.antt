-- The binary digits of a number, one by one.
use Rattle.std.proofs.Common.{◌≡◌, ℕ, zero, suc, ◌+◌, ◌-◌, ◌<◌, ◌≤◌, ◌/◌, ap, ◌∙◌, nat_eq, Bool, true, false, refl, arith, eqb-true}
use Rattle.smv_type_laws.specs.Costs.{digits_in}

pub digits_none : (most : ℕ) → digits_in most 0 ≡ 0
unfolding digits_in
digits_none zero = refl
digits_none (suc most) = refl

pub digits_step : (most n : ℕ) → 0 < n → digits_in (suc most) n ≡ suc (digits_in most (n / 2))
unfolding digits_in
digits_step most n h = by (nat_eq n 0) refl
  where
    by : (b : Bool) → nat_eq n 0 ≡ b → (elim b [ true ↦ 0 | false ↦ suc (digits_in most (n / 2)) ]) ≡ suc (digits_in most (n / 2))
    by true e = absurd (omega (arith, eqb-true _ _ e))
    by false e = refl

pub digits_at : (i n : ℕ) → i < 64 → 0 < n → digits_in (64 - i) n ≡ suc (digits_in (64 - (i + 1)) (n / 2))
digits_at i n h p =
    let e : 64 - i ≡ suc (64 - (i + 1)) = omega arith in
    ap (λ m. digits_in m n) e ∙ digits_step (64 - (i + 1)) n p

pub digits_end : (i n : ℕ) → 64 ≤ i → digits_in (64 - i) n ≡ 0
unfolding digits_in
digits_end i n h =
    let e : 64 - i ≡ 0 = omega arith in
    ap (λ m. digits_in m n) e
