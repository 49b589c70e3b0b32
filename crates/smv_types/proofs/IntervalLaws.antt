-- Intervals by their ends, and products of numbers within 32 bits.
use Rattle.std.proofs.Common.{◌≡◌, ℤ, ◌+ℤ◌, ◌-ℤ◌, ◌*ℤ◌, ap, ◌∙◌, arith}
use Rattle.std.proofs.lemmas.Int.{ints, fits_signed_mul, fits_signed_from_abs}
use Rattle.std.specs.Prelude.{◌≤◌, unsigned_abs, FitsSigned}
use mir.Syntax.{w64}
use Rattle.smv_type_laws.specs.Intervals.{just, hull}
use Rattle.smv_types.specs.NumberAnswers.{fitting, IsSmall}

small_size : (a : ℤ) → IsSmall a → unsigned_abs a ≤ 2147483648
small_size a s = omega (arith, ints, s.0, s.1)

pub product_fits : (a b : ℤ) → IsSmall a → IsSmall b → FitsSigned w64 (a *ℤ b)
product_fits a b s t = fits_signed_mul w64 a b 2147483648 2147483648 (small_size a s) (small_size b t) (omega arith)

pub by_corners : {a b c d a' b' c' d' : ℤ} → a ≡ a' → b ≡ b' → c ≡ c' → d ≡ d' →
    fitting (hull (hull (just a) (just b)) (hull (just c) (just d))) ≡ fitting (hull (hull (just a') (just b')) (hull (just c') (just d')))
by_corners {b = b} {c = c} {d = d} {a' = a'} {b' = b'} {c' = c'} p q r s =
    ap (λ x. fitting (hull (hull (just x) (just b)) (hull (just c) (just d)))) p ∙ ap (λ x. fitting (hull (hull (just a') (just x)) (hull (just c) (just d)))) q
    ∙ ap (λ x. fitting (hull (hull (just a') (just b')) (hull (just x) (just d)))) r ∙ ap (λ x. fitting (hull (hull (just a') (just b')) (hull (just c') (just x)))) s

pub sum_fits : (a b : ℤ) → IsSmall a → IsSmall b → FitsSigned w64 (a +ℤ b)
sum_fits a b s t = fits_signed_from_abs w64 (a +ℤ b) (omega (arith, ints, s.0, s.1, t.0, t.1))

pub difference_fits : (a b : ℤ) → IsSmall a → IsSmall b → FitsSigned w64 (a -ℤ b)
difference_fits a b s t = fits_signed_from_abs w64 (a -ℤ b) (omega (arith, ints, s.0, s.1, t.0, t.1))
