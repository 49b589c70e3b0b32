-- The kinds of the number trees of templates.
use Rattle.std.proofs.Common.{◌≡◌, ℕ, suc, ◌^◌, ◌<◌, Bool, true, false, ltb-true, lt-ltb, eqb-true, eq-eqb, arith, [], Some, ℤ, pos, negsuc, ◌-ℤ◌, ◌≤ℤ◌, refl, ap, sym, ◌∙◌}
use Rattle.std.specs.Prelude.{nat_abs, nat_eq, not, if◌then◌else◌}
use Rattle.std.proofs.lemmas.Int.{ints}
use Rattle.base_values.specs.declared.limits.TheConstants.{LEAST_NUMBER, GREATEST_NUMBER}
use Rattle.smv_language.specs.declared.expr.Op.TheVariants as op
use Rattle.smv_language.specs.Tree.{number as is_number, negate, binary}
use Rattle.smv_language.specs.ProgramTree.{Path}
use Rattle.smv_language.specs.Values.{number, at_most, is_between}
use Rattle.smv_language.proofs.ValueLaws.{both_true, not_less}
use Rattle.fault_instructions.specs.AllowedEffects.{is_small}
use Rattle.fault_instructions.specs.Templates.{number_tree}
use Rattle.smv_type_laws.specs.Intervals.{Interval, just, sum_of, difference_of, fits_number, fits}
use Rattle.smv_type_laws.specs.ExpressionKinds.{number_class, Kind, too_wide, rule_if, wide, one_value, Judged, judged_number, judged_negative, judge}
use Rattle.fault_woven_laws.proofs.Rightly.{Rightly}

-- numbers of this interval, with no rule broken
abbrev pub numbers_in : Interval → Judged
numbers_in i = record { kind = record { class = number_class; interval = Some i }; is_set = false; broken = [] }

pub numbers_right : (j : Judged) (i : Interval) → j ≡ numbers_in i → Rightly number_class j
numbers_right j i e = record { kept = ap (λ (k : Judged). k.broken) e; class = ap (λ (k : Judged). k.kind.class) e }

fits_between : (n : ℤ) → LEAST_NUMBER ≤ℤ n → n ≤ℤ GREATEST_NUMBER → fits_number n ≡ true
fits_between (pos n) h g = let below : n < 2 ^ 31 = omega (arith, ints) in lt-ltb n (2 ^ 31) below
fits_between (negsuc n) h g = let below : n < 2 ^ 31 = omega (arith, ints) in lt-ltb n (2 ^ 31) below

fits_bounds : (n : ℤ) → fits_number n ≡ true → (LEAST_NUMBER ≤ℤ n) × (n ≤ℤ GREATEST_NUMBER)
fits_bounds (pos n) e = let below : n < 2 ^ 31 = ltb-true n (2 ^ 31) e in (omega (arith, ints), omega (arith, ints))
fits_bounds (negsuc n) e = let below : n < 2 ^ 31 = ltb-true n (2 ^ 31) e in (omega (arith, ints), omega (arith, ints))

pub small_fits : (n : ℤ) → is_small n ≡ true → fits_number n ≡ true
small_fits n e =
    let h = both_true (at_most LEAST_NUMBER n) (at_most n GREATEST_NUMBER) e in
    fits_between n (not_less LEAST_NUMBER n h.0) (not_less n GREATEST_NUMBER h.1)

pub between_fits : (lo hi n : ℤ) → fits_number lo ≡ true → fits_number hi ≡ true → is_between lo hi (number n) ≡ true → fits_number n ≡ true
between_fits lo hi n f g e =
    let h = both_true (at_most lo n) (at_most n hi) e in
    let below = not_less lo n h.0 in
    let above = not_less n hi h.1 in
    let least = (fits_bounds lo f).0 in
    let most = (fits_bounds hi g).1 in
    fits_between n (omega (arith, ints)) (omega (arith, ints))

pub both_fit : (lo hi : ℤ) → fits_number lo ≡ true → fits_number hi ≡ true → fits (record { lo = lo; hi = hi }) ≡ true
both_fit lo hi e f = rw (e, f) refl

-- an interval within 32 bits breaks no rule
kept_interval : (i : Interval) → fits i ≡ true → one_value (wide (Some i)) number_class (Some i) [] ≡ numbers_in i
kept_interval i e = ap (λ b. one_value (rule_if (not b) too_wide) number_class (Some i) []) e

module _ (k : Path → Kind) where
  literal : (sets : Bool) (n : ℕ) → fits_number (pos n) ≡ true → judge k sets (is_number (pos n)) ≡ numbers_in (just (pos n))
  literal sets n e = kept_interval (just (pos n)) (both_fit (pos n) (pos n) e e)

  negated : (sets : Bool) (n : ℕ) → fits_number (pos (suc n)) ≡ true → fits_number (negsuc n) ≡ true → judge k sets (negate (is_number (pos (suc n)))) ≡ numbers_in (just (negsuc n))
  negated sets n e f =
      let other : pos 0 -ℤ pos (suc n) ≡ negsuc n = omega (arith, ints) in
      ap judged_negative (literal false (suc n) e)
      ∙ ap (λ z. one_value (wide (Some (just z))) number_class (Some (just z)) []) other
      ∙ kept_interval (just (negsuc n)) (both_fit (negsuc n) (negsuc n) f f)

  least_number : (sets : Bool) → judge k sets (binary op.Minus (negate (is_number GREATEST_NUMBER)) (is_number (pos 1))) ≡ numbers_in (just LEAST_NUMBER)
  least_number sets = refl

  pub number_judged : (sets : Bool) (n : ℤ) → fits_number n ≡ true → judge k sets (number_tree n) ≡ numbers_in (just n)
  number_judged sets (pos n) e = literal sets n e
  number_judged sets (negsuc n) e = by (nat_eq n (nat_abs GREATEST_NUMBER)) refl
    where
      not_true : (b : Bool) → b ≡ true → b ≡ false → ⊥
      not_true b h g = cc

      by : (b : Bool) → nat_eq n (nat_abs GREATEST_NUMBER) ≡ b →
          judge k sets (if b then binary op.Minus (negate (is_number GREATEST_NUMBER)) (is_number (pos 1)) else negate (is_number (pos (suc n)))) ≡ numbers_in (just (negsuc n))
      by true t = let same : n ≡ nat_abs GREATEST_NUMBER = eqb-true n (nat_abs GREATEST_NUMBER) t in least_number sets ∙ ap (λ x. numbers_in (just (negsuc x))) (sym same)
      by false t =
          let within : n < 2 ^ 31 = ltb-true n (2 ^ 31) e in
          let other : n ≡ nat_abs GREATEST_NUMBER → ⊥ = λ h. not_true (nat_eq n (nat_abs GREATEST_NUMBER)) (eq-eqb n (nat_abs GREATEST_NUMBER) h) t in
          let below : suc n < 2 ^ 31 = omega arith in
          negated sets n (lt-ltb (suc n) (2 ^ 31) below) e

pub sum_judged : (i j : Interval) → fits (sum_of i j) ≡ true → judged_number op.Plus (numbers_in i) (numbers_in j) ≡ numbers_in (sum_of i j)
sum_judged i j e = kept_interval (sum_of i j) e

pub difference_judged : (i j : Interval) → fits (difference_of i j) ≡ true → judged_number op.Minus (numbers_in i) (numbers_in j) ≡ numbers_in (difference_of i j)
difference_judged i j e = kept_interval (difference_of i j) e
