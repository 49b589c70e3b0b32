-- Words of digits: the number that one is.
use Rattle.std.proofs.Common.{◌≡◌, ℕ, zero, suc, ◌^◌, ◌<◌, ◌≤◌, [], ◌∷◌, length, get_or, Option, Some, None, MatchOption, refl, sym, ◌∙◌, ap, subst, arith}
use Rattle.std.specs.Fmt.{decimal}
use Rattle.std.specs.Str.Parse.{AllDigits, IsNumeral, digits_value}
use Rattle.std.proofs.lemmas.Fmt.{decimal_is_IsNumeral, decimal_digit, first_decimal, decimal-digits_value}
use Rattle.std.proofs.lemmas.Str.Parse.{numerals_by_value, tells_digits, digit_from_value}
use Rattle.cut_text_laws.specs.Lines.{Line}
use Rattle.cert_laws.specs.LineReading.{number_in}
use Rattle.cert_laws.proofs.LineReading.{number_exact}
use Rattle.cert_text.specs.Numerals.{IsValueOf, IsNoNumeral}

-- a word that is no number
pub is_none : (limit : ℕ) → limit ≤ 2 ^ 64 → (word : Line) → ((n : ℕ) → word ≡ decimal n → n < limit → ⊥) → None ≡ number_in limit word
is_none limit low word h = by (number_in limit word) refl
  where
    by : (o : Option ℕ) → number_in limit word ≡ o → None ≡ o
    by None e = refl
    by (Some n) e = let is : (word ≡ decimal n) × (n < limit) = (number_exact limit low word n).0 e in absurd (h n is.0 is.1)

pub is_some : (limit : ℕ) → limit ≤ 2 ^ 64 → (word : Line) (n : ℕ) → word ≡ decimal n → n < limit → Some n ≡ number_in limit word
is_some limit low word n e h = sym ((number_exact limit low word n).1 (e, h))

-- The digits of a number: none is a sign, and the first is 0 in 0 alone.
pub empty_none : (word : Line) → length word ≡ 0 → None ≡ number_in (2 ^ 64) word
empty_none word z = is_none (2 ^ 64) (omega arith) word clash
  where
    clash : (n : ℕ) → word ≡ decimal n → n < 2 ^ 64 → ⊥
    clash n e h = let same : length word ≡ length (decimal n) = ap length e in let some : 0 < length (decimal n) = (decimal_is_IsNumeral n h).0.0 in omega (arith, same, some, z)

pub sign_none : (word : Line) → 0 < length word → get_or word 0 0 ≡ 43 → None ≡ number_in (2 ^ 64) word
sign_none [] some sign = absurd (omega (arith, some))
sign_none (c ∷ word) some sign = is_none (2 ^ 64) (omega arith) (c ∷ word) clash
  where
    clash : (n : ℕ) → (c ∷ word) ≡ decimal n → n < 2 ^ 64 → ⊥
    clash n e h =
        let all : AllDigits 10 (c ∷ word) = subst (AllDigits 10) (sym e) (decimal_is_IsNumeral n h).0.1 in
        let inside = digit_from_value c all.0 in
        omega (arith, inside.0, sign)

zero_text : decimal 0 ≡ 48 ∷ []
zero_text = decimal_digit 0 (omega arith)

pub zero_some : (word : Line) → length word ≡ 1 → get_or word 0 0 ≡ 48 → Some 0 ≡ number_in (2 ^ 64) word
zero_some [] one zeroth = absurd (omega (arith, one))
zero_some (c ∷ d ∷ word) one zeroth = absurd (omega (arith, one))
zero_some (c ∷ []) one zeroth = is_some (2 ^ 64) (omega arith) (c ∷ []) 0 (ap (λ b. b ∷ []) zeroth ∙ sym zero_text) (omega arith)

pub zero_none : (word : Line) → (length word ≡ 1 → ⊥) → get_or word 0 0 ≡ 48 → None ≡ number_in (2 ^ 64) word
zero_none word many zeroth = is_none (2 ^ 64) (omega arith) word clash
  where
    clash : (n : ℕ) → word ≡ decimal n → n < 2 ^ 64 → ⊥
    clash zero e h = many (ap length (e ∙ zero_text))
    clash (suc n) e h =
        let big : 48 < get_or (decimal (suc n)) 0 0 = first_decimal (suc n) (omega arith) h in
        let is : get_or word 0 0 ≡ get_or (decimal (suc n)) 0 0 = ap (λ x. get_or x 0 0) e in
        omega (arith, big, is, zeroth)

pub value_none : (word : Line) → IsNoNumeral word → None ≡ number_in (2 ^ 64) word
value_none word h = is_none (2 ^ 64) (omega arith) word (λ n e g. clash n e g)
  where
    clash : (n : ℕ) → word ≡ decimal n → n < 2 ^ 64 → ⊥
    clash n e g =
        let is : IsNumeral 10 (decimal n) × (digits_value 10 (decimal n) ≡ n) = decimal_is_IsNumeral n g in
        let value : digits_value 10 word ≡ n = ap (digits_value 10) e ∙ is.1 in
        h.none (subst (IsNumeral 10) (sym e) is.0) (omega (arith, value, g))

pub value_some : (word : Line) (n : ℕ) → IsValueOf word n → (get_or word 0 0 ≡ 48 → ⊥) → Some n ≡ number_in (2 ^ 64) word
value_some word n h lead =
    is_some (2 ^ 64) (omega arith) word n
    (sym (decimal-digits_value (numerals_by_value (AllDigits 10) tells_digits) word h.numeral.1 h.numeral.0 (λ z. absurd (lead z)) (omega (arith, h.value, h.small))) ∙ ap decimal h.value) h.small

-- What a word of digits without a sign, and without a 0 before another, gives.
pub valued : (word : Line) (o : Option ℕ) → MatchOption o (IsNoNumeral word) (λ n. IsValueOf word n) → (get_or word 0 0 ≡ 48 → ⊥) → o ≡ number_in (2 ^ 64) word
valued word None h lead = value_none word h
valued word (Some n) h lead = value_some word n h lead
