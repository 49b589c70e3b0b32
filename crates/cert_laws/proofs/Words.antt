-- Words and numbers in lines.
use Rattle.std.proofs.Common.{◌≡◌, ◌⊎◌, inl, inr, ℕ, ◌<◌, ◌^◌, Bool, true, false, List, [], ◌∷◌, length, map, refl, sym, ◌∙◌, ap, arith}
use Rattle.std.specs.Prelude.{if◌then◌else◌}
use Rattle.std.specs.Int.{IsInRange}
use Rattle.std.specs.List.{AllByRecursion}
use Rattle.std.specs.Fmt.{decimal}
use Rattle.std.specs.Str.Parse.{AllDigits, digits_value}
use Rattle.std.proofs.lemmas.Fmt.{decimal_is_IsNumeral}
use Rattle.std.proofs.lemmas.Str.Parse.{digit_from_value}
use Rattle.sat_clauses.specs.Literal.{Literal}
use Rattle.cert_laws.specs.CertificateText.{literal_text, IsLiteral, IsCount}
use Rattle.cut_text_laws.proofs.Separators.{IsFree, no_separator}
use Rattle.cut_text_laws.proofs.Words.{IsWord, same_texts}

-- Numbers.
digits_free : (s : ℕ) → (s < 48) ⊎ (57 < s) → (ds : List ℕ) → AllDigits 10 ds → IsFree s ds
digits_free s out [] h = tt
digits_free s out (d ∷ ds) h = (λ e. outside (digit_from_value d h.0) e out, digits_free s out ds h.1)
  where
    outside : IsInRange 48 57 d → d ≡ s → (s < 48) ⊎ (57 < s) → ⊥
    outside r e (inl a) = omega (arith, r, e, a)
    outside r e (inr a) = omega (arith, r, e, a)

below : (n : ℕ) → IsCount n → n < 2 ^ 64
below n h = omega (arith, h)

pub number_free : (s : ℕ) → (s < 48) ⊎ (57 < s) → (n : ℕ) → IsCount n → IsFree s (decimal n)
number_free s out n h = digits_free s out (decimal n) (decimal_is_IsNumeral n (below n h)).0.1

pub number_word : (n : ℕ) → IsCount n → IsWord (decimal n)
number_word n h = record { some = (decimal_is_IsNumeral n (below n h)).0.0; free = number_free 32 (inl (omega arith)) n h }

pub same_number : (n k : ℕ) → IsCount n → IsCount k → decimal n ≡ decimal k → n ≡ k
same_number n k h g e = sym (decimal_is_IsNumeral n (below n h)).1 ∙ ap (digits_value 10) e ∙ (decimal_is_IsNumeral k (below k g)).1

-- Literals.
minus_no_digit : (n k : ℕ) → IsCount k → 45 ∷ decimal n ≡ decimal k → ⊥
minus_no_digit n k h e = no_separator 45 (decimal k) [] (decimal n) (number_free 45 (inl (omega arith)) k h) (sym e)

pub same_literal : (l k : Literal) → IsLiteral l → IsLiteral k → literal_text l ≡ literal_text k → l ≡ k
same_literal l k f g e = by_signs l.negated k.negated refl refl e
  where
    after_minus : (xs ys : List ℕ) → (45 ∷ xs) ≡ (45 ∷ ys) → xs ≡ ys
    after_minus xs ys e = cc

    by_signs : (n o : Bool) → l.negated ≡ n → k.negated ≡ o → (if n then 45 ∷ decimal l.var else decimal l.var) ≡ (if o then 45 ∷ decimal k.var else decimal k.var) → l ≡ k
    by_signs true true p q e = one l.var k.var l.negated k.negated (same_number l.var k.var f.1 g.1 (after_minus (decimal l.var) (decimal k.var) e)) (p ∙ sym q)
      where
        one : (x y : ℕ) (n o : Bool) → x ≡ y → n ≡ o → (let r : Literal = record { var = x; negated = n } in r) ≡ (let r : Literal = record { var = y; negated = o } in r)
        one x y n o e f = rw (e, f) refl
    by_signs true false p q e = absurd (minus_no_digit l.var k.var g.1 e)
    by_signs false true p q e = absurd (minus_no_digit k.var l.var f.1 (sym e))
    by_signs false false p q e = one l.var k.var l.negated k.negated (same_number l.var k.var f.1 g.1 e) (p ∙ sym q)
      where
        one : (x y : ℕ) (n o : Bool) → x ≡ y → n ≡ o → (let r : Literal = record { var = x; negated = n } in r) ≡ (let r : Literal = record { var = y; negated = o } in r)
        one x y n o e f = rw (e, f) refl

pub literal_free : (s : ℕ) → (s < 45) ⊎ (57 < s) → (l : Literal) → IsLiteral l → IsFree s (literal_text l)
literal_free s out l h = by_sign l.negated
  where
    number : IsFree s (decimal l.var)
    number = number_free s (outside out) l.var h.1
      where
        outside : (s < 45) ⊎ (57 < s) → (s < 48) ⊎ (57 < s)
        outside (inl a) = inl (omega (arith, a))
        outside (inr a) = inr a

    minus : (s < 45) ⊎ (57 < s) → 45 ≡ s → ⊥
    minus (inl a) e = omega (arith, a, e)
    minus (inr a) e = omega (arith, a, e)

    by_sign : (n : Bool) → IsFree s (if n then 45 ∷ decimal l.var else decimal l.var)
    by_sign true = (minus out, number)
    by_sign false = number

pub literal_word : (l : Literal) → IsLiteral l → IsWord (literal_text l)
literal_word l h = record { some = by_sign l.negated; free = literal_free 32 (inl (omega arith)) l h }
  where
    by_sign : (n : Bool) → 0 < length (if n then 45 ∷ decimal l.var else decimal l.var)
    by_sign true = omega arith
    by_sign false = (number_word l.var h.1).some

-- Lists of numbers and of literals.
pub same_numbers : (ns ks : List ℕ) → AllByRecursion IsCount ns → AllByRecursion IsCount ks → map decimal ns ≡ map decimal ks → ns ≡ ks
same_numbers = same_texts decimal IsCount same_number

pub same_literals : (ls ks : List Literal) → AllByRecursion IsLiteral ls → AllByRecursion IsLiteral ks → map literal_text ls ≡ map literal_text ks → ls ≡ ks
same_literals = same_texts literal_text IsLiteral same_literal
