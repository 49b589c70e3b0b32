-- The kinds of bytes are apart.
use Rattle.std.proofs.Common.{◌≡◌, ℕ, true, false, arith}
use Rattle.std.specs.Prelude.{◌⊎◌}
use Rattle.std.specs.Char.{is_ascii_digit}
use Rattle.std.proofs.lemmas.Bool.Decides.{nat_tests}
use Rattle.smv_lexer.specs.Bytes.{is_blank, is_word_start}

pub blank_cases : (b : ℕ) → is_blank b ≡ true → (b ≡ 32) ⊎ ((b ≡ 9) ⊎ ((b ≡ 13) ⊎ ((b ≡ 12) ⊎ (b ≡ 10))))
blank_cases b blank = grind (arith, nat_tests)

pub word_not_blank : (b : ℕ) → is_word_start b ≡ true → is_blank b ≡ false
word_not_blank b word = grind (arith, nat_tests)

pub digit_not_blank : (b : ℕ) → is_ascii_digit b ≡ true → is_blank b ≡ false
digit_not_blank b digit = grind (arith, nat_tests)

pub digit_not_word : (b : ℕ) → is_ascii_digit b ≡ true → is_word_start b ≡ false
digit_not_word b digit = grind (arith, nat_tests)
