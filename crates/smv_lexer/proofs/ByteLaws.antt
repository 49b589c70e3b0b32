-- Digits are bytes of words.
use Rattle.std.proofs.Common.{◌≡◌, ℕ, true, false, List, [], ◌∷◌, arith, refl}
use Rattle.std.specs.Prelude.{nat_eq}
use Rattle.std.specs.Char.{is_ascii_digit}
use Rattle.std.proofs.lemmas.Bool.Decides.{nat_tests}
use Rattle.smv_lexer.specs.Bytes.{is_word_byte}
use Rattle.smv_lexer.specs.Runs.{Runs, takes_word, takes_digit}

pub digit_in_word : (d : ℕ) → is_ascii_digit d ≡ true → is_word_byte d ≡ true
digit_in_word d h = grind (arith, nat_tests)

no_dash : (d : ℕ) → is_ascii_digit d ≡ true → nat_eq d 45 ≡ false
no_dash d h = grind (arith, nat_tests)

pub digits_in_word : (ds : List ℕ) → Runs takes_digit ds [] → Runs takes_word ds []
digits_in_word [] h = tt
digits_in_word (d ∷ ds) h = (rw (digit_in_word d h.0, no_dash d h.0) refl, digits_in_word ds h.1)
