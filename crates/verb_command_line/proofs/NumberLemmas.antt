-- Words of digits and the numbers that they stand for.
use Rattle.std.proofs.Common.{◌≡◌, ℕ, ◌^◌, ◌<◌, Bool, true, false, List, Option, Some, None, Result, if◌then◌else◌, sym, ◌∙◌, ap, arith, rules}
use Rattle.std.specs.Char.{is_ascii_digit}
use Rattle.std.specs.List.{list_all}
use Rattle.std.specs.Result.{result_ok}
use Rattle.std.specs.Str.Parse.{ParsesUnsigned}
use Rattle.std.proofs.lemmas.Bool.{false≢true, and_parts, and_from, ltb-true, leb-true, lt-ltb, le-leb}
use Rattle.std.proofs.lemmas.Str.Parse.{IsNumeralModel, numerals_by_weight, digits_value_short, parse_gives}
use Rattle.verb_command_line.specs.Sets.{number_of, IsNumeral}
use Rattle.verb_command_line.specs.Table.{IsWithin}
use Rattle.verb_command_line.specs.WordReading.{is_numeral, number_in, is_within}

numerals : IsNumeralModel (λ ds. list_all is_ascii_digit ds ≡ true) number_of
numerals = numerals_by_weight _ (search rules) number_of (search rules)

-- 1 to 10 digits stay below 2 ^ 64
pub short_number : (word : List ℕ) → IsNumeral word → number_of word < 2 ^ 64
short_number word n = let short : number_of word < 10 ^ 10 = digits_value_short numerals word 10 n.digits n.few in omega (arith, short)

-- the test of a numeral says what it is
pub is_numeral-true : (word : List ℕ) → is_numeral word ≡ true → IsNumeral word
is_numeral-true word e =
    let parts = and_parts _ _ e in let rest = and_parts _ _ parts.1 in
    record { digits = rest.1; some = ltb-true _ _ parts.0; few = leb-true _ _ rest.0 }

pub true-is_numeral : (word : List ℕ) → IsNumeral word → is_numeral word ≡ true
true-is_numeral word n = and_from _ _ (lt-ltb _ _ n.some) (and_from _ _ (le-leb _ _ n.few) n.digits)

pub numbered : (word : List ℕ) → is_numeral word ≡ true → number_in word ≡ Some (number_of word)
numbered word e = ap (λ t. if t then Some (number_of word) else None) e

-- what is parsed from a numeral is its number
pub parsed_number : {E : Type 0} → (word : List ℕ) (r : Result ℕ E) (o : Option ℕ) → ParsesUnsigned 64 10 word r → is_numeral word ≡ true → o ≡ result_ok r → o ≡ number_in word
parsed_number word r o h passes is =
    let n = is_numeral-true word passes in
    is ∙ ap result_ok (parse_gives numerals 64 word r h n.digits n.some (short_number word n)) ∙ sym (numbered word passes)

pub within_by : (least most : ℕ) (word : List ℕ) (t : Bool) → is_numeral word ≡ t → is_within least most (if t then Some (number_of word) else None) ≡ true → IsWithin least most word
within_by least most word true is e =
    let parts = and_parts _ _ e in record { numeral = is_numeral-true word is; above = leb-true _ _ parts.0; below = leb-true _ _ parts.1 }
within_by least most word false is e = absurd (false≢true e)
