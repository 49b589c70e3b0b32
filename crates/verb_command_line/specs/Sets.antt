-- Numbers in words, and sets of them in one word with one space between.
use Rattle.std.specs.Prelude.{◌≡◌, ℕ, ◌+◌, ◌*◌, ◌-◌, ◌^◌, ◌≤◌, ◌<◌, ◌==◌, true, List, [], ◌∷◌, length, map}
use Rattle.std.specs.Char.{is_ascii_digit}
use Rattle.std.specs.List.{list_all, slice_split}
pub use Rattle.std.specs.List.{AllByRecursion as Each}
use Rattle.base_values.specs.declared.limits.TheConstants.{MOST_FAULTS}
use Rattle.verb_command_line.specs.Commands.{Text}

-- the number that decimal digits stand for: each counts as often as its place says
abbrev pub number_of : Text → ℕ
number_of [] = 0
number_of (c ∷ cs) = (c - 48) * 10 ^ length cs + number_of cs

-- the word is 1 to 10 decimal digits
pub record IsNumeral (word : Text) : Type 0 where
  pub digits : list_all is_ascii_digit word ≡ true
  pub some : 0 < length word
  pub few : length word ≤ 10

-- the texts between spaces
abbrev pub words_of : Text → List Text
words_of text = slice_split (λ b. b == 32) text

-- the numbers that they stand for
abbrev pub numbers_of : Text → List ℕ
numbers_of set = map number_of (words_of set)

-- each number is greater than the one before it, the first greater than this one, and none above `MOST_FAULTS`
abbrev pub AreRising : ℕ → List ℕ → Type 0
AreRising last [] = Unit {0}
AreRising last (n ∷ ns) = (last < n) × (n ≤ MOST_FAULTS) × AreRising n ns

-- the word is at least two rising numbers from 1 to `MOST_FAULTS` with one space between
pub record IsSet (word : Text) : Type 0 where
  pub numerals : Each IsNumeral (words_of word)
  pub rising : AreRising 0 (numbers_of word)
  pub several : 2 ≤ length (words_of word)
