-- Runs of bytes at the front of a text, by a test of what begins at each.
use Rattle.std.specs.Prelude.{◌≡◌, ℕ, ◌+◌, ◌*◌, ◌-◌, ◌==◌, Bool, true, false, not, ◌&&◌, ◌||◌, List, [], ◌∷◌, ◌++◌, Option, Some, None}
use Rattle.std.specs.Prelude.{nat_eq, codes, if◌then◌else◌}
use Rattle.std.specs.List.{starts_with}
use Rattle.std.specs.Option.{option_map}
use Rattle.std.specs.Char.{is_ascii_digit}
use Rattle.smv_lexer.specs.Bytes.{is_word_byte}

-- how many bytes pass, up to the first that doesn't
abbrev pub run_len : (List ℕ → Bool) → List ℕ → ℕ
run_len test [] = 0
run_len test (b ∷ bs) = if test (b ∷ bs) then run_len test bs + 1 else 0

-- each byte of the text passes, where these bytes follow it
abbrev pub Runs : (List ℕ → Bool) → List ℕ → List ℕ → Type 0
Runs test [] after = Unit {0}
Runs test (b ∷ bs) after = (test (b ∷ (bs ++ after)) ≡ true) × Runs test bs after

-- the next byte is `-` or `>`
abbrev pub ends_word : List ℕ → Bool
ends_word [] = false
ends_word (b ∷ bs) = (b == 45) || (b == 62)

-- a word goes on: a `-` is taken only where neither `-` nor `>` follows
abbrev pub takes_word : List ℕ → Bool
takes_word [] = false
takes_word (b ∷ bs) = is_word_byte b && not ((b == 45) && ends_word bs)

-- a number goes on
abbrev pub takes_digit : List ℕ → Bool
takes_digit [] = false
takes_digit (b ∷ bs) = is_ascii_digit b

-- a line goes on
abbrev pub takes_line : List ℕ → Bool
takes_line [] = false
takes_line (b ∷ bs) = not (b == 10)

-- the number that digits stand for, after those that were read
abbrev pub number_from : ℕ → List ℕ → ℕ
number_from value [] = value
number_from value (b ∷ bs) = number_from (value * 10 + (b - 48)) bs

-- how many bytes there are up to the end of the first `--/`
abbrev pub block_len : List ℕ → Option ℕ
block_len [] = None
block_len (b ∷ bs) =
    if starts_with nat_eq (b ∷ bs) (codes "--/") then Some 3 else option_map (λ len. len + 1) (block_len bs)
