-- Words of digits, and literals in words.
use Rattle.std.specs.Prelude.{◌≡◌, ℕ, ◌^◌, ◌<◌, Bool, List}
use Rattle.std.specs.Str.Parse.{IsNumeral, digits_value}
use Rattle.sat_clauses.specs.Literal.{Literal}

-- the word is digits, and this is their value
pub record IsValueOf (word : List ℕ) (n : ℕ) : Type 0 where
  pub numeral : IsNumeral 10 word
  pub value : digits_value 10 word ≡ n
  pub small : n < 2 ^ 64

-- the word is no digits with a value below 2^64
pub record IsNoNumeral (word : List ℕ) : Type 0 where
  pub none : IsNumeral 10 word → digits_value 10 word < 2 ^ 64 → ⊥

-- the literal of a variable
abbrev pub literal_of : Bool → ℕ → Literal
literal_of negated n = record { var = n; negated = negated }
