-- What words may ask for, and words as pairs of an option and its value.
use Rattle.std.specs.Prelude.{ℕ, List, [], ◌∷◌, Option}

abbrev pub Text : Type 0
Text = List ℕ

-- what the words of a command line ask for: a verb and the values of its options
pub data Command : Type 0 where
  extend : (model faults extended : Text) → Command
  replay : (model faults trace top : Text) → Command
  analyse : (model faults top : Text) (depth : ℕ) (extended cert : Text) (size : Option ℕ) → Command
  check : (model faults top cert : Text) → Command
  fmea : (model faults tops : Text) (size depth : ℕ) → Command
  make : (number stages depth : ℕ) (model faults : Text) → Command
  causes : (model faults causes top : Text) (depth : ℕ) (cert : Text) → Command
  check_causes : (model faults causes top cert : Text) → Command
  orders : (model faults top set : Text) (first second depth : ℕ) (cert : Text) → Command
  check_orders : (model faults top set : Text) (first second : ℕ) (claim cert : Text) → Command
  odds : (model faults top : Text) (depth : ℕ) → Command

-- an option and the word after it
pub record Given : Type 0 where
  pub option : Text
  pub value : Text

-- the words of pairs, one pair after another
abbrev pub spread : List Given → List Text
spread [] = []
spread (p ∷ ps) = p.option ∷ p.value ∷ spread ps
