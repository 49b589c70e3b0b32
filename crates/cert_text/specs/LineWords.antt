-- Lines that are cut into words.
use Rattle.std.specs.Prelude.{◌≡◌, ◌≢◌, ℕ, ◌<◌, List, [], ◌∷◌, length}
use Rattle.cut_text_laws.specs.Lines.{Line}
use Rattle.cert_laws.specs.LineReading.{words_in}

-- the words in what stands after a word: nothing, or a space and words
abbrev pub words_after : List ℕ → List Line
words_after [] = []
words_after (b ∷ bytes) = words_in bytes

-- the first of these words, and what stands after it
pub record IsWordThen (words word more : List ℕ) : Type 0 where
  pub lie : words_after words ≡ word ∷ words_after more
  pub shorter : length more < length words

-- the line does not begin with this word
abbrev pub LacksWord : Line → Line → Type 0
LacksWord line word = (words : List Line) → words_in line ≢ word ∷ words

-- this stands after the word with which the line begins
abbrev pub IsAfterWord : Line → Line → List ℕ → Type 0
IsAfterWord line word rest = words_in line ≡ word ∷ words_after rest
