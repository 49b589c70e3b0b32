-- The words of a certificate's second line, taken one after another.
use Rattle.std.specs.Prelude.{◌≡◌, ◌≢◌, ℕ, List, [], ◌∷◌, Option, Some, None, codes, if◌then◌else◌}
use Rattle.cut_text_laws.specs.Lines.{Line}
use Rattle.cert_laws.specs.CertificateText.{Version}
use Rattle.cert_laws.specs.ExpectedLines.{Numbers, numbers_from, small_in, size_of}
use Rattle.smv_language.specs.Texts.{same_text}

-- the first word is no number below 2^31
abbrev pub LacksNumber : List Line → Type 0
LacksNumber words = (word : Line) (rest : List Line) → words ≡ word ∷ rest → small_in word ≡ None

-- the first word is this number below 2^31, and these come after it
pub record IsNumberThen (words : List Line) (n : ℕ) (rest : List Line) : Type 0 where
  pub word : Line
  pub lie : words ≡ word ∷ rest
  pub reads : small_in word ≡ Some n

-- the first word is not this one
abbrev pub LacksName : List Line → Line → Type 0
LacksName words name = (rest : List Line) → words ≢ name ∷ rest

-- the one word that is a number below 2^31
abbrev pub one_small : List Line → Option ℕ
one_small (word ∷ []) = small_in word
one_small _ = None

-- the numbers, where that of bits and the words after it, those after `faults`, and the number of faults are known
abbrev pub after_bits : Version → ℕ → List Line → Option Numbers
after_bits version b (f ∷ n ∷ words) =
    if same_text f (codes "faults") then numbers_from (Some b) (small_in n) (size_of version (small_in n) words) else None
after_bits version b _ = None

-- the numbers that the words after `faults` say, where that of bits is given
abbrev pub after_faults : Version → ℕ → List Line → Option Numbers
after_faults version b (n ∷ words) = numbers_from (Some b) (small_in n) (size_of version (small_in n) words)
after_faults version b [] = None
