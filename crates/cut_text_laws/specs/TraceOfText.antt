-- Which trace a text gives: moments in order, in each one line for each variable, in any order, and empty lines anywhere.
use Rattle.std.specs.Prelude.{◌≡◌, ◌≢◌, ◌⊎◌, ℕ, suc, List, [], ◌∷◌, ◌++◌, Some, slice_get, IsTrue}
use Rattle.std.specs.List.{AllByRecursion}
use Rattle.smv_language.specs.Language.{Text, Value, symbol, in_domain, IsWritableType, FlatVariable, FlatModel}
use Rattle.smv_flat_laws.specs.FlatTrace.{AreInDomains}
use Rattle.cut_text_laws.specs.Lines.{Line, fed, IsLine}
use Rattle.cut_text_laws.specs.TraceText.{variable_text, moment_line, value_line}

-- a word has a byte, and no byte of it is a space or a line feed
pub record IsLineWord (w : Line) : Type 0 where
  pub some : w ≢ []
  pub free : AllByRecursion (λ b. b ≢ 32) w
  pub line : IsLine w

-- The variables are printed as different words, and their types can be written: no symbol is a number or a truth value.
pub record IsPrintable (m : FlatModel) : Type 0 where
  pub words : (i : ℕ) (x : FlatVariable) → slice_get m.variables i ≡ Some x → IsLineWord (variable_text x)
  pub apart : (i j : ℕ) (x y : FlatVariable) → slice_get m.variables i ≡ Some x → slice_get m.variables j ≡ Some y →
      variable_text x ≡ variable_text y → i ≡ j
  pub types : (i : ℕ) (x : FlatVariable) → slice_get m.variables i ≡ Some x → IsWritableType x.declared

-- each symbol of a variable's type is one of the model's
abbrev pub HasItsSymbols : FlatModel → Type 0
HasItsSymbols m = (i : ℕ) (x : FlatVariable) (y : Text) → slice_get m.variables i ≡ Some x → IsTrue (in_domain x.declared (symbol y)) →
    (k : ℕ) × (slice_get m.symbols k ≡ Some y)

-- the line is that of a variable's value in a valuation
pub record SaysOf (m : FlatModel) (v : List Value) (line : Line) : Type 0 where
  pub place : ℕ
  pub variable : FlatVariable
  pub value : Value
  pub is_variable : slice_get m.variables place ≡ Some variable
  pub is_value : slice_get v place ≡ Some value
  pub is_line : line ≡ value_line variable value

-- the line stands there, and at one place alone
pub record StandsOnce (line : Line) (lines : List Line) : Type 0 where
  pub before : List Line
  pub after : List Line
  pub lie : lines ≡ before ++ line ∷ after
  pub none_before : AllByRecursion (λ l. l ≢ line) before
  pub none_after : AllByRecursion (λ l. l ≢ line) after

-- The lines between the line of a moment and that of the next give a valuation: each is empty or says a value of it, and each
-- variable's value is said once.
pub record GivesMoment (m : FlatModel) (lines : List Line) (v : List Value) : Type 0 where
  pub domains : AreInDomains m.variables v
  pub each : AllByRecursion (λ line. (line ≡ []) ⊎ SaysOf m v line) lines
  pub once : (i : ℕ) (x : FlatVariable) (w : Value) → slice_get m.variables i ≡ Some x → slice_get v i ≡ Some w →
      StandsOnce (value_line x w) lines

-- the lines give valuations, the first at the moment of this number
abbrev pub GivesMoments : FlatModel → ℕ → List Line → List (List Value) → Type 0
GivesMoments m n lines [] = lines ≡ []
GivesMoments m n lines (v ∷ vs) = (own rest : List Line) × (lines ≡ moment_line n ∷ (own ++ rest)) × GivesMoment m own v
    × GivesMoments m (suc n) rest vs

-- the lines of a text give a trace, which is not empty
pub record GivesTrace (m : FlatModel) (lines : List Line) (trace : List (List Value)) : Type 0 where
  pub blank : List Line
  pub rest : List Line
  pub lie : lines ≡ blank ++ rest
  pub empty : AllByRecursion (λ line. line ≡ []) blank
  pub some : trace ≢ []
  pub moments : GivesMoments m 0 rest trace

-- the bytes give a trace: each line has a line feed
abbrev pub BytesGive : FlatModel → List ℕ → List (List Value) → Type 0
BytesGive m bytes trace = (lines : List Line) × (bytes ≡ fed lines) × AllByRecursion IsLine lines × GivesTrace m lines trace
