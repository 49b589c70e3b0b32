-- What is wrong first with a text that gives no trace.
use Rattle.std.specs.Prelude.{◌≡◌, ◌≢◌, ◌⊎◌, ℕ, suc, ◌<◌, ◌≤◌, if◌then◌else◌, IsTrue, List, [], ◌∷◌, ◌++◌, length, Some, slice_get}
use Rattle.std.specs.List.{AllByRecursion}
use Rattle.smv_language.specs.Language.{same_text, Value, value_text, in_domain, FlatVariable, FlatModel}
use Rattle.cut_text_laws.specs.Lines.{Line, fed, IsLine}
use Rattle.cut_text_laws.specs.TraceText.{variable_text, moment_line, equation}
use Rattle.cut_text_laws.specs.TraceOfText.{IsLineWord}

-- how many moments have begun in order after these lines, where so many had before
abbrev pub moments_after : ℕ → List Line → ℕ
moments_after n [] = n
moments_after n (line ∷ lines) = moments_after (if same_text line (moment_line n) then suc n else n) lines

-- what can be wrong with a line
pub data LineFault : Type 0 where
  bad_line : LineFault
  unknown_name : LineFault
  outside : LineFault
  twice : LineFault

-- the numbers of the faults; 4 is that of a missing value
abbrev pub number_of : LineFault → ℕ
number_of bad_line = 1
number_of unknown_name = 2
number_of outside = 3
number_of twice = 5

-- the line is a word, ` = ` and a word
pub record IsEquation (name value line : Line) : Type 0 where
  pub name_word : IsLineWord name
  pub value_word : IsLineWord value
  pub is_line : line ≡ equation name value

-- a variable is printed so
pub record IsNameIn (m : FlatModel) (name : Line) : Type 0 where
  pub place : ℕ
  pub variable : FlatVariable
  pub is_variable : slice_get m.variables place ≡ Some variable
  pub is_name : variable_text variable ≡ name

-- the lines have a value of that name in the moment in which they end
pub record WasSaid (lines : List Line) (name : Line) : Type 0 where
  pub earlier : List Line
  pub value : Line
  pub later : List Line
  pub lie : lines ≡ earlier ++ equation name value ∷ later
  pub same_moment : moments_after 0 earlier ≡ moments_after 0 lines

-- What is wrong with a line after these lines. A bad line is not empty, does not begin the next moment, and is no equation unless a
-- moment has begun; an equation's name is no variable's, or its value is none of the variable's type, or the name was said in that moment.
abbrev pub Breaks : FlatModel → List Line → Line → LineFault → Type 0
Breaks m before line bad_line = (line ≢ []) × (line ≢ moment_line (moments_after 0 before))
    × ((name value : Line) → IsEquation name value line → moments_after 0 before ≡ 0)
Breaks m before line unknown_name = (name value : Line) × IsEquation name value line × (IsNameIn m name → ⊥)
Breaks m before line outside =
    (name value : Line) × IsEquation name value line × (x : IsNameIn m name)
    × ((w : Value) → IsTrue (in_domain x.variable.declared w) → value_text w ≢ value)
Breaks m before line twice = (name value : Line) × IsEquation name value line × WasSaid before name

-- nothing is wrong with any of the lines
abbrev pub AreSound : FlatModel → List Line → Type 0
AreSound m lines = (front : List Line) (line : Line) (back : List Line) (f : LineFault) → lines ≡ front ++ line ∷ back →
    Breaks m front line f → ⊥

-- of all that is wrong with the line this has the smallest number
pub record IsLeast (m : FlatModel) (before : List Line) (line : Line) (f : LineFault) : Type 0 where
  pub breaks : Breaks m before line f
  pub least : (g : LineFault) → Breaks m before line g → number_of f ≤ number_of g

-- The line of this number, from 1, is the first with which something is wrong; a last line without a line feed is a bad line.
pub record IsWrongLine (m : FlatModel) (bytes : List ℕ) (f : LineFault) (number : ℕ) : Type 0 where
  pub before : List Line
  pub line : Line
  pub after : List ℕ
  pub lie : bytes ≡ fed before ++ (line ++ after)
  pub are_lines : AllByRecursion IsLine before
  pub is_line : IsLine line
  pub sound : AreSound m before
  pub place : number ≡ suc (length before)
  pub cause : ((more : List ℕ) × (after ≡ 10 ∷ more) × IsLeast m before line f) ⊎ ((after ≡ []) × (line ≢ []) × (f ≡ bad_line))

-- the text has no line, or empty lines alone
abbrev pub IsBlank : List ℕ → Type 0
IsBlank bytes = (lines : List Line) × (bytes ≡ fed lines) × AllByRecursion (λ line. line ≡ []) lines

-- some variable has no value in the moment of this number, from 0
pub record Lacks (m : FlatModel) (lines : List Line) (moment : ℕ) : Type 0 where
  pub place : ℕ
  pub variable : FlatVariable
  pub is_variable : slice_get m.variables place ≡ Some variable
  pub elsewhere : (before : List Line) (value : Line) (after : List Line) →
      lines ≡ before ++ equation (variable_text variable) value ∷ after → moments_after 0 before ≢ suc moment

-- nothing is wrong with any line, and of the moments this is the first in which a variable has no value
pub record Misses (m : FlatModel) (bytes : List ℕ) (moment : ℕ) : Type 0 where
  pub lines : List Line
  pub lie : bytes ≡ fed lines
  pub are_lines : AllByRecursion IsLine lines
  pub sound : AreSound m lines
  pub has : moment < moments_after 0 lines
  pub lacks : Lacks m lines moment
  pub least : (j : ℕ) → j < moment → Lacks m lines j → ⊥

-- what is wrong with a text: a fault of a line of this number, or a moment of this number without a value
pub data TraceFault : Type 0 where
  wrong_line : LineFault → ℕ → TraceFault
  missing_value : ℕ → TraceFault

-- it is what is wrong first
abbrev pub IsFirstFault : FlatModel → List ℕ → TraceFault → Type 0
IsFirstFault m bytes (wrong_line f n) = IsWrongLine m bytes f n ⊎ (IsBlank bytes × (f ≡ bad_line) × (n ≡ 1))
IsFirstFault m bytes (missing_value k) = Misses m bytes k
