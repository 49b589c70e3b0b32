-- The text of a certificate, and what is wrong first with bytes that are none.
use Rattle.std.specs.Prelude.{◌≡◌, ◌≢◌, ◌⊎◌, ℕ, suc, ◌^◌, ◌<◌, ◌≤◌, if◌then◌else◌, List, [], ◌∷◌, ◌++◌, length, map, codes}
use Rattle.std.specs.List.{AllByRecursion}
use Rattle.std.specs.Fmt.{decimal}
use Rattle.sat_clauses.specs.Literal.{Literal}
use Rattle.sat_clauses.specs.declared.step.Step.{Step}
use Rattle.cert_laws.specs.Certificate.{Certificate}
use Rattle.cut_text_laws.specs.Lines.{Line, spaced, counted, fed, IsLine}

-- version 2 gives the size; a certificate of version 1 has its number of faults for it
pub data Version : Type 0 where
  version_one : Version
  version_two : Version

-- a variable's number, after `-` where it is negated
abbrev pub literal_text : Literal → Line
literal_text l = if l.negated then codes "-" ++ decimal l.var else decimal l.var

-- the first line, which names the version
abbrev pub version_line : Version → Line
version_line version_one = codes "xsap-certificate 1"
version_line version_two = codes "xsap-certificate 2"

-- the words of the size, which version 1 does not have
abbrev pub size_words : Version → ℕ → List Line
size_words version_one size = []
size_words version_two size = codes "size" ∷ decimal size ∷ []

-- the line of the numbers of bits and faults, and of the size
abbrev pub numbers_line : Version → Certificate → Line
numbers_line version c = spaced (codes "bits" ∷ decimal c.bits ∷ codes "faults" ∷ decimal c.faults ∷ size_words version c.size)

-- the line of a set: its faults by their numbers
abbrev pub set_line : List ℕ → Line
set_line set = spaced (codes "set" ∷ map decimal set)

-- each set with its trace
abbrev pub set_lines : List (List ℕ) → List (List Line) → List Line
set_lines [] texts = []
set_lines (set ∷ sets) [] = []
set_lines (set ∷ sets) (text ∷ texts) = set_line set ∷ counted (codes "trace") (length text) ∷ (text ++ set_lines sets texts)

-- the line of a clause: its literals
abbrev pub clause_line : List Literal → Line
clause_line clause = spaced (codes "clause" ∷ map literal_text clause)

-- the line of a step: the literals of its clause, a colon, and its hints
abbrev pub step_line : Step → Line
step_line s = spaced (codes "step" ∷ (map literal_text s.clause ++ codes ":" ∷ map decimal s.hints))

-- a derivation after the word that begins it
abbrev pub part_lines : Line → List Step → List Line
part_lines word steps = counted word (length steps) ∷ map step_line steps

-- all lines of a certificate
abbrev pub lines_of : Version → Certificate → List Line
lines_of version c =
    version_line version ∷ numbers_line version c ∷ counted (codes "sets") (length c.sets) ∷
    (set_lines c.sets c.traces ++ counted (codes "invariant") (length c.invariant) ∷
    (map clause_line c.invariant
    ++ (part_lines (codes "first") c.first
    ++ (part_lines (codes "next") c.next ++ (part_lines (codes "bad") c.bad ++ codes "end" ∷ [])))))

-- a number of bits or faults, a size or a fault is below 2^31
abbrev pub IsSmall : ℕ → Type 0
IsSmall n = n < 2 ^ 31

-- every other number is below 2^63
abbrev pub IsCount : ℕ → Type 0
IsCount n = n < 2 ^ 63

-- a literal's variable is not 0
abbrev pub IsLiteral : Literal → Type 0
IsLiteral l = (1 ≤ l.var) × IsCount l.var

-- a hint is such a number, and not 0
abbrev pub IsHint : ℕ → Type 0
IsHint n = (1 ≤ n) × IsCount n

-- a step has literals and hints that can be written
pub record IsWritableStep (s : Step) : Type 0 where
  pub clause : AllByRecursion IsLiteral s.clause
  pub hints : AllByRecursion IsHint s.hints

-- a derivation has fewer than 2^63 steps
pub record AreWritable (steps : List Step) : Type 0 where
  pub count : IsCount (length steps)
  pub each : AllByRecursion IsWritableStep steps

-- a trace text has fewer than 2^63 lines
pub record IsWritableText (text : List Line) : Type 0 where
  pub count : IsCount (length text)
  pub each : AllByRecursion IsLine text

-- the certificate has a text
pub record IsWritable (c : Certificate) : Type 0 where
  pub one_each : length c.traces ≡ length c.sets
  pub bits : IsSmall c.bits
  pub faults : IsSmall c.faults
  pub size : IsSmall c.size
  pub count_of_sets : IsCount (length c.sets)
  pub sets : AllByRecursion (AllByRecursion IsSmall) c.sets
  pub traces : AllByRecursion IsWritableText c.traces
  pub count_of_clauses : IsCount (length c.invariant)
  pub clauses : AllByRecursion (AllByRecursion IsLiteral) c.invariant
  pub first : AreWritable c.first
  pub next : AreWritable c.next
  pub bad : AreWritable c.bad

-- what a version can say of the size
abbrev pub CanSay : Version → Certificate → Type 0
CanSay version_one c = c.size ≡ c.faults
CanSay version_two c = Unit {0}

-- the lines are those of the certificate, in some version
abbrev pub AreLinesOf : List Line → Certificate → Type 0
AreLinesOf lines c = IsWritable c × ((version : Version) × CanSay version c × (lines ≡ lines_of version c))

-- the bytes spell the certificate
abbrev pub SpellsCertificate : List ℕ → Certificate → Type 0
SpellsCertificate bytes c = (lines : List Line) × (bytes ≡ fed lines) × AreLinesOf lines c

-- the lines begin the text of some certificate
abbrev pub BeginsOne : List Line → Type 0
BeginsOne lines = (c : Certificate) × (more : List Line) × AreLinesOf (lines ++ more) c

-- The line of this number, from 1, is the first that is wrong: those before it begin a certificate's text, and it goes
-- on with none, or is the last and has no line feed.
pub record IsBadLine (bytes : List ℕ) (number : ℕ) : Type 0 where
  pub before : List Line
  pub line : Line
  pub after : List ℕ
  pub is_line : IsLine line
  pub lie : bytes ≡ fed before ++ (line ++ after)
  pub begun : BeginsOne before
  pub place : number ≡ suc (length before)
  pub cause : ((more : List ℕ) × (after ≡ 10 ∷ more) × (BeginsOne (before ++ line ∷ []) → ⊥)) ⊎ ((after ≡ []) × (line ≢ []))

-- the bytes begin a certificate's text and end before the line of this number, which is missing
pub record EndsBefore (bytes : List ℕ) (number : ℕ) : Type 0 where
  pub lines : List Line
  pub lie : bytes ≡ fed lines
  pub begun : BeginsOne lines
  pub unfinished : (c : Certificate) → AreLinesOf lines c → ⊥
  pub place : number ≡ suc (length lines)
