-- What a line of a certificate says, computed: each reading is exact, and what it answers has that line as its text.
use Rattle.std.specs.Prelude.{◌≡◌, ◌↔◌, ◌≢◌, ℕ, ◌^◌, nat_lt, nat_eq, ◌&&◌, if◌then◌else◌, List, [], ◌∷◌, Option, Some, None, codes}
use Rattle.std.specs.Option.{option_map}
use Rattle.std.specs.List.{AllByRecursion}
use Rattle.std.specs.Fmt.{decimal}
use Rattle.std.specs.Str.Parse.{digits_value}
use Rattle.sat_clauses.specs.Literal.{Literal, plain, opposite}
use Rattle.sat_clauses.specs.declared.step.Step.{Step}
use Rattle.cut_text_laws.specs.Lines.{Line, counted}
use Rattle.cert_laws.specs.CertificateText.{set_line, clause_line, step_line, IsSmall, IsCount, IsLiteral, IsWritableStep}
use Rattle.smv_language.specs.Texts.{same_text}

-- words with a byte before the first of them
abbrev pub with_byte : ℕ → List Line → List Line
with_byte b [] = (b ∷ []) ∷ []
with_byte b (w ∷ words) = (b ∷ w) ∷ words

-- the words of a line: what stands between its spaces; a line without one is one word
abbrev pub words_in : Line → List Line
words_in [] = [] ∷ []
words_in (b ∷ bs) = if nat_eq b 32 then [] ∷ words_in bs else with_byte b (words_in bs)

-- the number below the limit that is written so
abbrev pub number_in : ℕ → Line → Option ℕ
number_in limit w = if same_text w (decimal (digits_value 10 w)) && nat_lt (digits_value 10 w) limit then Some (digits_value 10 w) else None

-- something before a list, where both are there
abbrev pub cons_both : {A : Type 0} → Option A → Option (List A) → Option (List A)
cons_both (Some a) (Some as') = Some (a ∷ as')
cons_both _ _ = None

-- what each word says, where each says something
abbrev pub each_in : {A : Type 0} → (Line → Option A) → List Line → Option (List A)
each_in f [] = Some []
each_in f (w ∷ words) = cons_both (f w) (each_in f words)

-- what the words after this first one say
abbrev pub after_word : {A : Type 0} → Line → (List Line → Option A) → List Line → Option A
after_word word f [] = None
after_word word f (w ∷ words) = if same_text w word then f words else None

-- the number that the only word is
abbrev pub one_number : List Line → Option ℕ
one_number (w ∷ []) = number_in (2 ^ 63) w
one_number _ = None

-- the number in a line of a word and a number
abbrev pub count_in : Line → Line → Option ℕ
count_in word line = after_word word one_number (words_in line)

-- the faults in the line of a set
abbrev pub set_in : Line → Option (List ℕ)
set_in line = after_word (codes "set") (each_in (number_in (2 ^ 31))) (words_in line)

-- a number that is not 0
abbrev pub not_zero : Option ℕ → Option ℕ
not_zero None = None
not_zero (Some n) = if nat_eq n 0 then None else Some n

-- the hint that a word is
abbrev pub hint_in : Line → Option ℕ
hint_in w = not_zero (number_in (2 ^ 63) w)

-- the literal that a word is: a number that is not 0, after `-` where it is negated
abbrev pub literal_in : Line → Option Literal
literal_in [] = None
literal_in (b ∷ bs) = if nat_eq b 45 then option_map (λ x. opposite (plain x)) (hint_in bs) else option_map plain (hint_in (b ∷ bs))

-- the literals in the line of a clause
abbrev pub clause_in : Line → Option (List Literal)
clause_in line = after_word (codes "clause") (each_in literal_in) (words_in line)

-- the words before the first colon with one more before them, and those after it
abbrev pub before_first : Line → Option (List Line × List Line) → Option (List Line × List Line)
before_first w None = None
before_first w (Some parts) = Some (w ∷ parts.0, parts.1)

-- the words before the first colon, and those after it
abbrev pub cut_at_colon : List Line → Option (List Line × List Line)
cut_at_colon [] = None
cut_at_colon (w ∷ words) = if same_text w (codes ":") then Some ([], words) else before_first w (cut_at_colon words)

-- a step of a clause and hints, where both are given
abbrev pub step_of : Option (List Literal) → Option (List ℕ) → Option Step
step_of (Some clause) (Some hints) = Some (record { clause = clause; hints = hints })
step_of _ _ = None

-- the step of the words before a colon and those after it
abbrev pub step_of_parts : Option (List Line × List Line) → Option Step
step_of_parts None = None
step_of_parts (Some parts) = step_of (each_in literal_in parts.0) (each_in hint_in parts.1)

-- the step that the words after `step` say
abbrev pub step_of_words : List Line → Option Step
step_of_words words = step_of_parts (cut_at_colon words)

-- the step in its line
abbrev pub step_in : Line → Option Step
step_in line = after_word (codes "step") step_of_words (words_in line)

-- The laws: a line is read as something exactly where it is the line of that.
abbrev pub CountsAreExact : Type 0
CountsAreExact = (word line : Line) (n : ℕ) → AllByRecursion (λ b. b ≢ 32) word →
    (count_in word line ≡ Some n ↔ ((line ≡ counted word n) × IsCount n))

-- a line is read as a set exactly where it is the set's line
abbrev pub SetsAreExact : Type 0
SetsAreExact = (line : Line) (set : List ℕ) → (set_in line ≡ Some set ↔ ((line ≡ set_line set) × AllByRecursion IsSmall set))

-- a line is read as a clause exactly where it is the clause's line
abbrev pub ClausesAreExact : Type 0
ClausesAreExact = (line : Line) (clause : List Literal) →
    (clause_in line ≡ Some clause ↔ ((line ≡ clause_line clause) × AllByRecursion IsLiteral clause))

-- a line is read as a step exactly where it is the step's line
abbrev pub StepsAreExact : Type 0
StepsAreExact = (line : Line) (s : Step) → (step_in line ≡ Some s ↔ ((line ≡ step_line s) × IsWritableStep s))
