-- Which line a certificate's text goes on with, computed line by line.
use Rattle.std.specs.Prelude.{◌≡◌, ◌↔◌, ◌⊎◌, ℕ, zero, suc, ◌^◌, if◌then◌else◌, List, [], ◌∷◌, Option, Some, None, codes}
use Rattle.std.specs.Option.{option_map}
use Rattle.std.specs.List.{AllByRecursion}
use Rattle.cert_laws.specs.Certificate.{Certificate, Part, part_first, part_next, part_bad}
use Rattle.cut_text_laws.specs.Lines.{Line, IsLine}
use Rattle.cert_laws.specs.CertificateText.{Version, version_one, version_two, version_line, AreLinesOf, BeginsOne, SpellsCertificate}
use Rattle.cert_laws.specs.CertificateText.{IsBadLine, EndsBefore}
use Rattle.cert_laws.specs.LineReading.{words_in, number_in, after_word, count_in, set_in, clause_in, step_in}
use Rattle.smv_language.specs.Texts.{same_text}

-- what the next line is to be; with a set, a text line, a clause or a step, how many of them come after it
pub data Expect : Type 0 where
  a_version : Expect
  the_numbers_of : Version → Expect
  sets_count : Expect
  a_set_line : ℕ → Expect
  trace_count : ℕ → Expect
  a_text_line : ℕ → ℕ → Expect
  clauses_count : Expect
  a_clause_line : ℕ → Expect
  steps_count : Part → Expect
  a_step_line : Part → ℕ → Expect
  the_end : Expect
  no_line : Expect

-- what comes next where so many sets are left
abbrev pub sets_left : ℕ → Expect
sets_left zero = clauses_count
sets_left (suc k) = a_set_line k

-- what comes next where so many lines of a trace's text are left, and so many sets after it
abbrev pub text_left : ℕ → ℕ → Expect
text_left zero k = sets_left k
text_left (suc n) k = a_text_line n k

-- what comes next where so many clauses are left
abbrev pub clauses_left : ℕ → Expect
clauses_left zero = steps_count part_first
clauses_left (suc n) = a_clause_line n

-- what comes next after a derivation
abbrev pub after_part : Part → Expect
after_part part_first = steps_count part_next
after_part part_next = steps_count part_bad
after_part part_bad = the_end

-- what comes next where so many steps of a derivation are left
abbrev pub steps_left : Part → ℕ → Expect
steps_left p zero = after_part p
steps_left p (suc n) = a_step_line p n

-- the word that begins a derivation
abbrev pub part_word : Part → Line
part_word part_first = codes "first"
part_word part_next = codes "next"
part_word part_bad = codes "bad"

-- the numbers of bits, of faults, and the size
pub record Numbers : Type 0 where
  pub bits : ℕ
  pub faults : ℕ
  pub size : ℕ

-- the numbers of bits and faults and the size, where all are given
abbrev pub numbers_from : Option ℕ → Option ℕ → Option ℕ → Option Numbers
numbers_from (Some b) (Some f) (Some s) = Some (record { bits = b; faults = f; size = s })
numbers_from _ _ _ = None

-- the number below 2^31 that a word is
abbrev pub small_in : Line → Option ℕ
small_in w = number_in (2 ^ 31) w

-- the size: in version 1 the number of faults, in version 2 the word after `size`
abbrev pub size_of : Version → Option ℕ → List Line → Option ℕ
size_of version_one faults [] = faults
size_of version_two faults (z ∷ s ∷ []) = if same_text z (codes "size") then small_in s else None
size_of _ faults words = None

-- the numbers that the words after `bits` say
abbrev pub numbers_of_words : Version → List Line → Option Numbers
numbers_of_words version (b ∷ f ∷ n ∷ words) =
    if same_text f (codes "faults") then numbers_from (small_in b) (small_in n) (size_of version (small_in n) words) else None
numbers_of_words version _ = None

-- the numbers that the second line says
abbrev pub numbers_in : Version → Line → Option Numbers
numbers_in version line = after_word (codes "bits") (numbers_of_words version) (words_in line)

-- what is expected after a line, or None where the line has not its form
abbrev pub after : Expect → Line → Option Expect
after a_version line =
    if same_text line (version_line version_one) then Some (the_numbers_of version_one) else
    (if same_text line (version_line version_two) then Some (the_numbers_of version_two) else None)
after (the_numbers_of version) line = option_map (λ x. sets_count) (numbers_in version line)
after sets_count line = option_map sets_left (count_in (codes "sets") line)
after (a_set_line k) line = option_map (λ x. trace_count k) (set_in line)
after (trace_count k) line = option_map (λ n. text_left n k) (count_in (codes "trace") line)
after (a_text_line n k) line = Some (text_left n k)
after clauses_count line = option_map clauses_left (count_in (codes "invariant") line)
after (a_clause_line n) line = option_map (λ x. clauses_left n) (clause_in line)
after (steps_count p) line = option_map (steps_left p) (count_in (part_word p) line)
after (a_step_line p n) line = option_map (λ x. steps_left p n) (step_in line)
after the_end line = if same_text line (codes "end") then Some no_line else None
after no_line line = None

-- what comes next after a line, where something was to come before it
abbrev pub then_after : Option Expect → Line → Option Expect
then_after None line = None
then_after (Some e) line = after e line

-- after lines
abbrev pub after_lines : Option Expect → List Line → Option Expect
after_lines o [] = o
after_lines o (line ∷ lines) = after_lines (then_after o line) lines

-- Lines are taken exactly where they begin a certificate, and up to the end exactly where they are one's.
abbrev pub TakenLinesBegin : Type 0
TakenLinesBegin =
    (lines : List Line) → AllByRecursion IsLine lines →
    (((e : Expect) × (after_lines (Some a_version) lines ≡ Some e)) ↔ BeginsOne lines)
    × ((after_lines (Some a_version) lines ≡ Some no_line) ↔ ((c : Certificate) × AreLinesOf lines c))

-- bytes spell a certificate, or have a first bad line, or end before a line that is missing
abbrev pub EachTextIsJudged : Type 0
EachTextIsJudged = (bytes : List ℕ) →
    ((c : Certificate) × SpellsCertificate bytes c) ⊎ (((n : ℕ) × IsBadLine bytes n) ⊎ ((n : ℕ) × EndsBefore bytes n))
