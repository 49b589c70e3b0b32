-- What reading a certificate's lines gives, line by line.
use Rattle.std.specs.Prelude.{ℕ, zero, suc, List, [], ◌∷◌, ◌++◌, Option, Some, None, codes, if◌then◌else◌}
use Rattle.std.specs.Option.{option_map}
use Rattle.sat_clauses.specs.Literal.{Literal}
use Rattle.sat_clauses.specs.declared.step.Step.{Step}
use Rattle.cut_text_laws.specs.Lines.{Line}
use Rattle.cert_laws.specs.CertificateText.{version_line, version_one, version_two}
use Rattle.cert_laws.specs.LineReading.{count_in, set_in, clause_in, step_in}
use Rattle.cert_laws.specs.ExpectedLines.{Numbers, numbers_in, part_word}
use Rattle.cert_text.specs.declared.certificate.Certificate.{Certificate}
use Rattle.cert_text.specs.declared.lines.Version.{Version}
use Rattle.cert_text.specs.declared.lines.Version.TheVariants as version
use Rattle.cert_text.specs.declared.reading.TextPart.{TextPart}
use Rattle.cert_text.specs.declared.reading.TextPart.TheVariants as part
use Rattle.cert_text.specs.declared.reading.Expect.{Expect}
use Rattle.cert_text.specs.declared.reading.Expect.TheVariants as expect
use Rattle.cert_text.specs.declared.reading.CertificateReading.{CertificateReading}
use Rattle.cert_text.specs.Expectations.{told_version, told_part}
use Rattle.smv_language.specs.Texts.{same_text}

-- what comes next where so many sets, clauses or steps are left
abbrev pub sets_left : ℕ → Expect
sets_left zero = expect.ClausesCount
sets_left (suc k) = expect.SetLine k

-- what comes next where so many clauses are left
abbrev pub clauses_left : ℕ → Expect
clauses_left zero = expect.StepsCount part.First
clauses_left (suc n) = expect.ClauseLine n

-- what comes next after a derivation
abbrev pub after_part : TextPart → Expect
after_part part.First = expect.StepsCount part.Next
after_part part.Next = expect.StepsCount part.Bad
after_part part.Bad = expect.End

-- what comes next where so many steps of a derivation are left
abbrev pub steps_left : TextPart → ℕ → Expect
steps_left p zero = after_part p
steps_left p (suc n) = expect.StepLine p n

-- the version that the line names
abbrev pub version_in : Line → Option Version
version_in line = if same_text line (version_line version_one) then Some version.One else
    (if same_text line (version_line version_two) then Some version.Two else None)

-- what the reading is with what a line gives
abbrev pub then_expecting : CertificateReading → Expect → CertificateReading
then_expecting r e = record r { expect = e }

-- the reading after the line of the numbers
abbrev pub with_numbers : CertificateReading → Numbers → CertificateReading
with_numbers r x = record r {
  expect = expect.SetsCount;
  certificate = record r.certificate { bits = x.bits; faults = x.faults; size = x.size };
}

-- the reading after the line of a set
abbrev pub with_set : ℕ → CertificateReading → List ℕ → CertificateReading
with_set k r set = record r { expect = expect.TraceCount k; certificate = record r.certificate { sets = r.certificate.sets ++ set ∷ [] } }

-- where so many lines of a trace's text are left; at its end the text is kept
abbrev pub text_left : ℕ → ℕ → CertificateReading → CertificateReading
text_left zero k r = record r {
  expect = sets_left k;
  trace = [];
  certificate = record r.certificate { traces = r.certificate.traces ++ r.trace ∷ [] };
}
text_left (suc n) k r = record r { expect = expect.TextLine n k }

-- the reading after a line of a trace's text
abbrev pub with_line : ℕ → ℕ → CertificateReading → Line → CertificateReading
with_line n k r line = text_left n k (record r { trace = r.trace ++ line ∷ [] })

-- the reading after the line of a clause
abbrev pub with_clause : ℕ → CertificateReading → List Literal → CertificateReading
with_clause n r clause =
    record r { expect = clauses_left n; certificate = record r.certificate { invariant = r.certificate.invariant ++ clause ∷ [] } }

-- a certificate with one more step in a derivation
abbrev pub keeping : TextPart → Certificate → Step → Certificate
keeping part.First c s = record c { first = c.first ++ s ∷ [] }
keeping part.Next c s = record c { next = c.next ++ s ∷ [] }
keeping part.Bad c s = record c { bad = c.bad ++ s ∷ [] }

-- the reading after the line of a step
abbrev pub with_step : TextPart → ℕ → CertificateReading → Step → CertificateReading
with_step p n r s = record r { expect = steps_left p n; certificate = keeping p r.certificate s }

-- what comes next after the last line
abbrev pub end_in : Line → Option Expect
end_in line = if same_text line (codes "end") then Some expect.NoLine else None

-- what the reading is after one more line of what is expected, or None where the line has not its form
abbrev pub read_as : Expect → CertificateReading → Line → Option CertificateReading
read_as expect.Version r line = option_map (λ v. then_expecting r (expect.Numbers v)) (version_in line)
read_as (expect.Numbers v) r line = option_map (with_numbers r) (numbers_in (told_version v) line)
read_as expect.SetsCount r line = option_map (λ n. then_expecting r (sets_left n)) (count_in (codes "sets") line)
read_as (expect.SetLine k) r line = option_map (with_set k r) (set_in line)
read_as (expect.TraceCount k) r line = option_map (λ n. text_left n k r) (count_in (codes "trace") line)
read_as (expect.TextLine n k) r line = Some (with_line n k r line)
read_as expect.ClausesCount r line = option_map (λ n. then_expecting r (clauses_left n)) (count_in (codes "invariant") line)
read_as (expect.ClauseLine n) r line = option_map (with_clause n r) (clause_in line)
read_as (expect.StepsCount p) r line = option_map (λ n. then_expecting r (steps_left p n)) (count_in (part_word (told_part p)) line)
read_as (expect.StepLine p n) r line = option_map (with_step p n r) (step_in line)
read_as expect.End r line = option_map (then_expecting r) (end_in line)
read_as expect.NoLine r line = None

-- the reading after one more line, where it has its form
abbrev pub read_line : CertificateReading → Line → Option CertificateReading
read_line r line = read_as r.expect r line

-- after lines
abbrev pub then_read : Option CertificateReading → Line → Option CertificateReading
then_read None line = None
then_read (Some r) line = read_line r line

-- the reading after lines, where each has its form
abbrev pub read_lines : Option CertificateReading → List Line → Option CertificateReading
read_lines o [] = o
read_lines o (line ∷ lines) = read_lines (then_read o line) lines

-- before the first line
abbrev pub unread : CertificateReading
unread = record {
  expect = expect.Version;
  trace = [];
  certificate = record { bits = 0; faults = 0; size = 0; sets = []; traces = []; invariant = []; first = []; next = []; bad = [] };
}
