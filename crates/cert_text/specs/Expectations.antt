-- What the versions, parts and expectations of the code are in the definitions.
use Rattle.cert_laws.specs.Certificate.{Part, part_first, part_next, part_bad}
use Rattle.cert_laws.specs.CertificateText.{Version, version_one, version_two}
use Rattle.cert_laws.specs.ExpectedLines.{Numbers, Expect, a_version, the_numbers_of, sets_count, a_set_line, trace_count, a_text_line}
use Rattle.cert_laws.specs.ExpectedLines.{clauses_count, a_clause_line, steps_count, a_step_line, the_end, no_line}
use Rattle.cert_text.specs.declared.lines.Version.{Version as Named}
use Rattle.cert_text.specs.declared.lines.Version.TheVariants as version
use Rattle.cert_text.specs.declared.lines.HeadNumbers.{HeadNumbers as Given}
use Rattle.cert_text.specs.declared.reading.TextPart.{TextPart as Kind}
use Rattle.cert_text.specs.declared.reading.TextPart.TheVariants as part
use Rattle.cert_text.specs.declared.reading.Expect.{Expect as Wanted}
use Rattle.cert_text.specs.declared.reading.Expect.TheVariants as expect

-- the code's version as the definitions see it
abbrev pub told_version : Named → Version
told_version version.One = version_one
told_version version.Two = version_two

-- the code's numbers as the definitions see them
abbrev pub told_numbers : Given → Numbers
told_numbers n = record { bits = n.bits; faults = n.faults; size = n.size }

-- the code's derivation as the definitions see it
abbrev pub told_part : Kind → Part
told_part part.First = part_first
told_part part.Next = part_next
told_part part.Bad = part_bad

-- what the code waits for as the definitions see it
abbrev pub told : Wanted → Expect
told expect.Version = a_version
told (expect.Numbers v) = the_numbers_of (told_version v)
told expect.SetsCount = sets_count
told (expect.SetLine k) = a_set_line k
told (expect.TraceCount k) = trace_count k
told (expect.TextLine n k) = a_text_line n k
told expect.ClausesCount = clauses_count
told (expect.ClauseLine n) = a_clause_line n
told (expect.StepsCount p) = steps_count (told_part p)
told (expect.StepLine p n) = a_step_line (told_part p) n
told expect.End = the_end
told expect.NoLine = no_line
