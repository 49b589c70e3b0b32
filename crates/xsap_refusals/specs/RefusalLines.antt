-- The line of each refusal, without its line feed.
use Rattle.std.specs.Prelude.{ℕ, List, ◌++◌, codes}
use Rattle.std.specs.Fmt.{decimal}
use Rattle.xsap_refusals.specs.declared.refusal.Subject.{Subject}
use Rattle.xsap_refusals.specs.declared.refusal.Subject.TheVariants as subject
use Rattle.xsap_refusals.specs.declared.refusal.RefusedPart.{RefusedPart}
use Rattle.xsap_refusals.specs.declared.refusal.RefusedPart.TheVariants as part
use Rattle.xsap_refusals.specs.declared.refusal.MomentReason.{MomentReason}
use Rattle.xsap_refusals.specs.declared.refusal.MomentReason.TheVariants as why
use Rattle.xsap_refusals.specs.declared.refusal.RefusalLine.{RefusalLine}
use Rattle.xsap_refusals.specs.declared.refusal.RefusalLine.TheVariants as refusal

-- the word of what is refused
abbrev pub subject_text : Subject → List ℕ
subject_text subject.Model = codes "model"
subject_text subject.Faults = codes "faults"
subject_text subject.Top = codes "top"
subject_text subject.Trace = codes "trace"
subject_text subject.Cert = codes "cert"
subject_text subject.Causes = codes "causes"
subject_text subject.Set = codes "set"

-- the word of how far the work came
abbrev pub part_text : RefusedPart → List ℕ
part_text part.Absent = codes "absent"
part_text part.Length = codes "length"
part_text part.Lex = codes "lex"
part_text part.Parse = codes "parse"
part_text part.Flat = codes "flat"
part_text part.Kinds = codes "type"
part_text part.Weave = codes "weave"
part_text part.Effect = codes "effect"
part_text part.Mark = codes "mark"
part_text part.Cause = codes "cause"
part_text part.Count = codes "count"
part_text part.Read = codes "read"

-- the word of why a moment is not accepted
abbrev pub why_text : MomentReason → List ℕ
why_text why.First = codes "first"
why_text why.Step = codes "step"
why_text why.Top = codes "top"

-- the line of refused words
abbrev pub words_line : ℕ → ℕ → List ℕ
words_line number place = codes "refused words " ++ (decimal number ++ (codes " at " ++ decimal place))

-- the line of a refused input
abbrev pub file_line : Subject → RefusedPart → ℕ → ℕ → List ℕ
file_line subject part number place =
    codes "refused " ++ (subject_text subject
    ++ (codes " " ++ (part_text part ++ (codes " " ++ (decimal number ++ (codes " at " ++ decimal place))))))

-- the line of a moment that is not accepted
abbrev pub moment_line : ℕ → MomentReason → List ℕ
moment_line moment why = codes "not accepted moment " ++ (decimal moment ++ (codes " " ++ why_text why))

-- the line of a line that is not accepted
abbrev pub rule_line : ℕ → ℕ → List ℕ
rule_line line rule = codes "not accepted line " ++ (decimal line ++ (codes " rule " ++ decimal rule))

-- the line of a refusal
abbrev pub line_of : RefusalLine → List ℕ
line_of (refusal.Words number place) = words_line number place
line_of (refusal.File subject part number place) = file_line subject part number place
line_of (refusal.Moment moment why) = moment_line moment why
line_of (refusal.Line line rule) = rule_line line rule

-- the place of a refusal
abbrev pub place_of : RefusalLine → ℕ
place_of (refusal.Words number place) = place
place_of (refusal.File subject part number place) = place
place_of (refusal.Moment moment why) = moment
place_of (refusal.Line line rule) = line

-- the two lines that an explanation begins with
abbrev pub head_text : List ℕ → ℕ → List ℕ → List ℕ
head_text meaning place found =
    codes "means: " ++ (meaning ++ (codes "\nplace " ++ (decimal place ++ (codes ": " ++ (found ++ codes "\n")))))
