-- How a run ends: its number, and the line that a refusal says.
use Rattle.std.specs.Prelude.{◌≡◌, ℕ, ℤ, pos, ◌++◌, codes}
use Rattle.std.specs.Fmt.{decimal}
use Rattle.base_values.specs.declared.limits.TheConstants.{MOST_TOP_BYTES}
use Rattle.smv_language.specs.ProgramTree.{Text}
use Rattle.cut_text_laws.specs.Analysis.{Ending, complete, bounded}
use Rattle.verb_command_line.specs.declared.fault.WordFault.{WordFault}
use Rattle.verb_command_line.specs.CommandView.{rule_of, place_of}
use Rattle.verb_loading.specs.declared.status.Part.{Part}
use Rattle.verb_loading.specs.declared.status.Part.TheVariants as part
use Rattle.verb_loading.specs.declared.status.InputFault.{InputFault}
use Rattle.verb_loading.specs.declared.status.Why.{Why}
use Rattle.verb_loading.specs.declared.status.Why.TheVariants as why
use Rattle.verb_loading.specs.declared.status.Objection.TheVariants as objection
use Rattle.verb_loading.specs.declared.status.Refusal.{Refusal}
use Rattle.verb_loading.specs.declared.status.Refusal.TheVariants as refusal
use Rattle.verb_loading.specs.declared.status.Status.{Status}
use Rattle.verb_loading.specs.declared.status.Status.TheVariants as status

-- the number that the program ends with
abbrev pub number_of : Status → ℤ
number_of status.Done = pos 0
number_of (status.Bounded k) = pos 1
number_of (status.Words fault) = pos 2
number_of (status.Model fault) = pos 3
number_of (status.Faults fault) = pos 4
number_of (status.Top fault) = pos 5
number_of (status.NotAccepted o) = pos 6
number_of status.Desk = pos 7
number_of status.Memory = pos 8
number_of (status.Causes fault) = pos 9
number_of (status.Set fault) = pos 10

-- a status that is neither a failure of the desk nor want of memory
abbrev pub IsAnswer : Status → Type 0
IsAnswer status.Desk = ⊥
IsAnswer status.Memory = ⊥
IsAnswer _ = Unit {0}

-- the work is done, for all traces or for those of at most so many steps
abbrev pub IsFinished : Status → Type 0
IsFinished status.Done = Unit {0}
IsFinished (status.Bounded k) = Unit {0}
IsFinished _ = ⊥

-- where the status is bounded, it is so by this depth
abbrev pub IsBoundedAt : ℕ → Status → Type 0
IsBoundedAt depth s = (k : ℕ) → s ≡ status.Bounded k → k ≡ depth

-- the work is done as it was asked for: for all traces, or for those of at most this many steps
pub record EndsWithin (depth : ℕ) (s : Status) : Type 0 where
  pub finished : IsFinished s
  pub bounded : IsBoundedAt depth s

-- a run ends done where its analysis is complete, and else bounded
abbrev pub ended_with : Ending → Status
ended_with complete = status.Done
ended_with (bounded k) = status.Bounded k

-- the status that a run ends with after a refusal
abbrev pub status_of : Refusal → Status
status_of (refusal.Model fault) = status.Model fault
status_of (refusal.Faults fault) = status.Faults fault
status_of (refusal.Top fault) = status.Top fault
status_of (refusal.NotAccepted o) = status.NotAccepted o
status_of (refusal.Causes fault) = status.Causes fault
status_of (refusal.Set fault) = status.Set fault

-- the part as the line names it
abbrev pub part_text : Part → Text
part_text part.Absent = codes "absent "
part_text part.Length = codes "length "
part_text part.Lex = codes "lex "
part_text part.Parse = codes "parse "
part_text part.Flat = codes "flat "
part_text part.Kinds = codes "type "
part_text part.Weave = codes "weave "
part_text part.Effect = codes "effect "
part_text part.Count = codes "count "
part_text part.Read = codes "read "
part_text part.Mark = codes "mark "
part_text part.Cause = codes "cause "

-- the number of a rule and a place, with a line feed
abbrev pub rule_text : ℕ → ℕ → Text
rule_text number place = decimal number ++ (codes " at " ++ (decimal place ++ codes "\n"))

-- the part, the number of its rule, and the place
abbrev pub fault_text : InputFault → Text
fault_text fault = part_text fault.part ++ rule_text fault.number fault.place

-- the one line of refused words: the number of the rule that they break, and the place
abbrev pub words_text : WordFault → Text
words_text fault = codes "refused words " ++ rule_text (rule_of fault) (place_of fault)

-- why a moment is not accepted
abbrev pub why_text : Why → Text
why_text why.First = codes " first\n"
why_text why.Step = codes " step\n"
why_text why.Top = codes " top\n"

-- the moment of a number is not accepted
abbrev pub moment_text : ℕ → Why → Text
moment_text i w = codes "not accepted moment " ++ (decimal i ++ why_text w)

-- the rule of this number is broken at a line of a certificate
abbrev pub line_text : ℕ → ℕ → Text
line_text line rule = codes "not accepted line " ++ (decimal line ++ (codes " rule " ++ (decimal rule ++ codes "\n")))

-- the one line of a refusal
abbrev pub refusal_text : Refusal → Text
refusal_text (refusal.Model fault) = codes "refused model " ++ fault_text fault
refusal_text (refusal.Faults fault) = codes "refused faults " ++ fault_text fault
refusal_text (refusal.Top fault) = codes "refused top " ++ fault_text fault
refusal_text (refusal.NotAccepted (objection.Trace fault)) = codes "refused trace " ++ fault_text fault
refusal_text (refusal.NotAccepted (objection.Cert fault)) = codes "refused cert " ++ fault_text fault
refusal_text (refusal.NotAccepted (objection.Moment i w)) = moment_text i w
refusal_text (refusal.NotAccepted (objection.Line line rule)) = line_text line rule
refusal_text (refusal.Causes fault) = codes "refused causes " ++ fault_text fault
refusal_text (refusal.Set fault) = codes "refused set " ++ fault_text fault

-- the file is not there
abbrev pub absent : InputFault
absent = record { part = part.Absent; number = 1; place = 0 }

-- the text of a top event has more bytes than `MOST_TOP_BYTES`
abbrev pub top_too_long : InputFault
top_too_long = record { part = part.Length; number = 1; place = MOST_TOP_BYTES }
