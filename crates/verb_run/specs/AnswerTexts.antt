-- The texts that the verbs answer with, but for the report of an analysis.
use Rattle.std.specs.Prelude.{ℕ, List, [], ◌∷◌, ◌++◌, Option, Some, None, length, slice_get, ◌-◌, codes}
use Rattle.std.specs.Fmt.{decimal}
use Rattle.smv_language.specs.Language.{Text, program_text, Value}
use Rattle.fault_weave.specs.Faults.{Fault}
use Rattle.sat_encoding_laws.specs.FlatTraces.{failed_set}
use Rattle.cut_report_laws.specs.ExtendedTraces.{Ending, complete, bounded, Analysis}
use Rattle.cut_report_laws.specs.AnalysisText.{size_line}
use Rattle.verb_loading.specs.Reports.{name_text}
use Rattle.verb_loading.specs.Cases.{Case, extension_of}
use Rattle.verb_loading.specs.CaseAnswers.{bits_of}

-- the name of a fault, where there is one
abbrev pub name_or_none : Option Fault → Text
name_or_none None = []
name_or_none (Some f) = name_text f

-- the names of the faults of these numbers, each after a space
abbrev pub failed_names : List Fault → List ℕ → Text
failed_names faults [] = []
failed_names faults (i ∷ is) = codes " " ++ (name_or_none (slice_get faults (i - 1)) ++ failed_names faults is)

-- what a replay says: that the top event is reached, and what failed
abbrev pub replay_text : Case → List (List Value) → Text
replay_text c trace = codes "reaches\nfailed" ++ (failed_names c.faults (failed_set c.flat c.modes trace) ++ codes "\n")

-- what a check says: that the certificate is accepted, and for which size
abbrev pub check_text : Case → ℕ → Text
check_text c size = codes "accepted\n" ++ size_line size (length c.faults)

-- how the search of a generated case ended
abbrev pub summary_ending : Ending → Text
summary_ending complete = codes "complete\n"
summary_ending (bounded k) = codes "bounded " ++ (decimal k ++ codes "\n")

-- the summary of a generated case: its stages, variables, faults and state bits, how many sets there are, and how the search ended
abbrev pub summary_text : Case → ℕ → Analysis → Text
summary_text c stages a =
    codes "stages " ++ (decimal stages
    ++ (codes " variables " ++ (decimal (length c.flat.variables)
    ++ (codes " faults " ++ (decimal (length c.faults)
    ++ (codes " bits " ++ (decimal (bits_of c)
    ++ (codes " sets " ++ (decimal (length a.sets)
    ++ (codes " " ++ summary_ending a.ending))))))))))

-- the text of the extension
abbrev pub extension_text : Case → Text
extension_text c = program_text (extension_of c)
