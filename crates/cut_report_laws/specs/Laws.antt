-- What the answer of a search for cut sets says of extended traces.
use Rattle.std.specs.Prelude.{◌≡◌, ℕ, List}
use Rattle.smv_language.specs.ProgramTree.{Text, Formula, ProgramTree}
use Rattle.fault_instructions.specs.Instructions.{InstructionTree}
use Rattle.fault_weave.specs.Faults.{Fault}
use Rattle.cert_laws.specs.ExtendedTraces.{IsExtensionModel}
use Rattle.cut_report_laws.specs.ExtendedTraces.{IsAnalysisOf}
use Rattle.cut_search_laws.specs.Problem.{Problem}
use Rattle.cut_search.specs.declared.answer.Analysis.{Analysis as Found}
use Rattle.cut_search.specs.Answer.{IsAnswer}
use Rattle.base_values.specs.declared.ending.Ending.{Ending as Printed}
use Rattle.cut_report.specs.AnalysisView.{told_analysis}
use Rattle.cut_text_laws.specs.Analysis.{told_ending}
use Rattle.cut_report_laws.specs.SearchAnswer.{ending_of, analysis_of, EndsBy}

-- An answer for the flat model of an extension is an analysis of the extension: its sets are right for all extended traces, or
-- for those of at most as many steps as the depth, and then a chain that long exists.
abbrev pub AnswersAreAnalyses : Type 0
AnswersAreAnalyses =
    (p : ProgramTree) (i : InstructionTree) (faults : List Fault) (top : Formula) (problem : Problem) →
    IsExtensionModel p i faults top problem.model problem.modes problem.top →
    (depth size : ℕ) (a : Found) → IsAnswer problem depth size a →
    IsAnalysisOf p i faults problem.model top size (analysis_of problem.model.symbols a)
    × EndsBy problem depth size a.sets (ending_of a.end)

-- what a report prints of an answer is the analysis that it tells
abbrev pub AnswersArePrinted : Type 0
AnswersArePrinted = (symbols : List Text) (a : Found) (ending : Printed) → told_ending ending ≡ ending_of a.end →
    told_analysis symbols a.sets a.traces a.first ending ≡ analysis_of symbols a
