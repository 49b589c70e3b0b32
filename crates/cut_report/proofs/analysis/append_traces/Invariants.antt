use Rattle.std.proofs.Common.{◌≡◌, ◌++◌, ◌+◌, drop}
use Rattle.smv_language.specs.ModelTree.{model_tree}
use Rattle.cut_text_laws.specs.AnalysisText.{trace_parts}
use Rattle.cut_report.specs.AnalysisView.{told_traces}
use Rattle.cut_report.proofs.analysis.append_traces.Given as goal

abbrev pub invariant-loop-i : goal.invariant-loop-i
invariant-loop-i l =
    l.text ++ trace_parts (model_tree l.t.model) (l.i + 1) (told_traces l.t.model.symbols (drop l.i l.traces)) ≡ l.initial.text ++ trace_parts (model_tree l.t.model) 1 (told_traces l.t.model.symbols l.traces)
