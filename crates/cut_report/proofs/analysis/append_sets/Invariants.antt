use Rattle.std.proofs.Common.{◌≡◌, ◌++◌, drop}
use Rattle.cut_text_laws.specs.AnalysisText.{set_lines}
use Rattle.cut_report.proofs.analysis.append_sets.Given as goal

abbrev pub invariant-loop-set : goal.invariant-loop-set
invariant-loop-set l = l.text ++ set_lines (drop l.set-index l.sets) ≡ l.initial.text ++ set_lines l.sets
