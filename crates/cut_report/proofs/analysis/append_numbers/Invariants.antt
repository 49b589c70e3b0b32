use Rattle.std.proofs.Common.{◌≡◌, ◌++◌, drop}
use Rattle.cut_text_laws.specs.AnalysisText.{numbers_text}
use Rattle.cut_report.proofs.analysis.append_numbers.Given as goal

abbrev pub invariant-loop-number : goal.invariant-loop-number
invariant-loop-number l = l.text ++ numbers_text (drop l.number-index l.numbers) ≡ l.initial.text ++ numbers_text l.numbers
