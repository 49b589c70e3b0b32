use Rattle.std.proofs.Common.{◌≡◌, ◌++◌}
use Rattle.smv_language.specs.Language.{model_tree, told_trace}
use Rattle.cut_text_laws.specs.TraceText.{trace_text}
use Rattle.cut_report.proofs.TextLaws.{moments_from}
use Rattle.cut_report.proofs.traces.print_moments.Given as goal

abbrev pub invariant-loop-i : goal.invariant-loop-i
invariant-loop-i l = l.text ++ moments_from (model_tree l.m) l.m.symbols l.trace l.i ≡ trace_text (model_tree l.m) (told_trace l.m.symbols l.trace)
