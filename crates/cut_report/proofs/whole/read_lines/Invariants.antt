use Rattle.std.proofs.Common.{length}
use Rattle.smv_language.specs.ModelTree.{model_tree}
use Rattle.cut_report.proofs.WholeLaws.{IsRead}
use Rattle.cut_report.proofs.whole.read_lines.Given as goal

abbrev pub invariant-loop-line : goal.invariant-loop-line
invariant-loop-line l = IsRead (model_tree l.lookup.typed.now.model) l.bytes l.rest l.number l.reading

abbrev pub decreases-loop-line : goal.decreases-loop-line
decreases-loop-line l = length l.rest
