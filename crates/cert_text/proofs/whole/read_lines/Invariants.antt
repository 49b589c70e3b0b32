use Rattle.std.proofs.Common.{length}
use Rattle.cert_text.proofs.WholeLaws.{IsRead}
use Rattle.cert_text.proofs.whole.read_lines.Given as goal

abbrev pub invariant-loop-line : goal.invariant-loop-line
invariant-loop-line l = IsRead l.bytes l.rest l.number l.reading

abbrev pub decreases-loop-line : goal.decreases-loop-line
decreases-loop-line l = length l.rest
