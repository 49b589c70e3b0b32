use Rattle.cert_text.proofs.WholeLaws.{fault_bad, fault_ends}
use Rattle.cert_text.proofs.whole.read.Goals as goal

pub returns-clause-bad : goal.returns-clause-bad
returns-clause-bad c = λ n e. fault_bad c.args.bytes.now c.read_lines.result n c.read_lines.ensures.err e

pub returns-clause-ends : goal.returns-clause-ends
returns-clause-ends c = λ n e. fault_ends c.args.bytes.now c.read_lines.result n c.read_lines.ensures.err e

pub returns-clause-ok : goal.returns-clause-ok
returns-clause-ok c = c.read_lines.ensures.ok
