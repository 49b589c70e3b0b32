use Rattle.std.proofs.Common.{sym, codes}
use Rattle.cert_laws.specs.LineReading.{step_of_words}
use Rattle.cert_text.proofs.LineLaws.{not_after}
use Rattle.cert_text.proofs.lines.step_in.Goals as goal

pub returns-in-None : goal.returns-in-None
returns-in-None c = sym (not_after (codes "step") step_of_words c.args.line.now c.in-None.ensures)
