use Rattle.std.proofs.Common.{sym, codes}
use Rattle.cert_laws.specs.LineReading.{each_in}
use Rattle.cert_laws.specs.ExpectedLines.{small_in}
use Rattle.cert_text.proofs.LineLaws.{not_after}
use Rattle.cert_text.proofs.lines.set_in.Goals as goal

pub returns-in-None : goal.returns-in-None
returns-in-None c = sym (not_after (codes "set") (each_in small_in) c.args.line.now c.in-None.ensures)
