use Rattle.std.proofs.Common.{sym, ◌∙◌}
use Rattle.cert_laws.specs.LineReading.{one_number}
use Rattle.cert_text.proofs.LineLaws.{said_after, not_after}
use Rattle.cert_text.proofs.lines.count_in.Goals as goal

pub returns-in-Some : goal.returns-in-Some
returns-in-Some c = c.only_count.ensures ∙ sym (said_after c.args.name.now one_number c.args.line.now c.in-Some.words.now c.in-Some.ensures)

pub returns-in-None : goal.returns-in-None
returns-in-None c = sym (not_after c.args.name.now one_number c.args.line.now c.in-None.ensures)
