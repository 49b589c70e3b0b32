use Rattle.std.proofs.Common.{sym, codes}
use Rattle.cert_laws.specs.ExpectedLines.{numbers_of_words}
use Rattle.cert_text.specs.Expectations.{told_version}
use Rattle.cert_text.proofs.LineLaws.{not_after}
use Rattle.cert_text.proofs.lines.numbers_in.Goals as goal

pub returns-in-None : goal.returns-in-None
returns-in-None c = sym (not_after (codes "bits") (numbers_of_words (told_version c.args.version)) c.args.line.now c.in-None.ensures)
