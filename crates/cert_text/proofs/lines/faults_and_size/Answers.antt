use Rattle.cert_text.specs.LineWords.{words_after}
use Rattle.cert_text.specs.Expectations.{told_version}
use Rattle.cert_text.proofs.LineLaws.{no_faults}
use Rattle.cert_text.proofs.lines.faults_and_size.Goals as goal

pub returns-in-None : goal.returns-in-None
returns-in-None c = no_faults (told_version c.args.version) c.args.bits (words_after c.args.words.now) c.in-None.ensures
