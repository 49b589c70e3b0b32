use Rattle.cert_text.specs.LineWords.{words_after}
use Rattle.cert_text.proofs.LineLaws.{unnamed_size}
use Rattle.cert_text.proofs.lines.named_size.Goals as goal

pub returns-in-None : goal.returns-in-None
returns-in-None c = λ faults. unnamed_size (words_after c.args.words.now) faults c.in-None.ensures
