use Rattle.std.proofs.Common.{map}
use Rattle.verb_run.proofs.AskedSize.{askable_if}
use Rattle.verb_run.proofs.asked.command_asked.Goals as goal

pub returns-clause-askable : goal.returns-clause-askable
returns-clause-askable c = askable_if (map (λ w. w.now) c.args.words.now) c.read_words.result c.read_words.ensures.ok
