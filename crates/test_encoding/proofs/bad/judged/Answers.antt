use Rattle.test_encoding.proofs.Laws.{fit}
use Rattle.test_encoding.proofs.bad.judged.Goals as goal

pub returns-in-Ok : goal.returns-in-Ok
returns-in-Ok c = fit c.args.t.now.model c.args.top c.requires.closed c.requires.definitions c.requires.inputs c.in-Ok.ensures.kept
