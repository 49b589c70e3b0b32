use Rattle.cut_reach_laws.proofs.Truths.{lawful_truths}
use Rattle.cut_reach_laws.proofs.lawful_tops_are_truths.Goals as goal

pub returns : goal.returns
returns c = lawful_truths
