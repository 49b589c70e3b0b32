use Rattle.cut_reach_laws.proofs.Answered.{answers_caused}
use Rattle.cut_reach_laws.proofs.answers_are_caused.Goals as goal

pub returns : goal.returns
returns c = answers_caused
