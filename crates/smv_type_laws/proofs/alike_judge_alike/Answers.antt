use Rattle.smv_type_laws.proofs.alike_judge_alike.Goals as goal
use Rattle.smv_type_laws.proofs.AlikeKinds.{alike_judged}

pub returns : goal.returns
returns c = alike_judged
