use Rattle.fault_extend.proofs.JudgedModes.{good_is_judged}
use Rattle.fault_extend.proofs.laws.good_is_judged.Goals as goal

pub returns : goal.returns
returns c = λ p m i accepted is typed lawful good. good_is_judged p m i accepted is typed lawful good
