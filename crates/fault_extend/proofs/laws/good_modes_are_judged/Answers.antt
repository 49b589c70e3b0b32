use Rattle.fault_extend.proofs.JudgedModes.{good_modes}
use Rattle.fault_extend.proofs.laws.good_modes_are_judged.Goals as goal

pub returns : goal.returns
returns c = λ p m accepted is typed at k mode good. good_modes p m accepted is typed at k mode good
