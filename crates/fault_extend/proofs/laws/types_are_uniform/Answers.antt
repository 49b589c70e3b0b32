use Rattle.fault_extend.proofs.JudgedModes.{types_uniform}
use Rattle.fault_extend.proofs.laws.types_are_uniform.Goals as goal

pub returns : goal.returns
returns c = λ p m accepted is typed at k x role type here kind. types_uniform p m accepted is typed at k x role type here kind
