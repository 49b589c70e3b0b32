use Rattle.fault_extend.proofs.InstanceLaws.{instances_listed}
use Rattle.fault_extend.proofs.laws.instances_are_listed.Goals as goal

pub returns : goal.returns
returns c = λ p instances accepted in_var same. instances_listed p instances accepted in_var same
