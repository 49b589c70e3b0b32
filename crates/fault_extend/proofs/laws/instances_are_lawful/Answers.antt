use Rattle.fault_extend.proofs.laws.instances_are_lawful.Goals as goal
use Rattle.fault_extend.proofs.LawfulLaws.{lawful_instance}

pub returns : goal.returns
returns c = λ p m accepted is mean. lawful_instance p accepted m is mean
