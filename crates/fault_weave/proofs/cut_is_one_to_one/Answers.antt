use Rattle.fault_weave.proofs.OneToOne.{cut_is_one_to_one}
use Rattle.fault_weave.proofs.cut_is_one_to_one.Goals as goal

pub returns : goal.returns
returns c = λ p i weavable. cut_is_one_to_one p i weavable
