use Rattle.fault_weave.proofs.WovenNominal.{woven_extends}
use Rattle.fault_weave.proofs.woven_extends.Goals as goal

pub returns : goal.returns
returns c = λ p i weavable. woven_extends p i weavable
