use Rattle.fault_woven_laws.proofs.woven_breaks_size_alone.Goals as goal
use Rattle.fault_woven_laws.proofs.WovenLaws.{size_alone_woven}

pub returns : goal.returns
returns c = size_alone_woven
