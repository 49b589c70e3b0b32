use Rattle.fault_woven_laws.proofs.woven_breaks_none.Goals as goal
use Rattle.fault_woven_laws.proofs.WovenLaws.{woven_none}

pub returns : goal.returns
returns c = woven_none
