use Rattle.cut_reach_laws.proofs.Shown.{accepted_certifies}
use Rattle.cut_reach_laws.proofs.accepted_certifies_causes.Goals as goal

pub returns : goal.returns
returns c = accepted_certifies
