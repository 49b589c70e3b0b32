use Rattle.smv_flat_laws.proofs.alike_break_alike.Goals as goal
use Rattle.smv_flat_laws.proofs.AlikeBreak.{alike_break}

pub returns : goal.returns
returns c = alike_break
