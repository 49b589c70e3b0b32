use Rattle.cut_frames.proofs.Short.{chains_short}
use Rattle.cut_frames.proofs.chains_are_short.Goals as goal

pub returns : goal.returns
returns c = chains_short
