use Rattle.cert_laws.proofs.Made.{goals_follow}
use Rattle.cert_laws.proofs.goals_follow.Goals as goal

pub returns : goal.returns
returns c = goals_follow
