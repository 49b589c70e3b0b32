use Rattle.cut_right_laws.proofs.Minimal.{right_sets_minimal}
use Rattle.cut_right_laws.proofs.right_sets_are_minimal.Goals as goal

pub returns : goal.returns
returns g c = right_sets_minimal _ g.T.Traces.is_trace g.T.Traces.reaches g.T.Traces.has_failed
