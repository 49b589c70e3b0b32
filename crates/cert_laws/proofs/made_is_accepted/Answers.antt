use Rattle.cert_laws.proofs.Made.{made_is_accepted}
use Rattle.cert_laws.proofs.made_is_accepted.Goals as goal

pub returns : goal.returns
returns g c = made_is_accepted _ g.T.Texts.reads g.T.Traces.is_trace g.T.Traces.reaches g.T.Traces.has_failed
