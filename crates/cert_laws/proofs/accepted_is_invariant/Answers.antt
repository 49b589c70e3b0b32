use Rattle.cert_laws.proofs.Invariant.{accepted_is_invariant}
use Rattle.cert_laws.proofs.accepted_is_invariant.Goals as goal

pub returns : goal.returns
returns g c = accepted_is_invariant _ g.T.Texts.reads g.T.Traces.is_trace g.T.Traces.reaches g.T.Traces.has_failed
