use Rattle.cert_laws.proofs.Sites.{first_broken}
use Rattle.cert_laws.proofs.first_broken_is_objection.Goals as goal

pub returns : goal.returns
returns g c = first_broken _ g.T.Texts.reads g.T.Traces.is_trace g.T.Traces.reaches g.T.Traces.has_failed
