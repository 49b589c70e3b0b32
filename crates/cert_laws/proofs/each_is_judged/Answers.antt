use Rattle.cert_laws.proofs.Judging.{each_judged}
use Rattle.cert_laws.proofs.each_is_judged.Goals as goal

pub returns : goal.returns
returns g c = each_judged _ g.T.Texts.reads g.T.Traces.is_trace g.T.Traces.reaches g.T.Traces.has_failed
