use Rattle.cert_laws.proofs.Objections.{one_objection, accepted_has_none}
use Rattle.cert_laws.proofs.one_objection.Goals as goal

pub returns-clause-one : goal.returns-clause-one
returns-clause-one g c = one_objection _ g.T.Texts.reads g.T.Traces.is_trace g.T.Traces.reaches g.T.Traces.has_failed

pub returns-clause-none : goal.returns-clause-none
returns-clause-none g c = accepted_has_none _ g.T.Texts.reads g.T.Traces.is_trace g.T.Traces.reaches g.T.Traces.has_failed
