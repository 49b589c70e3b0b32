use Rattle.cert_check.specs.SiteFindings.{one_before, none_before}
use Rattle.cert_check.proofs.OrderLaws.{none_in_order}
use Rattle.cert_check.proofs.unlisted.listed_rule.Goals as goal

pub set_rule-requires-clause-order : goal.set_rule-requires-clause-order
set_rule-requires-clause-order c = none_in_order c.args.q.now.certificate.now.sets

pub returns-in-Some : goal.returns-in-Some
returns-in-Some c = one_before c.in-Some.rule c.in-Some.ensures

pub returns-in-None : goal.returns-in-None
returns-in-None c = none_before c.in-None.ensures
