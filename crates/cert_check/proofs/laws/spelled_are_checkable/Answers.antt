use Rattle.cert_check.proofs.Spelled.{spelled_checkable}
use Rattle.cert_check.proofs.laws.spelled_are_checkable.Goals as goal

pub returns : goal.returns
returns c = spelled_checkable
