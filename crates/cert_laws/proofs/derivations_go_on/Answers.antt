use Rattle.cert_laws.proofs.Asked.{derivations_go_on}
use Rattle.cert_laws.proofs.derivations_go_on.Goals as goal

pub returns : goal.returns
returns c = derivations_go_on
