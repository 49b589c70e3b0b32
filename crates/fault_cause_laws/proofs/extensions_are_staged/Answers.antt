use Rattle.fault_cause_laws.proofs.Staged.{extensions_staged}
use Rattle.fault_cause_laws.proofs.extensions_are_staged.Goals as goal

pub returns : goal.returns
returns c = extensions_staged
