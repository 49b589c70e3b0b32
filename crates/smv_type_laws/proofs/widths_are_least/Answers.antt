use Rattle.smv_type_laws.proofs.Widths.{widths_least}
use Rattle.smv_type_laws.proofs.widths_are_least.Goals as goal

pub returns : goal.returns
returns c = widths_least
