use Rattle.std.proofs.Common.{◌∙◌, sym}
use Rattle.cut_sets.proofs.SetLemmas.{rises_then, rises_where}
use Rattle.cut_sets.proofs.sets.is_rising.Goals as goal

pub returns : goal.returns
returns c = (λ e. rises_then c.args.set.now (sym c.rises.ensures ∙ e), λ h. c.rises.ensures ∙ rises_where c.args.set.now h)
