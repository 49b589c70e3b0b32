use Rattle.cert_laws.proofs.Analysed.{analysed_is_accepted}
use Rattle.cert_laws.proofs.analysed_is_accepted.Goals as goal

pub returns : goal.returns
returns g c = analysed_is_accepted g.R.TraceTexts.reads
