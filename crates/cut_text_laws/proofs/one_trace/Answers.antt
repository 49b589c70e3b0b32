use Rattle.cut_text_laws.proofs.OneTrace.{one_trace}
use Rattle.cut_text_laws.proofs.one_trace.Goals as goal

pub returns : goal.returns
returns c = one_trace
