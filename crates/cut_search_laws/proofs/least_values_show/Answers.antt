use Rattle.cut_search_laws.proofs.Leasts.{least_values_show}
use Rattle.cut_search_laws.proofs.least_values_show.Goals as goal

pub returns : goal.returns
returns c = least_values_show
