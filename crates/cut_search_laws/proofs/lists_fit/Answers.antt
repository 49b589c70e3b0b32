use Rattle.cut_search_laws.proofs.Fitting.{lists_fit}
use Rattle.cut_search_laws.proofs.Sizes.{larger_serve}
use Rattle.cut_search_laws.proofs.lists_fit.Goals as goal

pub returns-clause-frames : goal.returns-clause-frames
returns-clause-frames c = lists_fit

pub returns-clause-sizes : goal.returns-clause-sizes
returns-clause-sizes c = larger_serve
