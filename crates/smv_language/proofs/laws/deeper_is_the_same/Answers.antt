use Rattle.smv_language.proofs.Monotone.{means_raised, values_raised}
use Rattle.smv_language.proofs.laws.deeper_is_the_same.Goals as goal

pub returns-clause-meaning : goal.returns-clause-meaning
returns-clause-meaning c = means_raised

pub returns-clause-values : goal.returns-clause-values
returns-clause-values c = values_raised
