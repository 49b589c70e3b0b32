use Rattle.std.proofs.Common.{refl}
use Rattle.std.specs.Fmt.{digits}
use Rattle.cut_text_laws.proofs.small_examples.Goals as goal

pub returns-clause-sets : goal.returns-clause-sets
unfolding digits
returns-clause-sets c = refl

pub returns-clause-ending : goal.returns-clause-ending
unfolding digits
returns-clause-ending c = refl

pub returns-clause-size : goal.returns-clause-size
unfolding digits
returns-clause-size c = refl
