use Rattle.smv_type_laws.proofs.Flags.{same_judged}
use Rattle.smv_type_laws.specs.Models.{kind_of_leaf}
use Rattle.smv_type_laws.proofs.sets_change_nothing.Goals as goal

pub returns : goal.returns
returns c = λ m e right. same_judged (kind_of_leaf m) e right
