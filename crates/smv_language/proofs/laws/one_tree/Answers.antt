use Rattle.smv_language.proofs.OneTree.{one_expression}
use Rattle.smv_language.proofs.laws.one_tree.Goals as goal

pub returns : goal.returns
returns c = λ ts a b p q. one_expression p q
