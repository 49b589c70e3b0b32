use Rattle.std.proofs.Common.{◌∙◌, ap}
use Rattle.smv_language.specs.ModelTree.{model_tree}
use Rattle.sat_encoding_laws.specs.Lists.{first_list}
use Rattle.sat_encoding.proofs.lists.first_gates.Goals as goal

pub returns : goal.returns
returns c = c.in_ok-gates.ensures ∙ ap first_list (ap model_tree c.in_ok-source.ensures.model)
