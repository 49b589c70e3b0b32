use Rattle.std.proofs.Common.{◌∙◌, ap}
use Rattle.smv_language.specs.ModelTree.{model_tree}
use Rattle.sat_encoding_laws.specs.Lists.{step_list}
use Rattle.sat_encoding.proofs.lists.step_gates.Goals as goal

pub returns : goal.returns
returns c = c.in_ok-gates.ensures ∙ ap step_list (ap model_tree c.in_ok-source.ensures.model)
