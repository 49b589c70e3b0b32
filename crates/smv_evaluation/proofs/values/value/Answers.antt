use Rattle.std.proofs.Common.{sym, subst}
use Rattle.smv_language.specs.ModelTree.{model_tree, flat_tree}
use Rattle.smv_evaluation.specs.EvaluableModels.{Gives}
use Rattle.smv_evaluation.proofs.ValueLaws.{value_law}
use Rattle.smv_evaluation.proofs.values.value.Goals as goal

pub returns : goal.returns
returns c =
    subst (Gives (model_tree c.args.t.now.model) c.args.now.now c.args.next.now (flat_tree c.args.e.now)) (sym c.value_in.ensures)
    (value_law (model_tree c.args.t.now.model) c.requires.model c.args.t.now.typed c.args.now.now c.args.next.now c.requires.filled_now c.requires.filled_next c.args.e.now c.requires.own c.requires.kept)
