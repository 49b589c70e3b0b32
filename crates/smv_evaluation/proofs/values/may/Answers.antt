use Rattle.std.proofs.Common.{◌↔◌, IsTrue, sym, subst}
use Rattle.smv_language.specs.ModelTree.{model_tree, flat_tree}
use Rattle.smv_evaluation.specs.EvaluableModels.{MayGive}
use Rattle.smv_evaluation.proofs.ValueLaws.{may_law}
use Rattle.smv_evaluation.proofs.values.may.Goals as goal

pub returns : goal.returns
returns c =
    subst (λ b. IsTrue b ↔ MayGive (model_tree c.args.t.now.model) c.args.now.now c.args.next.now (flat_tree c.args.e.now) c.args.v) (sym c.may_in.ensures)
    (may_law (model_tree c.args.t.now.model) c.requires.model c.args.t.now.typed c.args.now.now c.args.next.now c.requires.filled_now c.requires.filled_next c.args.e.now c.requires.own c.requires.kept c.args.v c.requires.numbered)
