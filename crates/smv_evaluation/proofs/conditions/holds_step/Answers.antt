use Rattle.std.proofs.Common.{◌≡◌, ◌∙◌, ◌↔◌, IsTrue, ap, sym, subst}
use Rattle.smv_language.specs.ModelTree.{model_tree}
use Rattle.smv_evaluation.specs.MomentTables.{step_holds}
use Rattle.smv_evaluation.specs.EvaluableModels.{values_in}
use Rattle.smv_evaluation.specs.Stops.{IsNextMoment}
use Rattle.smv_evaluation.proofs.ConditionLaws.{step_law}
use Rattle.smv_evaluation.proofs.conditions.holds_step.Goals as goal

pub returns : goal.returns
returns c =
    let same : c.step_holds.result ≡ step_holds c.args.t.now.model c.args.now.now c.args.next.now =
    c.step_holds.ensures ∙ ap (λ m. step_holds m c.args.now.now c.args.next.now) c.model.ensures.model in
    subst (λ b. IsTrue b ↔ IsNextMoment (model_tree c.args.t.now.model) (values_in (model_tree c.args.t.now.model) c.args.now.now) (values_in (model_tree c.args.t.now.model) c.args.next.now)) (sym same)
    (step_law c.args.t.now.model c.requires.model c.args.t.now.typed c.args.now.now c.args.next.now c.requires.filled_now c.requires.filled_next)
