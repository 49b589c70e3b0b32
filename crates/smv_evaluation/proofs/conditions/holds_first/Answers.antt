use Rattle.std.proofs.Common.{◌≡◌, ◌∙◌, ◌↔◌, IsTrue, ap, sym, subst}
use Rattle.smv_language.specs.ModelTree.{model_tree}
use Rattle.smv_evaluation.specs.MomentTables.{first_holds}
use Rattle.smv_evaluation.specs.EvaluableModels.{values_in}
use Rattle.smv_evaluation.specs.Stops.{IsFirstMoment}
use Rattle.smv_evaluation.proofs.ConditionLaws.{first_law}
use Rattle.smv_evaluation.proofs.conditions.holds_first.Goals as goal

pub returns : goal.returns
returns c =
    let same : c.first_holds.result ≡ first_holds c.args.t.now.model c.args.now.now = c.first_holds.ensures ∙ ap (λ m. first_holds m c.args.now.now) c.model.ensures.model in
    subst (λ b. IsTrue b ↔ IsFirstMoment (model_tree c.args.t.now.model) (values_in (model_tree c.args.t.now.model) c.args.now.now)) (sym same)
    (first_law c.args.t.now.model c.requires.model c.args.t.now.typed c.args.now.now c.requires.filled)
