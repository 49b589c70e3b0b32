use Rattle.std.proofs.Common.{◌≡◌, ◌∙◌, ap, length, get_or, arith}
use Rattle.smv_language.specs.ModelTree.{model_tree}
use Rattle.smv_type_laws.specs.Models.{judged_variables}
use Rattle.smv_types.proofs.PartLaws.{defined_more}
use Rattle.smv_types.proofs.definitions.judge_definitions.Goals as goal

pub loop-definition-preserved : goal.loop-definition-preserved
loop-definition-preserved c =
    let same : c.as_slice-definition-items.result.now ≡ c.args.m.now.definitions = c.as_slice-definition-items.ensures in
    let within : length c.as_slice-definition-items.result.now ≡ length c.args.m.now.definitions = ap length same in
    defined_more (judged_variables (model_tree c.args.m.now).variables) c.args.m.now.definitions c.loop-definition.definition-index c.definition-item.result c.loop-definition.defined c.in_ok-defined.defined
    (omega (arith, within)) (c.definition-item.is ∙ ap (λ fs. get_or fs c.loop-definition.definition-index c.definition-item.result) same) c.loop-definition.invariant c.in_ok-defined.ensures.variables
    c.in_ok-defined.ensures.kinds c.in_ok-defined.ensures.first
