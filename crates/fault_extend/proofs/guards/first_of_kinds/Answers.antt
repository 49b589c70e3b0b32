use Rattle.std.proofs.Common.{◌∙◌, sym}
use Rattle.std.specs.Option.{option_map}
use Rattle.smv_language.specs.Language.{declared_tree, flat_tree, model_tree}
use Rattle.smv_types.specs.Answers.{told_rules}
use Rattle.smv_types.specs.Calls.{shown}
use Rattle.fault_extend_laws.specs.Expressions.{broken_by}
use Rattle.fault_extend.specs.GuardJudgement.{kind_of_form}
use Rattle.fault_extend.proofs.KindAnswers.{kinds_some, kinds_none}
use Rattle.fault_extend.proofs.guards.first_of_kinds.Goals as goal

pub returns-in-Some : goal.returns-in-Some
returns-in-Some c =
    let m = model_tree c.args.typed.now.model in
    kinds_some m (declared_tree c.args.declared.now) (option_map flat_tree c.args.resolved.now.follows) (option_map flat_tree c.args.resolved.now.guard) c.judged-follows.result.rule c.judged-guard.result.rule c.in-Some.rule
    (c.judged-follows.ensures.rule ∙ (λ i. told_rules (broken_by m (option_map flat_tree (c.as_ref.ensures.value i)))))
    (c.judged-guard.ensures.rule ∙ (λ i. told_rules (broken_by m (option_map flat_tree (c.as_ref-2.ensures.value i))))) (sym c.lower_kind.ensures ∙ c.in-Some.is)

pub returns-in-None : goal.returns-in-None
returns-in-None c =
    let m = model_tree c.args.typed.now.model in
    c.demand.ensures
    ∙ kinds_none m (declared_tree c.args.declared.now) (option_map flat_tree c.args.resolved.now.follows) (option_map flat_tree c.args.resolved.now.guard) c.judged-follows.result.rule c.judged-guard.result.rule
    c.judged-follows.result.kind c.judged-guard.result.kind (c.judged-follows.ensures.rule ∙ (λ i. told_rules (broken_by m (option_map flat_tree (c.as_ref.ensures.value i)))))
    (c.judged-guard.ensures.rule ∙ (λ i. told_rules (broken_by m (option_map flat_tree (c.as_ref-2.ensures.value i))))) (sym c.lower_kind.ensures ∙ c.in-None.is)
    (λ e. c.judged-follows.ensures.kind e ∙ (λ i. option_map shown (kind_of_form m (option_map flat_tree (c.as_ref.ensures.value i)))))
    (λ e. c.judged-guard.ensures.kind e ∙ (λ i. option_map shown (kind_of_form m (option_map flat_tree (c.as_ref-2.ensures.value i)))))
