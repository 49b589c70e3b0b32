use Rattle.std.proofs.Common.{subst, sym}
use Rattle.std.proofs.lemmas.Result.{err_from_is_err_and}
use Rattle.smv_language.specs.Language.{tree_of, flat_tree, model_tree}
use Rattle.smv_flat_laws.specs.ResolvedAt.{IsResolvedAt}
use Rattle.smv_flat.specs.ResolvedAt.{IsAt}
use Rattle.fault_extend.specs.GuardJudgement.{program_in}
use Rattle.fault_extend.proofs.NameAnswers.{some_fault}
use Rattle.fault_extend.proofs.guards.resolve.Goals as goal

pub returns-in_err-resolved-clause-told : goal.returns-in_err-resolved-clause-told
returns-in_err-resolved-clause-told c = λ at is.
    let exit = err_from_is_err_and c.from_residual.result c.from_residual.ensures.1 in
    let here : IsAt (program_in c.args.nominal) (model_tree c.model-model.result.now) c.args.instance at =
    subst (λ m. IsAt (program_in c.args.nominal) (model_tree m) c.args.instance at) (sym c.model-model.ensures.model) is in
    rw (exit.1, exit.2, c.in-Some.is)
    (some_fault (program_in c.args.nominal) at.place c.args.inputs (tree_of c.in-Some.e.now) c.in_err-resolved.field-0.0 (c.in_err-resolved.ensures.fault (program_in c.args.nominal) c.requires.scope at here))

pub returns-clause-form : goal.returns-clause-form
returns-clause-form c = λ at is.
    let here : IsAt (program_in c.args.nominal) (model_tree c.model-model.result.now) c.args.instance at =
    subst (λ m. IsAt (program_in c.args.nominal) (model_tree m) c.args.instance at) (sym c.model-model.ensures.model) is in
    rw c.in-Some.is
    (subst (λ m. IsResolvedAt (program_in c.args.nominal) (model_tree m) at.place (tree_of c.in-Some.e.now) (flat_tree c.in_ok-resolved.resolved)) c.model-model.ensures.model
    (c.in_ok-resolved.ensures.resolved (program_in c.args.nominal) c.requires.scope at here))
