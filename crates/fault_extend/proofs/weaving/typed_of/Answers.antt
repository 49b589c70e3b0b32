use Rattle.std.proofs.Common.{◌∙◌, ap, sym, subst}
use Rattle.smv_language.specs.Language.{program_tree, model_tree}
use Rattle.smv_type_laws.specs.Models.{IsTyped}
use Rattle.fault_extend.proofs.NameAnswers.{want_told}
use Rattle.fault_extend.proofs.Telling.{typed_wants}
use Rattle.fault_extend.proofs.weaving.typed_of.Goals as goal

pub returns-in-Err-clause-want : goal.returns-in-Err-clause-want
returns-in-Err-clause-want c = λ m accepted flat typed.
    ap (λ f. f.cause) c.of_program.ensures ∙ want_told (program_tree c.args.p.now) c.in-Err.fault c.flat_cause.result accepted c.in-Err.ensures.fault c.flat_cause.ensures

pub returns-in-Ok-check_model-clause-alone : goal.returns-in-Ok-check_model-clause-alone
returns-in-Ok-check_model-clause-alone c = λ m flat. c.in-Ok.ensures.alone m flat ∙ ap model_tree (sym c.in-Ok-check_model.ensures.model)

pub returns-in-Err-check_model-clause-want : goal.returns-in-Err-check_model-clause-want
returns-in-Err-check_model-clause-want c = λ m accepted flat typed.
    ap (λ f. f.cause) c.of_program-in-Err-check_model.ensures
    ∙ c.type_cause.ensures.want (typed_wants (model_tree c.in-Ok.model) c.in-Err-check_model.fault (subst IsTyped (c.in-Ok.ensures.alone m flat) typed) c.in-Err-check_model.ensures.fault)
