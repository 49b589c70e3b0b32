use Rattle.std.proofs.Common.{arith, ◌<◌, ◌^◌, length, sym, subst}
use Rattle.smv_language.specs.Language.{program_tree, model_tree}
use Rattle.smv_language.specs.declared.model.FlatModel.{FlatModel}
use Rattle.sat_encoding_laws.specs.Encodable.{IsEncodable}
use Rattle.sat_encoding_laws.proofs.FlatEncodable.{flat_models_encodable}
use Rattle.smv_evaluation.specs.EvaluableModels.{IsEvaluable}
use Rattle.smv_evaluation.proofs.ModelLaws.{evaluable}
use Rattle.test_encoding.proofs.Laws.{each_has_member, many}
use Rattle.test_encoding.proofs.models.typed_of.Goals as goal

pub returns-clause-encodable : goal.returns-clause-encodable
returns-clause-encodable g c =
    let m = c.in_ok-model.model in
    subst (λ (k : FlatModel). IsEncodable (model_tree k)) (sym c.in_ok-typed.ensures.model)
    (flat_models_encodable (program_tree c.args.p.now) (model_tree m) c.in_ok-model.ensures.accepted c.in_ok-model.ensures.flat c.in_ok-typed.ensures.typed (many (length m.symbols) c.in_ok-model.ensures.few)
    (each_has_member m.variables c.in_ok-model.ensures.members))

pub returns-clause-evaluable : goal.returns-clause-evaluable
returns-clause-evaluable g c =
    subst (λ (k : FlatModel). IsEvaluable (model_tree k)) (sym c.in_ok-typed.ensures.model) (evaluable (program_tree c.args.p.now) (model_tree c.in_ok-model.model) c.in_ok-model.ensures.flat)
