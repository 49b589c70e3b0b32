use Rattle.std.proofs.Common.{◌∙◌, ap, sym, subst}
use Rattle.smv_language.specs.declared.model.FlatModel.{FlatModel}
use Rattle.smv_language.specs.ModelTree.{model_tree}
use Rattle.smv_evaluation.specs.MomentTables.{filled, HasRoom, HasValues}
use Rattle.smv_evaluation.specs.EvaluableModels.{IsFilled}
use Rattle.smv_evaluation.proofs.FilledLaws.{filled_law, lawful_values}
use Rattle.smv_evaluation.proofs.table.fill.Goals as goal

pub write-requires-clause-values : goal.write-requires-clause-values
write-requires-clause-values c = subst (λ m. HasValues m c.args.v.now) (sym c.model.ensures.model) (lawful_values c.args.t.now.model c.args.v.now c.requires.lawful)

pub write-requires-clause-room : goal.write-requires-clause-room
write-requires-clause-room c = subst (λ m. HasRoom m c.args.into.now) (sym c.model.ensures.model) c.requires.room

pub returns-clause-entries : goal.returns-clause-entries
returns-clause-entries c = c.write.ensures.entries ∙ ap (λ (m : FlatModel). filled m c.args.v.now) c.model.ensures.model

pub returns-clause-filled : goal.returns-clause-filled
returns-clause-filled c =
    subst (IsFilled (model_tree c.args.t.now.model)) (sym (returns-clause-entries c)) (filled_law c.args.t.now.model c.args.v.now c.requires.model c.args.t.now.typed c.requires.lawful)

pub returns-clause-room : goal.returns-clause-room
returns-clause-room c = subst (λ (m : FlatModel). HasRoom m c.write.new.self) c.model.ensures.model c.write.ensures.room
