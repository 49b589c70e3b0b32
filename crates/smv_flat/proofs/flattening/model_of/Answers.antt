-- The model of an accepted program is its only one, and what is handed on means something.
use Rattle.std.proofs.Common.{◌≡◌}
use Rattle.std.proofs.lemmas.Result.{IfOk-weaker}
use Rattle.smv_language.specs.Language.{FlatModel as ModelTree, model_tree}
use Rattle.smv_flat_laws.specs.Looks.{ActualsMean}
use Rattle.smv_flat_laws.specs.Rules.{IsAccepted}
use Rattle.smv_flat_laws.specs.Model.{IsFlatOf}
use Rattle.smv_flat_laws.proofs.Walkable.{walkable_accepted}
use Rattle.smv_scope.specs.SceneTree.{program_of}
use Rattle.smv_flat.proofs.ActualLaws.{actuals_mean}
use Rattle.smv_flat.proofs.FlatFaults.{ok_always}
use Rattle.smv_flat.proofs.OnlyModel.{only_model}
use Rattle.smv_flat.proofs.flattening.model_of.Goals as goal

pub returns-clause-alone : goal.returns-clause-alone
returns-clause-alone c =
    let p = program_of c.args.scope.now.scene in
    let accepted : IsAccepted p = walkable_accepted p c.requires.scope.1.scene.set.walkable c.in_ok-judge.ensures.kept in
    IfOk-weaker c.build.result (λ m. IsFlatOf p (model_tree m)) (λ m. (k : ModelTree) → IsFlatOf p k → k ≡ model_tree m)
    (λ m is k also. only_model c.args.scope.now.scene c.args.scope.now.needs c.requires.scope.1.scene c.requires.scope.1.needs accepted (model_tree m) k is also) c.build.ensures.flat

pub returns-clause-meant : goal.returns-clause-meant
returns-clause-meant c =
    let p = program_of c.args.scope.now.scene in
    ok_always c.build.result (ActualsMean p) (actuals_mean c.args.scope.now.scene c.requires.scope.1.scene (walkable_accepted p c.requires.scope.1.scene.set.walkable c.in_ok-judge.ensures.kept))
