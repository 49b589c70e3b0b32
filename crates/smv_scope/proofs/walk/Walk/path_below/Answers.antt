-- The parts before, and the name.
use Rattle.std.proofs.Common.{rules, ◌∙◌, ◌++◌, ◌∷◌, [], ap}
use Rattle.smv_language.specs.ProgramTree.{Text}
use Rattle.smv_scope.proofs.PlaceLaws.{below_path, below_main}
use Rattle.smv_scope.proofs.walk.Walk.path_below.Goals as goal

pub returns-in_ok-push-in-Some : goal.returns-in_ok-push-in-Some
returns-in_ok-push-in-Some c =
    below_path c.args.self.now c.args.spot c.index.result.now c.args.name.now c.in-Some.path c.in_ok-below-in-Some.below c.push.new.self (search rules) c.index.ensures c.in-Some.is
    c.in_ok-below-in-Some.ensures
    (c.in_ok-push-in-Some.ensures.ok ∙ ap (λ (x : Text). c.in_ok-below-in-Some.below ++ x ∷ []) c.in_ok-name.ensures)

pub returns-in_ok-new-in-None : goal.returns-in_ok-new-in-None
returns-in_ok-new-in-None c =
    below_main c.args.self.now c.args.spot c.index.result.now c.args.name.now c.in_ok-new-in-None.field-0 (search rules) c.index.ensures c.in-None.is
    (c.in_ok-new-in-None.ensures ∙ ap (λ (x : Text). x ∷ []) c.in_ok-name.ensures)
