-- What the tables tell is what is found.
use Rattle.std.proofs.Common.{◌∙◌, ap, sym, subst}
use Rattle.smv_scope.specs.SceneTree.{IsFound, program_of}
use Rattle.smv_scope.specs.TableLookUps.{found_at}
use Rattle.smv_scope.proofs.SceneFound.{scene_found}
use Rattle.smv_scope.proofs.names.Scene.meaning.Goals as goal

pub returns-clause-found : goal.returns-clause-found
returns-clause-found c = λ is at e.
    subst (IsFound (program_of c.args.self.now) at.place c.args.name.now)
    (sym (c.look_up.ensures ∙ ap (λ xs. found_at c.args.self.now c.args.spot xs) c.parts.ensures.parts))
    (scene_found c.args.self.now is c.args.name.now c.args.spot at e)
