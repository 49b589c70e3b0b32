-- The variable stands last.
use Rattle.std.proofs.Common.{◌∙◌, refl, ap}
use Rattle.smv_language.specs.ModelTree.{role_of}
use Rattle.smv_scope.proofs.MetLaws.{met_variable}
use Rattle.smv_scope.proofs.walk.Walk.add_variable.Goals as goal

pub returns-clause-met : goal.returns-clause-met
returns-clause-met c =
    let v = c.in_ok-variable.ensures in
    met_variable c.args.modules.now c.args.self.now c.args.declaring.spot c.args.declaring.item c.args.declaring.role c.args.declaring.decl.now.name c.requires.standing.within
    (record { spots = c.args.self.now.spots; variables = c.push.new.self; inside = c.args.self.now.inside })
    c.in_ok-variable.variable c.in_ok-number.number refl refl c.in_ok-push.ensures.ok (c.in_ok-number.ensures.same ∙ c.len-place.ensures)
    v.place v.name (ap role_of v.role) v.item v.number c.args.declaring.decl.now.what c.requires.values v.copied
