-- The actuals of an instance.
use Rattle.std.proofs.Common.{◌≡◌, map, rules, ap, sym, subst, ◌∙◌}
use Rattle.smv_language.specs.Language.{instance, decl_tree, declared_tree, tree_of}
use Rattle.smv_scope.specs.NumberedScenes.{NamesDeclared}
use Rattle.smv_scope.proofs.NamingItems.{instance_named}
use Rattle.smv_scope.proofs.names.Scene.add_declared.Goals as goal

pub returns-in_ok-add_actuals-in-Instance-walked-clause-named : goal.returns-in_ok-add_actuals-in-Instance-walked-clause-named
returns-in_ok-add_actuals-in-Instance-walked-clause-named c =
    let old = c.args.self.now in
    let new = c.add_actuals.new.self in
    let d = decl_tree c.args.decl.now in
    let items : c.as_slice.result.now ≡ c.in-Instance.actuals = search rules in
    subst (λ w. NamesDeclared old new c.args.spot c.args.item d w) (sym c.in-Instance-walked.is)
    (instance_named old new c.args.spot c.args.item c.in-Instance-walked.inner d _ (map tree_of c.as_slice.result.now)
    (ap declared_tree c.in-Instance.is ∙ ap (λ xs. instance c.in-Instance.field-0 (map tree_of xs)) (sym items)) c.in_ok-add_actuals-in-Instance-walked.ensures.named)
