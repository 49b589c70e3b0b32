-- A value that breaks no rule is resolved, or memory is wanting.
use Rattle.std.proofs.Common.{◌≡◌, not, ◌&&◌, false, IfErr, IfOk, sym, ◌∙◌, subst}
use Rattle.std.proofs.lemmas.Result.{IfOk-weaker}
use Rattle.smv_language.specs.Language.{tree_of, model_tree, flat_tree}
use Rattle.smv_flat_laws.specs.Rules.{SomeHasNoValue}
use Rattle.smv_scope.specs.declared.fault.FlatRule.TheVariants.{NoSuchName, NextHere, InputHere}
use Rattle.smv_scope.specs.declared.names.Scene.{Scene}
use Rattle.smv_scope.specs.declared.needs.Needs.{Needs}
use Rattle.smv_flat.specs.declared.resolve.ExpressionSource.{ExpressionSource}
use Rattle.smv_scope.specs.ClosedModels.{bounds_of}
use Rattle.smv_scope.specs.Faults.{IsWant}
use Rattle.smv_scope.specs.SceneTree.{program_of}
use Rattle.smv_flat.specs.ValueJudgement.{IsJudged}
use Rattle.smv_flat.specs.ResolverOf.{leaf_at, told_tree, asked_tree, IsKnown}
use Rattle.smv_flat_laws.specs.ResolvedAt.{IsResolvedAt}
use Rattle.smv_flat.specs.ResolvedAt.{IsValueFault}
use Rattle.smv_flat_laws.specs.NameResolution.{has_next}
use Rattle.smv_flat.proofs.FlatFaults.{err_weaker, ok_always}
use Rattle.smv_flat.proofs.OnlyModel.{second_not}
use Rattle.smv_flat.proofs.ResolvedAtLaws.{there, resolved_at, known_at, none_told, none_broken, want_value}
use Rattle.smv_flat.proofs.flattening.resolve_value.Goals as goal
use Rattle.smv_flat_laws.specs.ValueRules.{KeepsValue}

pub returns-in-None-clause-resolved : goal.returns-in-None-clause-resolved
returns-in-None-clause-resolved c = λ at is.
    let s : Scene = c.args.scope.now.scene in let n : Needs = c.args.scope.now.needs in
    IfOk-weaker c.resolve.result (λ made. told_tree made ≡ asked_tree (leaf_at s n c.args.spot) c.args.e.now)
    (λ made. IsResolvedAt (program_of s) (model_tree c.args.m.now) at.place (tree_of c.args.e.now) (flat_tree made))
    (λ made h. resolved_at s n c.requires.scope.1.scene c.requires.scope.1.needs is.accepted (model_tree c.args.m.now) c.args.spot at is (tree_of c.args.e.now) (flat_tree made) h)
    (subst (λ (q : ExpressionSource). IfOk c.resolve.result (λ made. told_tree made ≡ asked_tree (leaf_at s n q.spot) c.args.e.now)) c.source_at.ensures c.resolve.ensures.resolved)

pub returns-in-None-clause-fault : goal.returns-in-None-clause-fault
returns-in-None-clause-fault c = λ at is.
    let s : Scene = c.args.scope.now.scene in let n : Needs = c.args.scope.now.needs in
    let judged : IsJudged (program_of s) at.place (tree_of c.args.e.now) c.in_ok-judged.judged =
    c.in_ok-judged.ensures.judged at (there s n c.requires.scope.1.scene c.requires.scope.1.needs is.accepted (model_tree c.args.m.now) c.args.spot at is) in
    let value : SomeHasNoValue (program_of s) at.place (tree_of c.args.e.now) → ⊥ =
    none_told (program_of s) at.place c.args.inputs (tree_of c.args.e.now) c.in_ok-judged.judged judged (sym c.rule_at.ensures ∙ c.in-None.is) in
    let known : IsKnown (leaf_at s n c.args.spot) (bounds_of c.args.m.now) c.args.e.now =
    known_at s n c.requires.scope.1.scene c.requires.scope.1.needs is.accepted c.args.m.now c.args.spot at is (tree_of c.args.e.now) value in
    err_weaker c.resolve.result IsWant (IsValueFault (program_of s) at.place c.args.inputs (tree_of c.args.e.now))
    (λ f want. want_value (program_of s) at.place c.args.inputs (tree_of c.args.e.now) f want)
    (subst (λ (q : ExpressionSource). IsKnown (leaf_at s n q.spot) q.bounds c.args.e.now → IfErr c.resolve.result IsWant) c.source_at.ensures c.resolve.ensures.want known)

pub returns-in-None-clause-no_next : goal.returns-in-None-clause-no_next
returns-in-None-clause-no_next c = λ at is.
    let s : Scene = c.args.scope.now.scene in let n : Needs = c.args.scope.now.needs in
    let judged : IsJudged (program_of s) at.place (tree_of c.args.e.now) c.in_ok-judged.judged =
    c.in_ok-judged.ensures.judged at (there s n c.requires.scope.1.scene c.requires.scope.1.needs is.accepted (model_tree c.args.m.now) c.args.spot at is) in
    ok_always c.resolve.result (has_next (tree_of c.args.e.now) ≡ false)
    (sym judged.next ∙ second_not c.in_ok-judged.judged.no_value c.in_ok-judged.judged.next (c.in_ok-judged.judged.input && not c.args.inputs) NoSuchName NextHere InputHere (sym c.rule_at.ensures ∙ c.in-None.is))

pub returns-in-None-clause-kept : goal.returns-in-None-clause-kept
returns-in-None-clause-kept c = λ at is.
    let s : Scene = c.args.scope.now.scene in let n : Needs = c.args.scope.now.needs in
    let judged : IsJudged (program_of s) at.place (tree_of c.args.e.now) c.in_ok-judged.judged =
    c.in_ok-judged.ensures.judged at (there s n c.requires.scope.1.scene c.requires.scope.1.needs is.accepted (model_tree c.args.m.now) c.args.spot at is) in
    ok_always c.resolve.result (KeepsValue (program_of s) at.place c.args.inputs (tree_of c.args.e.now))
    (none_broken (program_of s) at.place c.args.inputs (tree_of c.args.e.now) c.in_ok-judged.judged judged (sym c.rule_at.ensures ∙ c.in-None.is))
