-- One actual more.
use Rattle.std.proofs.Common.{◌<◌, ◌≤◌, length, map, rules, sym, subst}
use Rattle.std.proofs.lemmas.List.{length-map}
use Rattle.smv_language.specs.ExpressionTree.{tree_of}
use Rattle.smv_scope.proofs.Naming.{program_same, same_then}
use Rattle.smv_scope.proofs.NamingItems.{one_actual, all_actuals, tree_there}
use Rattle.smv_scope.proofs.names.Scene.add_actuals.Goals as goal

pub loop-formal-preserved : goal.loop-formal-preserved
loop-formal-preserved c =
    let old = c.args.self.now in
    let mid = c.loop-formal.self in
    let within : c.loop-formal.formal < length c.args.actuals.now = search rules in
    record {
      same = same_then old mid c.add_actual.new.self c.loop-formal.invariant.same c.in_ok-add_actual.ensures.same;
      named =
          one_actual old mid c.add_actual.new.self c.args.spot c.args.item c.args.inner (map tree_of c.args.actuals.now) c.loop-formal.formal (tree_of c.index-actuals-formal.result)
          (tree_there c.args.actuals.now c.loop-formal.formal c.index-actuals-formal.result within c.index-actuals-formal.is)
          (program_same old mid c.loop-formal.invariant.same.modules) c.loop-formal.invariant.named c.in_ok-add_actual.ensures.named;
    }

pub returns-clause-named : goal.returns-clause-named
returns-clause-named c =
    let past : length c.args.actuals.now ≤ c.loop-formal.formal = search rules in
    all_actuals c.args.self.now c.loop-formal.self c.args.spot c.args.item c.args.inner (map tree_of c.args.actuals.now) c.loop-formal.formal
    (subst (λ n. n ≤ c.loop-formal.formal) (sym (length-map c.args.actuals.now tree_of)) past) c.loop-formal.invariant.named
