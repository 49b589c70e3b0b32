-- All names are read.
use Rattle.std.proofs.Common.{rules, ◌≡◌, false, ◌≤◌, length}
use Rattle.smv_language.specs.ExpressionTree.{tree_of}
use Rattle.smv_scope.specs.NextFlags.{flagged}
use Rattle.smv_scope.proofs.NamingLaws.{all_needed, all_read, all_found}
use Rattle.smv_scope.proofs.needs.NamedBy.of_defined.Goals as goal

pub returns-clause-needs : goal.returns-clause-needs
returns-clause-needs c =
    let past : length c.as_slice-each-items.result.now ≤ c.loop-each.each-index = search rules in
    let is : c.as_slice-each-items.result.now ≡ flagged false (tree_of c.args.defined.value.now) = search rules in
    all_needed c.args.scene.now c.args.defined.spot c.as_slice-each-items.result.now c.loop-each.each-index (tree_of c.args.defined.value.now) past is c.loop-each.named.needs.items c.loop-each.invariant.needs

pub returns-clause-input : goal.returns-clause-input
returns-clause-input c =
    let past : length c.as_slice-each-items.result.now ≤ c.loop-each.each-index = search rules in
    let is : c.as_slice-each-items.result.now ≡ flagged false (tree_of c.args.defined.value.now) = search rules in
    all_read c.args.scene.now c.args.defined.spot c.as_slice-each-items.result.now c.loop-each.each-index (tree_of c.args.defined.value.now) past is c.loop-each.named.input c.loop-each.invariant.input

pub returns-clause-found : goal.returns-clause-found
returns-clause-found c =
    let past : length c.as_slice-each-items.result.now ≤ c.loop-each.each-index = search rules in
    let is : c.as_slice-each-items.result.now ≡ flagged false (tree_of c.args.defined.value.now) = search rules in
    all_found c.args.scene.now c.args.defined.spot c.as_slice-each-items.result.now c.loop-each.each-index (tree_of c.args.defined.value.now) past is c.loop-each.invariant.found
