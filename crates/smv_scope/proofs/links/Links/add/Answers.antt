-- The row of a number gets a link more.
use Rattle.std.proofs.Common.{rules, ◌<◌, ◌≤◌, length, sym}
use Rattle.smv_scope.proofs.LinkLaws.{linked_row, linked_past}
use Rattle.smv_scope.proofs.links.Links.add.Goals as goal

pub returns-in_default : goal.returns-in_default
returns-in_default c =
    let past : length c.args.self.now.of.items ≤ c.args.from = search rules in
    sym (linked_past c.args.self.now.of.items c.args.from c.args.to past)

pub returns : goal.returns
returns c =
    let within : c.args.from < length c.args.self.now.of.items = search rules in
    linked_row c.args.self.now.of.items c.args.from c.args.to c.in-Some.links.now c.push.new.self within c.in-Some.ensures.value c.in_ok-push.ensures.items
