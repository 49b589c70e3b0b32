-- One formal is told.
use Rattle.std.proofs.Common.{◌≡◌, ◌<◌, ◌≤◌, length, get_or, refl, rules}
use Rattle.std.specs.Vec.{with_item}
use Rattle.smv_scope.proofs.RowLaws.{written, written_past}
use Rattle.smv_scope.proofs.names.Scene.set_formal.Goals as goal
use Rattle.smv_language.proofs.ListLaws.{get_there}

pub returns-in-Some-get_mut-clause-formals : goal.returns-in-Some-get_mut-clause-formals
returns-in-Some-get_mut-clause-formals c =
    let v = c.in-Some.formals.now in
    let x = c.in-Some.ensures in
    let within : c.args.spot < length c.args.self.now.formals.items = search rules in
    let value : v ≡ get_or c.args.self.now.formals.items c.args.spot v = search rules in
    written c.args.self.now.formals.items c.args.spot v (with_item v c.args.formal c.args.known) c.args.formal c.args.known (get_there c.args.self.now.formals.items c.args.spot v within value) refl

pub returns-in_default-get_mut-clause-formals : goal.returns-in_default-get_mut-clause-formals
returns-in_default-get_mut-clause-formals c =
    let v = c.in-Some.formals.now in
    let within : c.args.spot < length c.args.self.now.formals.items = search rules in
    let value : v ≡ get_or c.args.self.now.formals.items c.args.spot v = search rules in
    let past : length v.items ≤ c.args.formal = search rules in
    written_past c.args.self.now.formals.items c.args.spot v c.args.formal c.args.known (get_there c.args.self.now.formals.items c.args.spot v within value) past
