-- An actual that is no plain name gets the next number.
use Rattle.std.proofs.Common.{sym, rules}
use Rattle.smv_scope.proofs.Naming.{actual_named}
use Rattle.smv_scope.proofs.names.Scene.add_actual.Goals as goal

pub returns : goal.returns
returns c = record {
  same = search rules;
  named =
      actual_named c.args.self.now c.push_definition.new.self c.set_formal.new.self c.args.spot c.args.item c.args.inner c.args.formal c.in_ok-made.made c.args.value
      c.in_ok-made.ensures.same c.in_ok-made.ensures.rows c.in_ok-made.ensures.pushed c.in_ok-made.ensures.number c.set_formal.ensures.same c.set_formal.ensures.formals (sym c.in_default.ensures);
}
