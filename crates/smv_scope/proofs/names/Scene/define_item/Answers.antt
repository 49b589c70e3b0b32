-- An item means what it is numbered as.
use Rattle.std.proofs.Common.{◌≡◌, None, refl, sym, ap, rules}
use Rattle.smv_language.specs.Language.{decl_tree, define_tree, role_of}
use Rattle.smv_scope.specs.ItemTree.{item_tree}
use Rattle.smv_scope.specs.Steps.{numbered_at}
use Rattle.smv_scope.proofs.Naming.{same_start}
use Rattle.smv_scope.proofs.NamingItems.{define_named, declared_named, other_named, no_item_named, no_names}
use Rattle.smv_scope.proofs.names.Scene.define_item.Goals as goal

pub returns-in_default-clause-named : goal.returns-in_default-clause-named
returns-in_default-clause-named c =
    let none : numbered_at c.args.self.now c.args.spot c.args.place ≡ None = search rules in no_item_named c.args.self.now c.args.spot c.args.place c.args.walked none

pub returns-in_ok-made-in-Defined-clause-named : goal.returns-in_ok-made-in-Defined-clause-named
returns-in_ok-made-in-Defined-clause-named c =
    define_named c.args.self.now c.push_definition.new.self c.args.spot c.args.place c.in_ok-made-in-Defined.made c.in-Some.numbered (define_tree c.in-Defined.define.now) _ c.args.walked
    c.in_ok-made-in-Defined.ensures.same c.in_ok-made-in-Defined.ensures.rows c.in_ok-made-in-Defined.ensures.pushed c.in_ok-made-in-Defined.ensures.number
    (sym c.in-Some.ensures) (ap item_tree c.in-Defined.is) refl refl refl

pub returns-in_ok-add_declared-in-Declared-clause-named : goal.returns-in_ok-add_declared-in-Declared-clause-named
returns-in_ok-add_declared-in-Declared-clause-named c =
    declared_named c.args.self.now c.add_declared.new.self c.args.spot c.args.place c.in-Some.numbered (role_of c.in-Declared.field-0) (decl_tree c.in-Declared.decl.now) c.args.walked
    (sym c.in-Some.ensures) (ap item_tree c.in-Declared.is) c.in_ok-add_declared-in-Declared.ensures.named

pub returns-in_default-item : goal.returns-in_default-item
returns-in_default-item c = record {
  same = same_start c.args.self.now;
  named =
      other_named c.args.self.now c.args.spot c.args.place c.in-Some.numbered c.args.walked (sym c.in-Some.ensures)
      (no_names c.in-Some.numbered.item c.in_default-item.not-Declared c.in_default-item.not-Defined);
}
