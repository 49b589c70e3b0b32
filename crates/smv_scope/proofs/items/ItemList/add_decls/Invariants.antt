-- The items so far, with those that are left, are all.
use Rattle.std.proofs.Common.{◌≡◌, map, drop}
use Rattle.smv_language.specs.Language.{decl_tree, role_of}
use Rattle.smv_flat_laws.specs.Items.{a_declaration}
use Rattle.smv_scope.specs.ItemTree.{counted_of, with_items}
use Rattle.smv_scope.proofs.items.ItemList.add_decls.Given as goal

abbrev pub invariant-loop-decl : goal.invariant-loop-decl
invariant-loop-decl l = with_items (counted_of l.self) (map (a_declaration (role_of l.role)) (map decl_tree (drop l.decl-index l.decls))) ≡ with_items (counted_of l.initial.self) (map (a_declaration (role_of l.role)) (map decl_tree l.decls))
