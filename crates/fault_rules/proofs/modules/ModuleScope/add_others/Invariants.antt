use Rattle.std.proofs.Common.{◌≡◌, map, drop}
use Rattle.smv_language.specs.ProgramTree.{decl_tree}
use Rattle.fault_rules.specs.KeyedLists.{with_entries}
use Rattle.fault_rules.specs.Locals.{other_entry, locals_in}
use Rattle.fault_rules.proofs.modules.ModuleScope.add_others.Given as goal

abbrev pub invariant-loop-decl : goal.invariant-loop-decl
invariant-loop-decl l = with_entries (locals_in l.self) (map other_entry (map decl_tree (drop l.decl-index l.decls))) ≡ with_entries (locals_in l.initial.self) (map other_entry (map decl_tree l.decls))
