use Rattle.std.proofs.Common.{◌≡◌, map, drop}
use Rattle.std.specs.Prelude.{flat_map}
use Rattle.smv_language.specs.ProgramTree.{decl_tree}
use Rattle.fault_rules.specs.KeyedLists.{with_texts}
use Rattle.fault_rules.specs.Names.{decl_names}
use Rattle.fault_rules.proofs.names.add_decls.Given as goal

abbrev pub invariant-loop-decl : goal.invariant-loop-decl
invariant-loop-decl l = with_texts l.names (flat_map decl_names (map decl_tree (drop l.decl-index l.decls))) ≡ with_texts l.initial.names (flat_map decl_names (map decl_tree l.decls))
