use Rattle.std.proofs.Common.{◌≡◌, drop, map}
use Rattle.smv_language.specs.ProgramTree.{decl_tree}
use Rattle.fault_weave.specs.Lookups.{type_in_decls}
use Rattle.fault_weave.proofs.lookup.type_of_decls.Given as goal

abbrev pub invariant-loop-decl : goal.invariant-loop-decl
invariant-loop-decl l = type_in_decls (map decl_tree (drop l.decl-index l.decls)) l.x ≡ type_in_decls (map decl_tree l.decls) l.x
