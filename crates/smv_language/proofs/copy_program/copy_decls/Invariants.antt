use Rattle.std.proofs.Common.{◌≡◌, map, take}
use Rattle.smv_language.specs.ProgramTree.{decl_tree}
use Rattle.smv_language.proofs.copy_program.copy_decls.Given as goal

abbrev pub invariant-loop-decl : goal.invariant-loop-decl
invariant-loop-decl l = map decl_tree l.made ≡ map decl_tree (take l.decl-index l.decls)
