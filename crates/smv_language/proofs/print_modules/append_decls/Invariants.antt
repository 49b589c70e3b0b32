use Rattle.std.proofs.Common.{◌≡◌, ◌++◌, drop, map}
use Rattle.smv_language.specs.ProgramTree.{decl_tree}
use Rattle.smv_language.specs.Text.{all_of, decl_line}
use Rattle.smv_language.proofs.print_modules.append_decls.Given as goal

abbrev pub invariant-loop-decl : goal.invariant-loop-decl
invariant-loop-decl l =
    l.text ++ all_of (map decl_line (map decl_tree (drop l.decl-index l.decls))) ≡ l.initial.text ++ all_of (map decl_line (map decl_tree l.decls))
