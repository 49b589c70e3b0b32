use Rattle.std.proofs.Common.{◌≡◌, map, drop}
use Rattle.std.specs.List.{list_all}
use Rattle.smv_language.specs.ProgramTree.{decl_tree}
use Rattle.fault_rules.specs.Negations.{decl_negates}
use Rattle.fault_rules.proofs.numbers.decls_negate.Given as goal

abbrev pub invariant-loop-decl : goal.invariant-loop-decl
invariant-loop-decl l = list_all decl_negates (map decl_tree (drop l.decl-index l.decls)) ≡ list_all decl_negates (map decl_tree l.decls)
