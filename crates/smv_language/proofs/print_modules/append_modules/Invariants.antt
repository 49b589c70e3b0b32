use Rattle.std.proofs.Common.{◌≡◌, ◌++◌, drop, map}
use Rattle.smv_language.specs.ProgramTree.{module_tree}
use Rattle.smv_language.specs.Text.{all_of, module_text}
use Rattle.smv_language.proofs.print_modules.append_modules.Given as goal

abbrev pub invariant-loop-module : goal.invariant-loop-module
invariant-loop-module l =
    l.text ++ all_of (map module_text (map module_tree (drop l.module-index l.modules))) ≡ l.initial.text ++ all_of (map module_text (map module_tree l.modules))
