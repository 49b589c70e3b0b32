use Rattle.std.proofs.Common.{◌≡◌, map, take}
use Rattle.smv_language.specs.ProgramTree.{module_tree}
use Rattle.smv_language.proofs.copy_program.copy_modules.Given as goal

abbrev pub invariant-loop-module : goal.invariant-loop-module
invariant-loop-module l = map module_tree l.made ≡ map module_tree (take l.module-index l.modules)
