use Rattle.std.proofs.Common.{◌≡◌, map, take}
use Rattle.smv_language.specs.ProgramTree.{define_tree}
use Rattle.smv_language.proofs.copy_program.copy_defines.Given as goal

abbrev pub invariant-loop-define : goal.invariant-loop-define
invariant-loop-define l = map define_tree l.made ≡ map define_tree (take l.define-index l.defines)
