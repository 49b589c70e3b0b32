use Rattle.std.proofs.Common.{◌≡◌, map, take}
use Rattle.smv_language.specs.ProgramTree.{module_tree}
use Rattle.fault_instructions.specs.Instructions.{instruction_tree}
use Rattle.fault_weave.specs.WovenProgram.{woven_tree}
use Rattle.fault_weave.proofs.weave.woven_modules.Given as goal

abbrev pub invariant-loop-owner : goal.invariant-loop-owner
invariant-loop-owner l = map module_tree l.made ≡ map (woven_tree (instruction_tree l.i)) (map module_tree (take l.owner-index l.modules))
