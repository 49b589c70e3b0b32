use Rattle.std.proofs.Common.{◌≡◌, map, take}
use Rattle.smv_language.specs.ProgramTree.{assignment_tree}
use Rattle.fault_instructions.specs.Instructions.{instruction_tree, is_affected}
use Rattle.fault_weave.specs.WovenProgram.{woven_assignment}
use Rattle.fault_weave.proofs.rename.renamed_assignments.Given as goal

abbrev pub invariant-loop-assignment : goal.invariant-loop-assignment
invariant-loop-assignment l =
    map assignment_tree l.made ≡ map (woven_assignment (is_affected (instruction_tree l.i) l.owner)) (map assignment_tree (take l.assignment-index l.assignments))
