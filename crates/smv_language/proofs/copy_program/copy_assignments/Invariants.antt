use Rattle.std.proofs.Common.{◌≡◌, map, take}
use Rattle.smv_language.specs.ProgramTree.{assignment_tree}
use Rattle.smv_language.proofs.copy_program.copy_assignments.Given as goal

abbrev pub invariant-loop-assignment : goal.invariant-loop-assignment
invariant-loop-assignment l = map assignment_tree l.made ≡ map assignment_tree (take l.assignment-index l.assignments)
