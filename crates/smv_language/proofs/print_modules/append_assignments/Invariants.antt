use Rattle.std.proofs.Common.{◌≡◌, ◌++◌, drop, map}
use Rattle.smv_language.specs.ProgramTree.{assignment_tree}
use Rattle.smv_language.specs.Text.{all_of, assignment_line}
use Rattle.smv_language.proofs.print_modules.append_assignments.Given as goal

abbrev pub invariant-loop-assignment : goal.invariant-loop-assignment
invariant-loop-assignment l =
    l.text ++ all_of (map assignment_line (map assignment_tree (drop l.assignment-index l.assignments))) ≡ l.initial.text ++ all_of (map assignment_line (map assignment_tree l.assignments))
