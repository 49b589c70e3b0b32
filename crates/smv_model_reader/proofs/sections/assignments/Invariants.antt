use Rattle.std.proofs.Common.{◌≡◌, ◌-◌, map}
use Rattle.smv_language.specs.ProgramTree.{assignment_tree}
use Rattle.smv_expression_reader.specs.SecondPass.{each_at, with_front}
use Rattle.smv_model_reader.specs.ProgramParts.{assignment_at, assigns_at, begins_assignment}
use Rattle.smv_model_reader.proofs.sections.assignments.Given as goal

abbrev pub invariant-loop-round : goal.invariant-loop-round
invariant-loop-round l = assigns_at l.fn.cursor ≡ with_front (map assignment_tree l.list) (each_at begins_assignment assignment_at (l.most - l.round) l.cursor)
