use Rattle.std.proofs.Common.{◌≡◌, ◌-◌, length, map}
use Rattle.smv_language.specs.ProgramTree.{section_tree}
use Rattle.smv_expression_reader.specs.SecondPass.{with_front}
use Rattle.smv_model_reader.specs.ProgramParts.{sections_at}
use Rattle.smv_model_reader.proofs.sections.sections.Given as goal

abbrev pub invariant-loop-round : goal.invariant-loop-round
invariant-loop-round l = sections_at (length l.fn.cursor) l.fn.cursor ≡ with_front (map section_tree l.sections) (sections_at (l.most - l.round) l.cursor)
