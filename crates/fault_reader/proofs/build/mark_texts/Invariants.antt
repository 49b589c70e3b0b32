use Rattle.std.proofs.Common.{◌≡◌, ◌-◌}
use Rattle.smv_expression_reader.specs.SecondPass.{each_at, with_front, text_at}
use Rattle.fault_reader.specs.InstructionParts.{in_braces, texts_at}
use Rattle.fault_reader.proofs.build.mark_texts.Given as goal

abbrev pub invariant-loop-round : goal.invariant-loop-round
invariant-loop-round l = texts_at l.fn.cursor ≡ with_front l.list (each_at in_braces text_at (l.most - l.round) l.cursor)
