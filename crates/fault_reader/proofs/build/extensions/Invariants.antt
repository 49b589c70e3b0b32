use Rattle.std.proofs.Common.{◌≡◌, ◌-◌, map}
use Rattle.std.specs.Prelude.{codes}
use Rattle.fault_instructions.specs.Instructions.{extension_tree}
use Rattle.smv_expression_reader.specs.SecondPass.{each_at, with_front, has_word}
use Rattle.fault_reader.specs.InstructionParts.{extensions_at, extension_at}
use Rattle.fault_reader.proofs.build.extensions.Given as goal

abbrev pub invariant-loop-round : goal.invariant-loop-round
invariant-loop-round l = extensions_at l.fn.cursor ≡ with_front (map extension_tree l.list) (each_at (has_word (codes "EXTENSION")) extension_at (l.most - l.round) l.cursor)
