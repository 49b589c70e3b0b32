use Rattle.std.proofs.Common.{◌≡◌, drop}
use Rattle.smv_lexer.specs.Runs.{block_len}
use Rattle.smv_lexer.proofs.RunLemmas.{end_from}
use Rattle.smv_lexer.proofs.scan.block_len.Given as goal

abbrev pub invariant-loop-i : goal.invariant-loop-i
invariant-loop-i l = block_len l.bytes ≡ end_from l.i (block_len (drop l.i l.bytes))
