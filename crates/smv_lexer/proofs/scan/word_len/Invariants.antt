use Rattle.std.proofs.Common.{◌≡◌, ◌+◌, drop}
use Rattle.smv_lexer.specs.Runs.{run_len, takes_word}
use Rattle.smv_lexer.proofs.scan.word_len.Given as goal

abbrev pub invariant-loop-i : goal.invariant-loop-i
invariant-loop-i l = run_len takes_word l.bytes ≡ l.i + run_len takes_word (drop l.i l.bytes)
