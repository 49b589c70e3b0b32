use Rattle.std.proofs.Common.{◌≡◌, ◌+◌, drop}
use Rattle.smv_lexer.specs.Runs.{run_len, takes_digit}
use Rattle.smv_lexer.proofs.scan.digits_len.Given as goal

abbrev pub invariant-loop-i : goal.invariant-loop-i
invariant-loop-i l = run_len takes_digit l.bytes ≡ l.i + run_len takes_digit (drop l.i l.bytes)
