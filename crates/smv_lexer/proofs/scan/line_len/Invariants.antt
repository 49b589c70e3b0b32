use Rattle.std.proofs.Common.{◌≡◌, ◌+◌, drop}
use Rattle.smv_lexer.specs.Runs.{run_len, takes_line}
use Rattle.smv_lexer.proofs.scan.line_len.Given as goal

abbrev pub invariant-loop-i : goal.invariant-loop-i
invariant-loop-i l = run_len takes_line l.bytes ≡ l.i + run_len takes_line (drop l.i l.bytes)
