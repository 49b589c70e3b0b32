use Rattle.std.proofs.Common.{◌≤◌, length}
use Rattle.smv_lexer.proofs.SplitLemmas.{IsSplitTo}
use Rattle.smv_lexer.proofs.lexer.tokens.Given as goal

abbrev pub invariant-loop-rest : goal.invariant-loop-rest
invariant-loop-rest l = record {
  split : IsSplitTo l.bytes l.rest l.tokens;
  shorter : length l.rest ≤ length l.bytes;
}

abbrev pub decreases-loop-rest : goal.decreases-loop-rest
decreases-loop-rest l = length l.rest
