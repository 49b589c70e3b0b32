use Rattle.smv_lexer.specs.Runs.{takes_digit}
use Rattle.smv_lexer.proofs.RunLemmas.{Runs-run_len, Runs-digits}
use Rattle.smv_lexer.proofs.scan.number_at.Goals as goal

pub is_small-requires : goal.is_small-requires
is_small-requires c =
    rw c.digits_len-len.ensures.run (Runs-digits _ _ _ (Runs-run_len takes_digit c.args.bytes.now))
