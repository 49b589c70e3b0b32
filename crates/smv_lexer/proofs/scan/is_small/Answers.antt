use Rattle.std.proofs.Common.{◌-◌, ◌+◌, ◌*◌, arith, sym, get_or, drop}
use Rattle.std.proofs.lemmas.Bool.{lt-leb}
use Rattle.smv_lexer.specs.Runs.{number_from}
use Rattle.smv_lexer.proofs.RunLemmas.{number_from-grows, number_from-first}
use Rattle.smv_lexer.proofs.scan.is_small.Goals as goal

pub returns-then-value-gt-MAX_NUMBER : goal.returns-then-value-gt-MAX_NUMBER
returns-then-value-gt-MAX_NUMBER c =
    let rest = c.loop-rest.rest.now in
    sym (lt-leb (number_from 0 c.args.digits.now) 9223372036854775807 (omega (arith, c.loop-rest.invariant.same, number_from-first c.loop-rest.value c.loop-rest.rest.now c.in-len1-up.len_at_least, number_from-grows (c.loop-rest.value * 10 + (get_or c.loop-rest.rest.now 0 0 - 48)) (drop 1 c.loop-rest.rest.now))))
