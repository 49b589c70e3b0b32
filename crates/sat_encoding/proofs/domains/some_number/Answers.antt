use Rattle.std.proofs.Common.{◌≡◌, get_or, pos, arith}
use Rattle.std.proofs.lemmas.Grind.{common_steps}
use Rattle.sat_circuits.specs.Numbers.{number_word}
use Rattle.sat_expressions.specs.BuiltSignals.{signal_of}
use Rattle.sat_encoding.proofs.SomeLaws.{some_next, some_end}
use Rattle.sat_encoding.proofs.domains.some_number.Goals as goal

pub loop-n-preserved : goal.loop-n-preserved
loop-n-preserved c =
    let word : c.in_ok-word.word ≡ number_word (get_or c.args.numbers.now c.loop-n.n-index (pos 0)) = grind (arith, common_steps) in (
      some_next number_word (signal_of c.args.signal.now) c.args.numbers.now c.loop-n.n-index (pos 0) c.in_ok-word.word c.loop-n.found c.in_ok-found.found c.loop-n.g c.or_same.new.g _ (omega arith) word c.in_ok-found.ensures c.loop-n.invariant.0,
      c.in_ok-found.ensures.below,
      omega (arith, c.loop-n.invariant.2, c.in_ok-found.ensures.grows),
    )

pub returns : goal.returns
returns c =
    some_end number_word (signal_of c.args.signal.now) c.args.numbers.now c.loop-n.n-index c.loop-n.found c.args.g.now c.loop-n.g c.assert_true.new.self _ (omega arith) c.loop-n.invariant.0 c.loop-n.invariant.2 c.in_ok-assert_true.ensures.ok
