use Rattle.std.proofs.Common.{◌≡◌, get_or, arith}
use Rattle.std.proofs.lemmas.Grind.{common_steps}
use Rattle.sat_encoding.specs.Domains.{symbol_word}
use Rattle.sat_expressions.specs.BuiltSignals.{signal_of}
use Rattle.sat_encoding.proofs.SomeLaws.{some_next, some_end}
use Rattle.sat_encoding.proofs.domains.some_symbol.Goals as goal

pub loop-symbol-preserved : goal.loop-symbol-preserved
loop-symbol-preserved c =
    let word : c.in_ok-word.word ≡ symbol_word c.args.symbols (get_or c.args.listed.now c.loop-symbol.symbol-index 0) = grind (arith, common_steps) in (
      some_next (symbol_word c.args.symbols) (signal_of c.args.signal.now) c.args.listed.now c.loop-symbol.symbol-index 0 c.in_ok-word.word c.loop-symbol.found c.in_ok-found.found c.loop-symbol.g c.or_same.new.g _ (omega arith) word c.in_ok-found.ensures c.loop-symbol.invariant.0,
      c.in_ok-found.ensures.below,
      omega (arith, c.loop-symbol.invariant.2, c.in_ok-found.ensures.grows),
    )

pub returns : goal.returns
returns c =
    some_end (symbol_word c.args.symbols) (signal_of c.args.signal.now) c.args.listed.now c.loop-symbol.symbol-index c.loop-symbol.found c.args.g.now c.loop-symbol.g c.assert_true.new.self _ (omega arith) c.loop-symbol.invariant.0 c.loop-symbol.invariant.2 c.in_ok-assert_true.ensures.ok
