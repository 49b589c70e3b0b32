use Rattle.std.proofs.Common.{◌≡◌, [], length, map}
use Rattle.smv_expression_reader.specs.PredictiveReader.{step}
use Rattle.smv_expression_reader.proofs.expected.symbols_step.Given as goal

abbrev pub invariant-loop-symbol : goal.invariant-loop-symbol
invariant-loop-symbol g l = record {
  same : step g.S.GrammarSymbol.Sym g.S.GrammarSymbol.grammar (map g.S.GrammarSymbol.view l.symbols) l.token
      ≡ step g.S.GrammarSymbol.Sym g.S.GrammarSymbol.grammar (map g.S.GrammarSymbol.view l.fn.symbols) l.token;
  closed : l.frames ≡ [];
}

abbrev pub decreases-loop-symbol : goal.decreases-loop-symbol
decreases-loop-symbol g l = length l.symbols
