use Rattle.std.proofs.Common.{◌≡◌, length, map}
use Rattle.smv_expression_reader.specs.PredictiveReader.{all_empty}
use Rattle.smv_expression_reader.proofs.expected.may_all_be_empty.Given as goal

abbrev pub invariant-loop-symbol : goal.invariant-loop-symbol
invariant-loop-symbol g l = all_empty g.S.GrammarSymbol.Sym g.S.GrammarSymbol.grammar (map g.S.GrammarSymbol.view l.symbols)
    ≡ all_empty g.S.GrammarSymbol.Sym g.S.GrammarSymbol.grammar (map g.S.GrammarSymbol.view l.fn.symbols)

abbrev pub decreases-loop-symbol : goal.decreases-loop-symbol
decreases-loop-symbol g l = length l.symbols
