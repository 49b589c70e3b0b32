use Rattle.std.proofs.Common.{◌≡◌, take}
use Rattle.smv_expression_reader.specs.Readings.{expected_after}
use Rattle.smv_expression_reader.specs.Expected.{position_view, Fits}
use Rattle.smv_expression_reader.proofs.expected.read_through.Given as goal

abbrev pub invariant-loop-i : goal.invariant-loop-i
invariant-loop-i g l = record {
  path : expected_after g.S.GrammarSymbol.Sym g.S.GrammarSymbol.grammar (g.S.GrammarSymbol.view l.fn.start) (take l.i l.tokens)
      ≡ position_view g.S.GrammarSymbol.formula g.S.GrammarSymbol.view l.position l.frames l.symbols;
  fits : Fits l.position l.frames;
}
