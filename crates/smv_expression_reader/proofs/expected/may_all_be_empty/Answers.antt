use Rattle.std.proofs.Common.{sym, ap, ◌∙◌, map}
use Rattle.std.specs.Prelude.{◌&&◌}
use Rattle.smv_expression_reader.specs.PredictiveReader.{all_empty}
use Rattle.smv_expression_reader.proofs.expected.may_all_be_empty.Goals as goal

pub returns-then-not-may_be_empty : goal.returns-then-not-may_be_empty
returns-then-not-may_be_empty g c =
    ap (λ b. b && all_empty g.S.GrammarSymbol.Sym g.S.GrammarSymbol.grammar (map g.S.GrammarSymbol.view c.pop.new.self)) (sym c.if-not-may_be_empty.true ∙ c.may_be_empty.ensures)
    ∙ ap (λ s. all_empty g.S.GrammarSymbol.Sym g.S.GrammarSymbol.grammar (map g.S.GrammarSymbol.view s)) (sym c.in-Some.ensures.some) ∙ c.loop-symbol.invariant

pub loop-symbol-preserved : goal.loop-symbol-preserved
loop-symbol-preserved g c =
    ap (λ b. b && all_empty g.S.GrammarSymbol.Sym g.S.GrammarSymbol.grammar (map g.S.GrammarSymbol.view c.pop.new.self)) (sym c.if-not-may_be_empty.false ∙ c.may_be_empty.ensures)
    ∙ ap (λ s. all_empty g.S.GrammarSymbol.Sym g.S.GrammarSymbol.grammar (map g.S.GrammarSymbol.view s)) (sym c.in-Some.ensures.some) ∙ c.loop-symbol.invariant
