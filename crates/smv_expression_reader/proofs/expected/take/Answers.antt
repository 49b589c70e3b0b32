use Rattle.std.proofs.Common.{refl, sym, ap, ◌∙◌, map, None, IfOk, subst}
use Rattle.smv_expression_reader.specs.PredictiveReader.{taken}
use Rattle.smv_expression_reader.specs.Expected.{taking_view, Taken}
use Rattle.smv_expression_reader.proofs.ExpectedLaws.{before_others}
use Rattle.smv_expression_reader.proofs.expected.take.Goals as goal

pub returns-in-Nothing-clause-next : goal.returns-in-Nothing-clause-next
returns-in-Nothing-clause-next g c = (sym c.after.ensures ∙ ap (λ z. taking_view g.S.GrammarSymbol.formula g.S.GrammarSymbol.view z c.args.token.now) c.in-Nothing.is, refl, c.requires)

pub returns-in_ok-expect-in-Then-clause-next : goal.returns-in_ok-expect-in-Then-clause-next
returns-in_ok-expect-in-Then-clause-next g c =
    before_others g.S.GrammarSymbol.grammar g.S.GrammarSymbol.formula g.S.GrammarSymbol.view c.in-Then.behind.now c.args.symbols.now c.expect.new.self c.in_ok-expect-in-Then.ensures
    ∙ ap (λ o. taken g.S.GrammarSymbol.Sym g.S.GrammarSymbol.grammar o (map g.S.GrammarSymbol.view c.args.symbols.now) None)
    (sym (ap (λ z. taking_view g.S.GrammarSymbol.formula g.S.GrammarSymbol.view z c.args.token.now) c.in-Then.is) ∙ c.after.ensures)

pub returns-in-Begins-clause-next : goal.returns-in-Begins-clause-next
returns-in-Begins-clause-next g c =
    subst (λ o. IfOk c.begin_formula.result (λ position.
    Taken g.S.GrammarSymbol.grammar g.S.GrammarSymbol.formula g.S.GrammarSymbol.view position o c.args.symbols.now c.begin_formula.new.frames c.begin_formula.new.symbols))
    (sym (ap (λ z. taking_view g.S.GrammarSymbol.formula g.S.GrammarSymbol.view z c.args.token.now) c.in-Begins.is) ∙ c.after.ensures) c.begin_formula.ensures.next
