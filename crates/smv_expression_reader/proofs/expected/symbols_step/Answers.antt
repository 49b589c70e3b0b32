use Rattle.std.proofs.Common.{sym, ap, ◌∙◌, subst, map, None}
use Rattle.std.specs.Prelude.{IfSome, if◌then◌else◌}
use Rattle.smv_expression_reader.specs.PredictiveReader.{step}
use Rattle.smv_expression_reader.specs.Expected.{Taken, Fits}
use Rattle.smv_expression_reader.proofs.ExpectedLaws.{symbol_goes, symbol_passes}
use Rattle.smv_expression_reader.proofs.expected.symbols_step.Goals as goal

pub returns-in-Some-2-clause-next : goal.returns-in-Some-2-clause-next
returns-in-Some-2-clause-next g c =
    let fits = subst (λ z. IfSome z (λ p. Fits p c.take.new.frames)) c.in-Some-2.is c.in_ok-position.ensures.fits in
    let is = subst (λ z. Taken g.S.GrammarSymbol.grammar g.S.GrammarSymbol.formula g.S.GrammarSymbol.view z (g.S.GrammarSymbol.grammar.next (g.S.GrammarSymbol.view c.in-Some.symbol) c.args.token.now) c.pop.new.self
    c.take.new.frames c.take.new.symbols) c.in-Some-2.is c.in_ok-position.ensures.next in
    symbol_goes g.S.GrammarSymbol.grammar g.S.GrammarSymbol.formula g.S.GrammarSymbol.view (g.S.GrammarSymbol.view c.in-Some.symbol) c.pop.new.self c.take.new.symbols c.args.token.now c.in-Some-2.position c.take.new.frames fits is
    ∙ ap (λ s. step g.S.GrammarSymbol.Sym g.S.GrammarSymbol.grammar (map g.S.GrammarSymbol.view s) c.args.token.now) (sym c.in-Some.ensures.some) ∙ c.loop-symbol.invariant.same

pub returns-then-not-may_be_empty-clause-next : goal.returns-then-not-may_be_empty-clause-next
returns-then-not-may_be_empty-clause-next g c =
    let is = subst (λ z. Taken g.S.GrammarSymbol.grammar g.S.GrammarSymbol.formula g.S.GrammarSymbol.view z (g.S.GrammarSymbol.grammar.next (g.S.GrammarSymbol.view c.in-Some.symbol) c.args.token.now) c.pop.new.self
    c.take.new.frames c.take.new.symbols) c.in-None.is c.in_ok-position.ensures.next in
    sym (symbol_passes g.S.GrammarSymbol.grammar g.S.GrammarSymbol.formula g.S.GrammarSymbol.view (g.S.GrammarSymbol.view c.in-Some.symbol) c.pop.new.self c.args.token.now c.may_be_empty.result is.0 c.may_be_empty.ensures
    ∙ ap (λ b. if b then step g.S.GrammarSymbol.Sym g.S.GrammarSymbol.grammar (map g.S.GrammarSymbol.view c.pop.new.self) c.args.token.now else None) c.if-not-may_be_empty.true)
    ∙ ap (λ s. step g.S.GrammarSymbol.Sym g.S.GrammarSymbol.grammar (map g.S.GrammarSymbol.view s) c.args.token.now) (sym c.in-Some.ensures.some) ∙ c.loop-symbol.invariant.same

pub loop-symbol-preserved : goal.loop-symbol-preserved
loop-symbol-preserved g c =
    let is = subst (λ z. Taken g.S.GrammarSymbol.grammar g.S.GrammarSymbol.formula g.S.GrammarSymbol.view z (g.S.GrammarSymbol.grammar.next (g.S.GrammarSymbol.view c.in-Some.symbol) c.args.token.now) c.pop.new.self
    c.take.new.frames c.take.new.symbols) c.in-None.is c.in_ok-position.ensures.next in record {
      same = ap (λ s. step g.S.GrammarSymbol.Sym g.S.GrammarSymbol.grammar (map g.S.GrammarSymbol.view s) c.args.token.now) is.1
          ∙ sym (symbol_passes g.S.GrammarSymbol.grammar g.S.GrammarSymbol.formula g.S.GrammarSymbol.view (g.S.GrammarSymbol.view c.in-Some.symbol) c.pop.new.self c.args.token.now c.may_be_empty.result is.0 c.may_be_empty.ensures
          ∙ ap (λ b. if b then step g.S.GrammarSymbol.Sym g.S.GrammarSymbol.grammar (map g.S.GrammarSymbol.view c.pop.new.self) c.args.token.now else None) c.if-not-may_be_empty.false)
          ∙ ap (λ s. step g.S.GrammarSymbol.Sym g.S.GrammarSymbol.grammar (map g.S.GrammarSymbol.view s) c.args.token.now) (sym c.in-Some.ensures.some) ∙ c.loop-symbol.invariant.same;
      closed = is.2;
    }
