use Rattle.std.proofs.Common.{None, sym, ap, ◌∙◌, subst}
use Rattle.std.specs.Prelude.{IfSome}
use Rattle.std.proofs.lemmas.List.{take_all}
use Rattle.smv_expression_reader.specs.Readings.{expected_after}
use Rattle.smv_expression_reader.specs.Expected.{position_view, after_view, Fits}
use Rattle.smv_expression_reader.proofs.StopLaws.{path_more}
use Rattle.smv_expression_reader.proofs.ExpectedLaws.{fits_goes}
use Rattle.smv_expression_reader.proofs.expected.read_through.Goals as goal

pub returns-in-None : goal.returns-in-None
returns-in-None g c =
    let on = fits_goes g.S.GrammarSymbol.grammar g.S.GrammarSymbol.formula g.S.GrammarSymbol.view c.loop-i.position c.loop-i.frames c.loop-i.symbols c.loop-i.invariant.fits in (
      c.loop-i-test.true,
      (on.0, c.loop-i.invariant.path ∙ on.1),
      path_more g.S.GrammarSymbol.Sym g.S.GrammarSymbol.grammar (g.S.GrammarSymbol.view c.args.start) c.args.tokens.now c.loop-i.i c.index-tokens-i.result (position_view g.S.GrammarSymbol.formula g.S.GrammarSymbol.view c.loop-i.position c.loop-i.frames c.loop-i.symbols) None c.loop-i-test.true c.index-tokens-i.is
          c.loop-i.invariant.path (sym (ap (λ z. after_view g.S.GrammarSymbol.formula g.S.GrammarSymbol.view z c.position_step.new.frames c.position_step.new.symbols) c.in-None.is) ∙ c.in_ok-next.ensures.next),
    )

pub loop-i-preserved : goal.loop-i-preserved
loop-i-preserved g c = record {
  path = path_more g.S.GrammarSymbol.Sym g.S.GrammarSymbol.grammar (g.S.GrammarSymbol.view c.args.start) c.args.tokens.now c.loop-i.i c.index-tokens-i.result (position_view g.S.GrammarSymbol.formula g.S.GrammarSymbol.view c.loop-i.position c.loop-i.frames c.loop-i.symbols)
      (position_view g.S.GrammarSymbol.formula g.S.GrammarSymbol.view c.in-Some.next c.position_step.new.frames c.position_step.new.symbols) c.loop-i-test.true c.index-tokens-i.is c.loop-i.invariant.path
      (sym (ap (λ z. after_view g.S.GrammarSymbol.formula g.S.GrammarSymbol.view z c.position_step.new.frames c.position_step.new.symbols) c.in-Some.is) ∙ c.in_ok-next.ensures.next);
  fits = subst (λ z. IfSome z (λ p. Fits p c.position_step.new.frames)) c.in-Some.is c.in_ok-next.ensures.fits;
}

pub returns-then-may_end : goal.returns-then-may_end
returns-then-may_end g c =
    let on = fits_goes g.S.GrammarSymbol.grammar g.S.GrammarSymbol.formula g.S.GrammarSymbol.view c.loop-i.position c.loop-i.frames c.loop-i.symbols c.loop-i.invariant.fits in (
      on.0,
      ap (expected_after g.S.GrammarSymbol.Sym g.S.GrammarSymbol.grammar (g.S.GrammarSymbol.view c.args.start)) (sym (take_all c.loop-i.i c.args.tokens.now c.loop-i-test.false)) ∙ c.loop-i.invariant.path ∙ on.1,
      sym (c.may_end.ensures on.0 on.1) ∙ c.if-may_end.true,
    )

pub returns : goal.returns
returns g c =
    let on = fits_goes g.S.GrammarSymbol.grammar g.S.GrammarSymbol.formula g.S.GrammarSymbol.view c.loop-i.position c.loop-i.frames c.loop-i.symbols c.loop-i.invariant.fits in (
      on.0,
      ap (expected_after g.S.GrammarSymbol.Sym g.S.GrammarSymbol.grammar (g.S.GrammarSymbol.view c.args.start)) (sym (take_all c.loop-i.i c.args.tokens.now c.loop-i-test.false)) ∙ c.loop-i.invariant.path ∙ on.1,
      sym (c.may_end.ensures on.0 on.1) ∙ c.if-may_end.false,
    )
