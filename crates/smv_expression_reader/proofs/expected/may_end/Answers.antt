use Rattle.std.proofs.Common.{sym, ap, ◌∙◌, map}
use Rattle.std.specs.Prelude.{◌&&◌}
use Rattle.std.proofs.lemmas.Option.{same_Some}
use Rattle.smv_expression_reader.specs.PredictiveReader.{all_empty}
use Rattle.smv_expression_reader.specs.Views.{state_with}
use Rattle.smv_expression_reader.specs.Expected.{position_view}
use Rattle.smv_expression_reader.proofs.ExpectedLaws.{inside_ends}
use Rattle.smv_expression_reader.proofs.expected.may_end.Goals as goal

pub returns-in-Between : goal.returns-in-Between
returns-in-Between g c = λ s e. c.may_all_be_empty.ensures ∙ ap (all_empty g.S.GrammarSymbol.Sym g.S.GrammarSymbol.grammar) (same_Some _ _ (sym (ap (λ z. position_view g.S.GrammarSymbol.formula g.S.GrammarSymbol.view z c.args.frames.now c.args.symbols.now) c.in-Between.is) ∙ e))

pub returns-then-is_whole : goal.returns-then-is_whole
returns-then-is_whole g c = λ s e.
    c.may_all_be_empty-then-is_whole.ensures ∙ ap (λ b. b && all_empty g.S.GrammarSymbol.Sym g.S.GrammarSymbol.grammar (map g.S.GrammarSymbol.view c.args.symbols.now)) (sym (sym c.is_whole.ensures ∙ c.if-is_whole.true))
    ∙ inside_ends g.S.GrammarSymbol.grammar g.S.GrammarSymbol.formula g.met.S.GrammarSymbol.formulas (state_with c.in-Inside.mode c.args.frames.now) (map g.S.GrammarSymbol.view c.args.symbols.now) s (sym (ap (λ z. position_view g.S.GrammarSymbol.formula g.S.GrammarSymbol.view z c.args.frames.now c.args.symbols.now) c.in-Inside.is) ∙ e)

pub returns-else-is_whole : goal.returns-else-is_whole
returns-else-is_whole g c = λ s e.
    c.if-is_whole.false ∙ ap (λ b. b && all_empty g.S.GrammarSymbol.Sym g.S.GrammarSymbol.grammar (map g.S.GrammarSymbol.view c.args.symbols.now)) (sym (sym c.is_whole.ensures ∙ c.if-is_whole.false))
    ∙ inside_ends g.S.GrammarSymbol.grammar g.S.GrammarSymbol.formula g.met.S.GrammarSymbol.formulas (state_with c.in-Inside.mode c.args.frames.now) (map g.S.GrammarSymbol.view c.args.symbols.now) s (sym (ap (λ z. position_view g.S.GrammarSymbol.formula g.S.GrammarSymbol.view z c.args.frames.now c.args.symbols.now) c.in-Inside.is) ∙ e)
