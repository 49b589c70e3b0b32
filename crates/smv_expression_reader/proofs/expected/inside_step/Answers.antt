use Rattle.std.proofs.Common.{◌≡◌, true, false, sym, ◌∙◌, subst, map, IfOk}
use Rattle.smv_expression_reader.specs.Views.{state_with}
use Rattle.smv_expression_reader.specs.Expected.{after_view}
use Rattle.smv_expression_reader.proofs.ExpectedLaws.{goes_inside, goes_past}
use Rattle.smv_expression_reader.proofs.expected.inside_step.Goals as goal

pub returns-then-not-is_stuck-clause-next : goal.returns-then-not-is_stuck-clause-next
returns-then-not-is_stuck-clause-next g c =
    goes_inside g.S.GrammarSymbol.grammar g.S.GrammarSymbol.formula g.met.S.GrammarSymbol.formulas (state_with c.args.mode c.args.frames.now) (state_with c.in_ok-next.next c.step.new.frames) c.role.result
    (map g.S.GrammarSymbol.view c.args.symbols.now) c.args.token.now c.requires c.role.ensures c.in_ok-next.ensures (sym (c.is_stuck.ensures c.step.new.frames) ∙ c.if-not-is_stuck.true)

pub returns-then-whole-clause-next : goal.returns-then-whole-clause-next
returns-then-whole-clause-next g c =
    subst (λ o. IfOk c.symbols_step.result (λ position. after_view g.S.GrammarSymbol.formula g.S.GrammarSymbol.view position c.symbols_step.new.frames c.symbols_step.new.symbols ≡ o))
    (goes_past g.S.GrammarSymbol.grammar g.S.GrammarSymbol.formula g.met.S.GrammarSymbol.formulas (state_with c.args.mode c.args.frames.now) (state_with c.in_ok-next.next c.step.new.frames) c.role.result
    (map g.S.GrammarSymbol.view c.args.symbols.now) c.args.token.now true c.requires c.role.ensures c.in_ok-next.ensures (sym (c.is_stuck.ensures c.step.new.frames) ∙ c.if-not-is_stuck.false)
    (sym c.is_whole-whole.ensures ∙ c.if-whole.true)) c.symbols_step.ensures.next

pub returns-else-whole-clause-next : goal.returns-else-whole-clause-next
returns-else-whole-clause-next g c =
    goes_past g.S.GrammarSymbol.grammar g.S.GrammarSymbol.formula g.met.S.GrammarSymbol.formulas (state_with c.args.mode c.args.frames.now) (state_with c.in_ok-next.next c.step.new.frames) c.role.result
    (map g.S.GrammarSymbol.view c.args.symbols.now) c.args.token.now false c.requires c.role.ensures c.in_ok-next.ensures (sym (c.is_stuck.ensures c.step.new.frames) ∙ c.if-not-is_stuck.false)
    (sym c.is_whole-whole.ensures ∙ c.if-whole.false)
