use Rattle.std.proofs.Common.{refl, sym, ap, ◌∙◌, map}
use Rattle.smv_expression_reader.specs.Recogniser.{role_of, is_stuck, start}
use Rattle.smv_expression_reader.specs.Recogniser as machine
use Rattle.smv_expression_reader.specs.Views.{state_with}
use Rattle.smv_expression_reader.proofs.ExpectedLaws.{begun, live_stuck, behind_formula}
use Rattle.smv_expression_reader.proofs.expected.begin_formula.Goals as goal

pub returns-then-is_stuck-clause-next : goal.returns-then-is_stuck-clause-next
returns-then-is_stuck-clause-next g c =
    let here = begun (state_with c.in_ok-mode.mode c.step.new.frames) c.args.frames.now c.role.result c.args.token.now c.requires c.role.ensures c.in_ok-mode.ensures in (
      live_stuck g.S.GrammarSymbol.grammar g.S.GrammarSymbol.formula (machine.step start (role_of c.args.token.now)) (map g.S.GrammarSymbol.view c.args.behind.now)
          (ap is_stuck (sym here) ∙ sym (c.is_stuck.ensures c.step.new.frames) ∙ c.if-is_stuck.true),
      refl,
      c.clear.ensures,
    )

pub returns-in_ok-expect-clause-next : goal.returns-in_ok-expect-clause-next
returns-in_ok-expect-clause-next g c =
    behind_formula g.S.GrammarSymbol.grammar g.S.GrammarSymbol.formula g.S.GrammarSymbol.view (machine.step start (role_of c.args.token.now)) (state_with c.in_ok-mode.mode c.step.new.frames) c.args.behind.now
    c.args.symbols.now c.expect.new.self (begun (state_with c.in_ok-mode.mode c.step.new.frames) c.args.frames.now c.role.result c.args.token.now c.requires c.role.ensures c.in_ok-mode.ensures) c.in_ok-expect.ensures

pub returns-in_ok-expect-clause-fits : goal.returns-in_ok-expect-clause-fits
returns-in_ok-expect-clause-fits g c = sym (c.is_stuck.ensures c.step.new.frames) ∙ c.if-is_stuck.false
