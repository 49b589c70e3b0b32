use Rattle.std.proofs.Common.{sym, ◌∙◌}
use Rattle.smv_expression_reader.specs.Views.{state_with}
use Rattle.smv_expression_reader.proofs.ExtentLaws.{stops_deep, stops_whole}
use Rattle.smv_expression_reader.proofs.extent.reach.Goals as goal

pub returns-then-is_stuck-clause-deep : goal.returns-then-is_stuck-clause-deep
returns-then-is_stuck-clause-deep c =
    stops_deep (state_with c.loop-len.mode c.loop-len.frames) (state_with c.in_ok-mode.mode c.step.new.frames) c.args.tokens.now c.loop-len.len c.index-tokens-len.result
    c.role.result c.loop-len.deep c.loop-len-test.true c.index-tokens-len.is c.role.ensures c.in_ok-mode.ensures
    (sym (c.is_stuck.ensures c.step.new.frames) ∙ c.if-is_stuck.true) c.loop-len.invariant.deep

pub returns-then-is_stuck-clause-whole : goal.returns-then-is_stuck-clause-whole
returns-then-is_stuck-clause-whole c =
    stops_whole (state_with c.loop-len.mode c.loop-len.frames) (state_with c.in_ok-mode.mode c.step.new.frames) c.args.tokens.now c.loop-len.len c.index-tokens-len.result
    c.is_whole-whole.result c.role.result c.loop-len-test.true c.index-tokens-len.is c.role.ensures c.in_ok-mode.ensures
    (sym (c.is_stuck.ensures c.step.new.frames) ∙ c.if-is_stuck.true) c.loop-len.invariant.whole c.is_whole-whole.ensures
