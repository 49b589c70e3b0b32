use Rattle.std.proofs.Common.{sym, ◌∙◌}
use Rattle.smv_expression_reader.specs.Views.{state_with}
use Rattle.smv_expression_reader.proofs.ListLaws.{goes_inside}
use Rattle.smv_expression_reader.proofs.list.inside_step.Goals as goal

pub returns-then-not-is_stuck-clause-next : goal.returns-then-not-is_stuck-clause-next
returns-then-not-is_stuck-clause-next c =
    goes_inside (state_with c.args.mode c.args.frames.now) (state_with c.in_ok-next.next c.step.new.frames) (c.role-role.result) c.args.token.now c.requires
    c.role-role.ensures c.in_ok-next.ensures (sym (c.is_stuck.ensures c.step.new.frames) ∙ c.if-not-is_stuck.true)
