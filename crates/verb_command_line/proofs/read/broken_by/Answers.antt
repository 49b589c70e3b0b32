use Rattle.std.proofs.Common.{sym, ap, ◌∙◌}
use Rattle.verb_command_line.specs.WordReading.{option_fault}
use Rattle.verb_command_line.specs.CommandView.{texts}
use Rattle.verb_command_line.proofs.OutsideLoop.{few_after, after_some, after_none}
use Rattle.verb_command_line.proofs.read.broken_by.Goals as goal

pub returns-then-is_some : goal.returns-then-is_some
returns-then-is_some c =
    after_some c.args.verb (texts c.args.words.now) c.fault_in-fault.result (c.fault_in-fault.ensures ∙ ap (λ o. option_fault o (texts c.args.words.now)) c.options.ensures)
    (sym c.is_some.ensures ∙ c.if-is_some.true)

pub not_in_set-requires : goal.not_in_set-requires
not_in_set-requires c =
    few_after c.args.verb c.args.words.now c.fault_in-fault.result (c.fault_in-fault.ensures ∙ ap (λ o. option_fault o (texts c.args.words.now)) c.options.ensures)
    (sym c.is_some.ensures ∙ c.if-is_some.false)

pub returns : goal.returns
returns c =
    after_none c.args.verb (texts c.args.words.now) c.fault_in-fault.result c.not_in_set.result (c.fault_in-fault.ensures ∙ ap (λ o. option_fault o (texts c.args.words.now)) c.options.ensures)
    (sym c.is_some.ensures ∙ c.if-is_some.false) c.not_in_set.ensures
