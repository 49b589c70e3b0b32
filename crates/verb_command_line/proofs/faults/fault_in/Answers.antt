use Rattle.std.proofs.Common.{sym, ◌∙◌}
use Rattle.verb_command_line.specs.CommandView.{viewed}
use Rattle.verb_command_line.proofs.StepLemmas.{few_read}
use Rattle.verb_command_line.proofs.faults.fault_in.Goals as goal

pub same_name-requires : goal.same_name-requires
same_name-requires c = few_read viewed c.args.options.now c.args.words.now c.pair_fault-fault.result c.pair_fault-fault.ensures (sym c.is_some.ensures ∙ c.if-is_some.false) c.requires
