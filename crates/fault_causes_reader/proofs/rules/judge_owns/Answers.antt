use Rattle.std.proofs.Common.{sym, ap, ◌∙◌}
use Rattle.fault_causes_reader.specs.BrokenRules.{is_any_among, are_owns_among}
use Rattle.fault_causes_reader.proofs.RuleSteps.{owns_later}
use Rattle.fault_causes_reader.proofs.rules.judge_owns.Goals as goal

pub loop-i-preserved : goal.loop-i-preserved
loop-i-preserved c =
    owns_later c.args.taken.now c.loop-i.i c.args.faults (are_owns_among c.args.taken.now c.args.faults) c.loop-i-test.true
    (sym (ap (is_any_among c.args.taken.now) c.in_ok-own_names.ensures) ∙ sym c.is_any_taken-in-loop-i.ensures ∙ c.if-is_any_taken.false) c.loop-i.invariant
