-- What the table has of a text.
use Rattle.std.proofs.Common.{ap, ◌∙◌}
use Rattle.smv_flat.proofs.JudgeTimes.{times_or, looked_up}
use Rattle.smv_flat.proofs.judge.times_at.Goals as goal

pub returns-in-Some : goal.returns-in-Some
returns-in-Some c = ap times_or c.in-Some.ensures.value ∙ looked_up c.args.assigned.now.entries c.args.target.now

pub returns-in-None : goal.returns-in-None
returns-in-None c = ap times_or c.in-None.ensures.value ∙ looked_up c.args.assigned.now.entries c.args.target.now
