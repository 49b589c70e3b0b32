-- The table with the times of one text.
use Rattle.std.proofs.Common.{ap, ◌∙◌}
use Rattle.smv_flat.specs.Assignments.{times_of}
use Rattle.smv_flat.proofs.JudgeTimes.{inserted}
use Rattle.smv_flat.proofs.judge.note_times.Goals as goal

pub returns : goal.returns
returns c x = ap (λ es. times_of es x) c.in_ok-insert.ensures.entries ∙ inserted c.args.assigned.now.entries c.args.target c.args.times x
