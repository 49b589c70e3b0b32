use Rattle.std.proofs.Common.{Err, ap}
use Rattle.smv_language.specs.ProgramTree.{program_tree}
use Rattle.verb_run.proofs.GeneratedLaws.{stops_for_want}
use Rattle.verb_run.proofs.make.read_top.Goals as goal

pub want_at-requires : goal.want_at-requires
want_at-requires c =
    stops_for_want (program_tree c.args.model.now.program) c.requires.generated c.in-Err.stop (λ r e. c.in-Err.ensures.refused r (ap (λ s. Err s) e)) (λ e. c.in-Err.ensures.desk (ap (λ s. Err s) e))
