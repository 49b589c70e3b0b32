use Rattle.std.proofs.Common.{length, sym, ap, ◌∙◌}
use Rattle.verb_loading.proofs.LoadedLaws.{same_counts}
use Rattle.verb_run.proofs.replay.replay_report.Goals as goal

pub append_failed-requires-clause-length : goal.append_failed-requires-clause-length
append_failed-requires-clause-length c =
    let l = c.args.case.now.limited in ap length c.as_slice.ensures ∙ same_counts l.typed.model l.woven.faults l.faults c.requires.numbered ∙ sym (ap length c.as_slice-2.ensures)
