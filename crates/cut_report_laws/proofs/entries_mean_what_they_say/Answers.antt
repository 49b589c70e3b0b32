use Rattle.cut_report_laws.proofs.EntryLaws.{entries_are_right}
use Rattle.cut_report_laws.proofs.entries_mean_what_they_say.Goals as goal

pub returns : goal.returns
returns c = entries_are_right
