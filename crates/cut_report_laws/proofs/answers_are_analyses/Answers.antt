use Rattle.cut_report_laws.proofs.Analyses.{answers_are_analyses}
use Rattle.cut_report_laws.proofs.Printed.{answers_printed}
use Rattle.cut_report_laws.proofs.answers_are_analyses.Goals as goal

pub returns-clause-right : goal.returns-clause-right
returns-clause-right c = answers_are_analyses

pub returns-clause-printed : goal.returns-clause-printed
returns-clause-printed c = answers_printed
