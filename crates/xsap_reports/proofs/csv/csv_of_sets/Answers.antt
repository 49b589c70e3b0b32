use Rattle.std.proofs.Common.{◌≡◌, ◌∙◌, ap}
use Rattle.std.proofs.lemmas.Result.{IfOk-weaker}
use Rattle.xsap_reports.specs.Csv.{csv_text, sets_read}
use Rattle.xsap_reports.specs.Reports.{set_names}
use Rattle.xsap_reports.proofs.CsvLaws.{csv_back}
use Rattle.xsap_reports.proofs.csv.csv_of_sets.Goals as goal

pub returns-clause-read_back : goal.returns-clause-read_back
returns-clause-read_back c named =
    IfOk-weaker c.csv_of.result (λ text. text.items ≡ csv_text (set_names c.args.report.now)) (λ text. sets_read text.items ≡ set_names c.args.report.now)
    (λ text e. ap sets_read e ∙ csv_back c.args.report.now named) c.csv_of.ensures
