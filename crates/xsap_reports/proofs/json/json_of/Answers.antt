use Rattle.std.proofs.Common.{◌≡◌, ◌∙◌, ap}
use Rattle.std.proofs.lemmas.Result.{IfOk-weaker}
use Rattle.xsap_reports.specs.Json.{sets_in_json}
use Rattle.xsap_reports.specs.JsonText.{json_text}
use Rattle.xsap_reports.specs.Reports.{set_names}
use Rattle.xsap_reports.proofs.JsonLaws.{json_back}
use Rattle.xsap_reports.proofs.json.json_of.Goals as goal

pub returns : goal.returns
returns c = record {
  read_back = λ named.
      IfOk-weaker c.with_sets.result (λ text. text.items ≡ json_text c.args.report.now c.as_slice.result.now) (λ text. sets_in_json text.items ≡ set_names c.args.report.now)
      (λ text e. ap sets_in_json e ∙ json_back c.args.report.now c.as_slice.result.now named) c.with_sets.ensures;
}
