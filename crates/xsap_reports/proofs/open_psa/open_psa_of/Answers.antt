use Rattle.std.proofs.Common.{◌≡◌, ◌∙◌, ap, codes}
use Rattle.std.proofs.lemmas.Result.{IfOk-weaker}
use Rattle.xsap_reports.specs.Mef.{sets_in_tree}
use Rattle.xsap_reports.specs.MefText.{tree_text}
use Rattle.xsap_reports.specs.Reports.{set_names}
use Rattle.xsap_reports.proofs.MefSets.{tree_back}
use Rattle.xsap_reports.proofs.open_psa.open_psa_of.Goals as goal

pub returns : goal.returns
returns c = record {
  read_back = λ named.
      IfOk-weaker c.with_tree.result (λ text. text.items ≡ tree_text c.args.report.now c.as_slice.result.now) (λ text. sets_in_tree (codes "top") text.items ≡ set_names c.args.report.now)
      (λ text e. ap (sets_in_tree (codes "top")) e ∙ tree_back c.args.report.now c.as_slice.result.now c.counts_of-faults.ensures.0 c.counts_of-faults.ensures.1 named) c.with_tree.ensures;
}
