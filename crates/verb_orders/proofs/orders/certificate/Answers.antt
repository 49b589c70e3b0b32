use Rattle.std.proofs.Common.{sym, subst}
use Rattle.cut_model_search.specs.Certifiable.{IsCertifiable}
use Rattle.cut_model_search.specs.Reports.{IsCertificateOf}
use Rattle.verb_orders.proofs.StagedCases.{certifiable_alone}
use Rattle.verb_orders.proofs.OrderLaws.{claim_certified}
use Rattle.verb_orders.proofs.orders.certificate.Goals as goal

pub model_of-requires : goal.model_of-requires
model_of-requires g c = record { none = c.requires.staged.none; searchable = c.requires.searched.searchable }

pub certificate-requires : goal.certificate-requires
certificate-requires g c =
    subst (λ v. IsCertifiable v c.args.searched.now.analysis) (sym c.in_ok-model.ensures) (certifiable_alone c.args.staged.now c.args.claim c.args.depth c.args.searched.now c.requires.searched c.requires.none)

pub returns : goal.returns
returns g c =
    let r = c.args.searched.now in
    claim_certified c.args.staged.now c.requires.staged c.args.claim c.args.depth r c.requires.searched c.requires.none r.analysis.end c.in_ok-cert.cert
    (subst (λ v. IsCertificateOf v r.analysis c.in_ok-cert.cert) c.in_ok-model.ensures c.in_ok-cert.ensures)
