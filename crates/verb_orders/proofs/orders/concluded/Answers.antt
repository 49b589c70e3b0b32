use Rattle.verb_orders.proofs.OrderLaws.{claim_concluded}
use Rattle.verb_orders.proofs.orders.concluded.Goals as goal

pub returns : goal.returns
returns g c =
    claim_concluded c.args.staged.now c.requires.staged c.args.claim c.args.depth c.args.searched.now c.requires.searched c.requires.none c.in_ok-cert.cert c.in_ok-report.report c.told-ending.result c.bits.result c.requires.told
    c.in_ok-cert.ensures c.told-ending.ensures c.bits.ensures.bits c.in_ok-report.ensures
