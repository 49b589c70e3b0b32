use Rattle.fault_odds.proofs.OddsLemmas.{slack_on}
use Rattle.fault_odds.proofs.print.slack_of_sets.Goals as goal

pub loop-set-preserved : goal.loop-set-preserved
loop-set-preserved c =
    slack_on c.args.odds.now c.args.sets.now c.loop-set.set-index c.set-item.result c.loop-set.slack c.slack_of_set.result c.from-slack.result _ c.loop-set-test.true c.set-item.is
    c.slack_of_set.ensures.slack c.slack_of_set.ensures.small c.from-slack.ensures c.loop-set.invariant.0 c.loop-set.invariant.1
