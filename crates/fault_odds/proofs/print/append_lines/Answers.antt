use Rattle.std.proofs.Common.{◌++◌, map}
use Rattle.fault_odds.specs.Bounds.{units_in}
use Rattle.fault_odds.specs.OddsText.{odds_lines}
use Rattle.fault_odds.proofs.OddsLemmas.{lines_on}
use Rattle.fault_odds.proofs.print.append_lines.Goals as goal

pub loop-i-preserved : goal.loop-i-preserved
loop-i-preserved c =
    lines_on c.args.odds.now c.args.sets.now c.loop-i.i c.index-sets-i.result c.as_slice.result.now c.bound.result c.loop-i.text c.append_line.new.text
    (c.args.text.now ++ odds_lines 1 (map (units_in c.args.odds.now) c.args.sets.now)) c.loop-i-test.true c.index-sets-i.is c.as_slice.ensures c.bound.ensures.bound
    c.in_ok-append_line.ensures c.loop-i.invariant
