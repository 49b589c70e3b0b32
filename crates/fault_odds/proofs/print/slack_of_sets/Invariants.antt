use Rattle.std.proofs.Common.{◌≡◌, ◌+◌, ◌*◌, ◌^◌, ◌≤◌, map, drop}
use Rattle.fault_odds.specs.Bounds.{units_in, slack_of}
use Rattle.fault_odds.proofs.print.slack_of_sets.Given as goal

abbrev pub invariant-loop-set : goal.invariant-loop-set
invariant-loop-set l = (l.slack ≤ l.set-index * 2 ^ 64) × (l.slack + slack_of (map (units_in l.odds) (drop l.set-index l.sets)) ≡ slack_of (map (units_in l.odds) l.sets))
