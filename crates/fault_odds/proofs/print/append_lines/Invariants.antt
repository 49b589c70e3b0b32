use Rattle.std.proofs.Common.{◌≡◌, ◌++◌, ◌+◌, map, drop}
use Rattle.fault_odds.specs.Bounds.{units_in}
use Rattle.fault_odds.specs.OddsText.{odds_lines}
use Rattle.fault_odds.proofs.print.append_lines.Given as goal

abbrev pub invariant-loop-i : goal.invariant-loop-i
invariant-loop-i l = l.text ++ odds_lines (l.i + 1) (map (units_in l.odds) (drop l.i l.sets)) ≡ l.initial.text ++ odds_lines 1 (map (units_in l.odds) l.sets)
