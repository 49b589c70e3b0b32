use Rattle.std.proofs.Common.{◌≡◌, ◌<◌, ◌≤◌, ◌-◌, ◌*◌, ◌^◌, length}
use Rattle.smv_lexer.specs.Tokens.{number_of}
use Rattle.fault_odds.proofs.units.fraction_units.Given as goal

abbrev pub invariant-loop-place : goal.invariant-loop-place
invariant-loop-place l = (length l.digits ≤ l.place) × (l.place ≤ 18) × (l.units < 10 ^ l.place) × (l.units ≡ number_of l.digits * 10 ^ (l.place - length l.digits))

abbrev pub decreases-loop-place : goal.decreases-loop-place
decreases-loop-place l = 18 - l.place
