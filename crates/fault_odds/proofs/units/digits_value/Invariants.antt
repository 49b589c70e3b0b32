-- the digits that are left give the number of all
use Rattle.std.proofs.Common.{◌≡◌, ◌<◌, ◌^◌, drop}
use Rattle.smv_lexer.specs.Runs.{number_from}
use Rattle.fault_odds.proofs.units.digits_value.Given as goal

abbrev pub invariant-loop-digit : goal.invariant-loop-digit
invariant-loop-digit l = (l.number < 10 ^ l.digit-index) × (number_from l.number (drop l.digit-index l.digits) ≡ number_from 0 l.digits)
