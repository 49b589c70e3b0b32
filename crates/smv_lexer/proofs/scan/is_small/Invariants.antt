use Rattle.std.proofs.Common.{◌≡◌, ◌≤◌, ◌^◌, ◌-◌, length, []}
use Rattle.smv_lexer.specs.Runs.{Runs, takes_digit, number_from}
use Rattle.smv_lexer.proofs.scan.is_small.Given as goal

abbrev pub invariant-loop-rest : goal.invariant-loop-rest
invariant-loop-rest l = record {
  same : number_from 0 l.digits ≡ number_from l.value l.rest;
  small : l.value ≤ 2 ^ 63 - 1;
  digits : Runs takes_digit l.rest [];
}

abbrev pub decreases-loop-rest : goal.decreases-loop-rest
decreases-loop-rest l = length l.rest
