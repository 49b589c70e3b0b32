use Rattle.std.proofs.Common.{◌≤◌, ◌-◌, All, length, take}
use Rattle.cert_making.specs.PartDerivations.{HasPositive}
use Rattle.cert_making.proofs.derive.see_all_positive.Given as goal

-- the variables of the steps so far are positive
abbrev pub invariant-loop-i : goal.invariant-loop-i
invariant-loop-i l = record {
  within : l.i ≤ length l.steps;
  positive : All HasPositive (take l.i l.steps);
}

abbrev pub decreases-loop-i : goal.decreases-loop-i
decreases-loop-i l = length l.steps - l.i
