use Rattle.std.proofs.Common.{◌≡◌, true, take}
use Rattle.cert_making.specs.PartDerivations.{IsPartWay}
use Rattle.cert_making.proofs.derive.derive.Given as goal

-- the goals so far are covered
abbrev pub invariant-loop-place : goal.invariant-loop-place
invariant-loop-place g l = record {
  way : IsPartWay l.givens l.search.kept l.search.recorder (take l.place l.goals);
  cores : l.search.cores ≡ true;
}
