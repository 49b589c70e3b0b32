use Rattle.std.proofs.Common.{◌≡◌, ◌≤◌, drop, max}
use Rattle.cert_laws.specs.Acceptance.{highest}
use Rattle.cert_making.proofs.derive.highest.Given as goal

-- with the rest's highest variable it is that of all
abbrev pub invariant-loop-clause : goal.invariant-loop-clause
invariant-loop-clause l = record {
  positive : 1 ≤ l.most;
  all : max l.most (highest (drop l.clause-index l.clause-items)) ≡ highest l.clause-items;
}
