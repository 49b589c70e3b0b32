use Rattle.std.proofs.Common.{◌≡◌, ◌≤◌, drop, max}
use Rattle.cert_laws.specs.Acceptance.{highest_in}
use Rattle.cert_making.proofs.derive.highest_of.Given as goal

-- with the rest's highest variable it is that of all
abbrev pub invariant-loop-lit : goal.invariant-loop-lit
invariant-loop-lit l = record {
  positive : 1 ≤ l.most;
  all : max l.most (highest_in (drop l.lit-index l.lits)) ≡ highest_in l.lits;
}
