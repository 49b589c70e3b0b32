-- the highest so far and of what is left is the highest of all
use Rattle.std.proofs.Common.{◌≡◌, ◌≤◌, drop}
use Rattle.std.specs.Prelude.{max}
use Rattle.cert_laws.specs.Acceptance.{highest}
use Rattle.cert_derivations.proofs.given.highest.Given as goal

abbrev pub invariant-loop-clause : goal.invariant-loop-clause
invariant-loop-clause l = record {
  least : 1 ≤ l.most;
  rest : max l.most (highest (drop l.clause-index l.clauses)) ≡ highest l.clauses;
}
