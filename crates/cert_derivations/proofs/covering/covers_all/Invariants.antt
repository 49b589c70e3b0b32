-- the clauses so far are covered
use Rattle.std.proofs.Common.{◌≤◌, length, take}
use Rattle.std.specs.Prelude.{All}
use Rattle.cert_laws.specs.Acceptance.{Covers}
use Rattle.cert_derivations.proofs.covering.covers_all.Given as goal

abbrev pub invariant-loop-clause : goal.invariant-loop-clause
invariant-loop-clause l = record {
  inside : l.from ≤ length l.checker.clauses;
  covered : All (Covers l.checker.clauses) (take l.clause-index l.needed);
}
