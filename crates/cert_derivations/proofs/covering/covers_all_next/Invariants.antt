-- the clauses so far are covered, over the bits of the state next
use Rattle.std.proofs.Common.{◌≤◌, length, take}
use Rattle.std.specs.Prelude.{All, map}
use Rattle.sat_clauses.specs.States.{moved_on}
use Rattle.cert_laws.specs.Acceptance.{Covers}
use Rattle.cert_derivations.proofs.covering.covers_all_next.Given as goal

abbrev pub invariant-loop-clause : goal.invariant-loop-clause
invariant-loop-clause l = record {
  inside : l.from ≤ length l.checker.clauses;
  covered : All (λ lits. Covers l.checker.clauses (map (moved_on l.bits) lits)) (take l.clause-index l.needed);
}
