-- the clauses so far come after those before
use Rattle.std.proofs.Common.{◌≡◌, ◌++◌, take}
use Rattle.cert_derivations.proofs.given.add_all.Given as goal

abbrev pub invariant-loop-clause : goal.invariant-loop-clause
invariant-loop-clause l = record {
  vars : l.checker.vars ≡ l.initial.checker.vars;
  clauses : l.checker.clauses ≡ l.initial.checker.clauses ++ take l.clause-index l.clauses;
}
