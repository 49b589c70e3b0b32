use Rattle.std.proofs.Common.{◌≡◌, [], true, false, take, length, replicate}
use Rattle.cert_making.proofs.derive.search_over.Given as goal

-- the clauses so far were added
abbrev pub invariant-loop-clause : goal.invariant-loop-clause
invariant-loop-clause l = record {
  vars : l.search.kept.vars ≡ l.part.vars;
  clauses : l.search.kept.clauses ≡ take l.clause-index l.clause-items;
  marks : l.search.kept.marks ≡ replicate (length l.search.kept.clauses) false;
  recorder : l.search.recorder ≡ [];
  cores : l.search.cores ≡ true;
}
