use Rattle.std.proofs.Common.{◌≤◌, All, take}
use Rattle.sat_clauses.specs.Derivation.{IsUpTo}
use Rattle.sat_simplify.proofs.unread.top_of.Given as goal

abbrev pub invariant-loop-lit : goal.invariant-loop-lit
invariant-loop-lit l = record {
  least : l.top ≤ l.most;
  up_to : All (IsUpTo l.most) (take l.lit-index l.lits);
}
