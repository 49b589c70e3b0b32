use Rattle.std.proofs.Common.{◌≡◌, All, length, take}
use Rattle.sat_clauses.specs.Derivation.{IsUpTo}
use Rattle.sat_simplify.specs.Unread.{AreTops}
use Rattle.sat_simplify.proofs.unread.tops_of.Given as goal

abbrev pub invariant-loop-clause : goal.invariant-loop-clause
invariant-loop-clause l = record {
  tops : AreTops l.list l.tops.items;
  long : length l.tops.items ≡ l.clause-index;
  up_to : All (All (IsUpTo l.top)) (take l.clause-index l.list);
}
