use Rattle.std.proofs.Common.{◌≡◌, ◌≤◌, ◌++◌, drop}
use Rattle.sat_simplify.specs.CompactNumbers.{gaps}
use Rattle.sat_simplify.proofs.compact.gaps_of.Given as goal

abbrev pub invariant-loop-is_marked : goal.invariant-loop-is_marked
invariant-loop-is_marked l = record {
  rest : l.all.items ++ gaps l.gap (drop l.is_marked-index l.marks) ≡ gaps 0 l.marks;
  few : l.gap ≤ l.is_marked-index;
}
