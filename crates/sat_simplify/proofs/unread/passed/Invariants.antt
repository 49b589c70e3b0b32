use Rattle.sat_simplify.specs.Unread.{IsLeft}
use Rattle.sat_simplify.proofs.unread.passed.Given as goal

abbrev pub invariant-loop-turn : goal.invariant-loop-turn
invariant-loop-turn l = IsLeft l.places l.list l.pass.left l.pass.kept.items l.pass.marks.items
