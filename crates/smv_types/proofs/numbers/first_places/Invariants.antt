use Rattle.std.proofs.Common.{◌≤◌, length, drop}
use Rattle.smv_types.specs.SymbolNumbering.{AreNumbered}
use Rattle.smv_types.proofs.numbers.first_places.Given as goal

abbrev pub invariant-loop-place : goal.invariant-loop-place
invariant-loop-place l = (l.place ≤ length l.texts) × AreNumbered l.place (drop l.place l.texts) l.places

abbrev pub decreases-loop-place : goal.decreases-loop-place
decreases-loop-place l = l.place
