-- The places so far, with those of what is left, are all.
use Rattle.std.proofs.Common.{◌≡◌, drop, replicate}
use Rattle.smv_scope.specs.DefinitionOrder.{placed_from}
use Rattle.smv_scope.proofs.needs.places_of.Given as goal

abbrev pub invariant-loop-place : goal.invariant-loop-place
invariant-loop-place l = placed_from l.places.items l.place (drop l.place l.order) ≡ placed_from (replicate l.count 0) 0 l.order
