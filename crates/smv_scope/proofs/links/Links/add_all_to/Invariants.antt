-- The links so far, with those that are left, are all.
use Rattle.std.proofs.Common.{◌≡◌, drop}
use Rattle.smv_scope.specs.Links.{rows, all_linked_to}
use Rattle.smv_scope.proofs.links.Links.add_all_to.Given as goal

abbrev pub invariant-loop-start : goal.invariant-loop-start
invariant-loop-start l = all_linked_to (rows l.self) (drop l.start-index l.starts) l.to ≡ all_linked_to (rows l.initial.self) l.starts l.to
