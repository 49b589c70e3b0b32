-- The look-up has gone on, and has fewer parts left.
use Rattle.std.proofs.Common.{length}
use Rattle.smv_scope.specs.SceneTree.{program_of}
use Rattle.smv_scope.specs.KnownFormals.{rows}
use Rattle.smv_scope.specs.WaitingLookUps.{GoesOn}
use Rattle.smv_scope.proofs.names.Scene.go_on.Given as goal

abbrev pub decreases-parts : goal.decreases-parts
decreases-parts l = length l.at.rest.now

abbrev pub invariant-parts : goal.invariant-parts
invariant-parts l = GoesOn (program_of l.self) (rows l.self) l.frame l.at
