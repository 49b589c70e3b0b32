use Rattle.std.proofs.Common.{length}
use Rattle.verb_command_line.specs.CommandView.{texts}
use Rattle.verb_command_line.proofs.OutsideLoop.{Passed}
use Rattle.verb_command_line.proofs.pair.first_outside.Given as goal

abbrev pub invariant-loop-rest : goal.invariant-loop-rest
invariant-loop-rest l = Passed l.set l.first (texts l.words) l.at (texts l.rest)

abbrev pub decreases-loop-rest : goal.decreases-loop-rest
decreases-loop-rest l = length l.rest
