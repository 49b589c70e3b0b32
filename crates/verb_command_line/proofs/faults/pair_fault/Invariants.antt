use Rattle.std.proofs.Common.{map, length}
use Rattle.verb_command_line.specs.CommandView.{texts, viewed}
use Rattle.verb_command_line.proofs.LoopLemmas.{Searched}
use Rattle.verb_command_line.proofs.faults.pair_fault.Given as goal

abbrev pub invariant-loop-rest : goal.invariant-loop-rest
invariant-loop-rest l = Searched (map viewed l.options) (texts l.words) l.at (texts l.rest)

abbrev pub decreases-loop-rest : goal.decreases-loop-rest
decreases-loop-rest l = length l.rest
