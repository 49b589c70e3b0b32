use Rattle.std.proofs.Common.{◌≡◌, length}
use Rattle.verb_command_line.specs.WordReading.{pairs_of, value_in}
use Rattle.verb_command_line.specs.CommandView.{texts}
use Rattle.verb_command_line.proofs.pairs.value_of.Given as goal

abbrev pub invariant-loop-rest : goal.invariant-loop-rest
invariant-loop-rest l = value_in (pairs_of (texts l.rest)) l.option ≡ value_in (pairs_of (texts l.words)) l.option

abbrev pub decreases-loop-rest : goal.decreases-loop-rest
decreases-loop-rest l = length l.rest
