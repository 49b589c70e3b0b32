use Rattle.std.proofs.Common.{◌≡◌, map, length}
use Rattle.verb_command_line.specs.WordReading.{pairs_of, has_file}
use Rattle.verb_command_line.specs.CommandView.{texts, viewed}
use Rattle.verb_command_line.proofs.faults.names_file.Given as goal

abbrev pub invariant-loop-rest : goal.invariant-loop-rest
invariant-loop-rest l = has_file (map viewed l.options) (pairs_of (texts l.rest)) l.name ≡ has_file (map viewed l.options) (pairs_of (texts l.words)) l.name

abbrev pub decreases-loop-rest : goal.decreases-loop-rest
decreases-loop-rest l = length l.rest
