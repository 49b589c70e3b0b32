use Rattle.std.proofs.Common.{◌≡◌, ◌+◌, map, drop}
use Rattle.verb_command_line.specs.WordReading.{pairs_of, missing_from}
use Rattle.verb_command_line.specs.CommandView.{texts, viewed}
use Rattle.verb_command_line.proofs.faults.missing.Given as goal

abbrev pub invariant-loop-i : goal.invariant-loop-i
invariant-loop-i l = missing_from (l.i + 1) (map viewed (drop l.i l.options)) (pairs_of (texts l.words)) ≡ missing_from 1 (map viewed l.options) (pairs_of (texts l.words))
