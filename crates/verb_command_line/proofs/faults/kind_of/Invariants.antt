use Rattle.std.proofs.Common.{◌≡◌, map, drop}
use Rattle.verb_command_line.specs.Table.{kind_in}
use Rattle.verb_command_line.specs.CommandView.{viewed}
use Rattle.verb_command_line.proofs.faults.kind_of.Given as goal

abbrev pub invariant-loop-choice : goal.invariant-loop-choice
invariant-loop-choice l = kind_in (map viewed (drop l.choice-index l.options)) l.name ≡ kind_in (map viewed l.options) l.name
