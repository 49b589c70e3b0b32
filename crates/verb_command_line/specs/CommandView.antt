-- Words, commands, faults and options of the program as contracts see them.
use Rattle.std.specs.Prelude.{ℕ, Result, Ok, Err}
pub use Rattle.base_values.specs.BorrowedTexts.{texts}
use Rattle.verb_command_line.specs.declared.choice.Choice.{Choice}
use Rattle.verb_command_line.specs.declared.fault.WordFault.{WordFault}
use Rattle.verb_command_line.specs.declared.fault.WordFault.TheVariants as fault
use Rattle.verb_command_line.specs.declared.command.Command.{Command}
use Rattle.verb_command_line.specs.declared.command.Command.TheVariants as command
use Rattle.verb_command_line.specs.Commands as meant
use Rattle.verb_command_line.specs.Table as table

abbrev pub viewed : Choice → table.Choice
viewed c = record { name = c.name.now; kind = c.kind; required = c.required }

abbrev pub seen : Command → meant.Command
seen (command.Extend c) = meant.extend c.model.now c.faults.now c.extended.now
seen (command.Replay c) = meant.replay c.model.now c.faults.now c.trace.now c.top.now
seen (command.Analyse c) = meant.analyse c.model.now c.faults.now c.top.now c.depth c.extended.now c.cert.now c.size
seen (command.Check c) = meant.check c.model.now c.faults.now c.top.now c.cert.now
seen (command.Fmea c) = meant.fmea c.model.now c.faults.now c.tops.now c.size c.depth
seen (command.Make c) = meant.make c.number c.stages c.depth c.model.now c.faults.now
seen (command.Causes c) = meant.causes c.model.now c.faults.now c.causes.now c.top.now c.depth c.cert.now
seen (command.CheckCauses c) = meant.check_causes c.model.now c.faults.now c.causes.now c.top.now c.cert.now
seen (command.Orders c) = meant.orders c.model.now c.faults.now c.top.now c.set.now c.first c.second c.depth c.cert.now
seen (command.CheckOrders c) = meant.check_orders c.model.now c.faults.now c.top.now c.set.now c.first c.second c.claim.now c.cert.now
seen (command.Odds c) = meant.odds c.model.now c.faults.now c.top.now c.depth

-- what was read, with the command as contracts see it
abbrev pub seen_result : Result Command WordFault → Result meant.Command WordFault
seen_result (Ok c) = Ok (seen c)
seen_result (Err f) = Err f

-- the number of a rule
abbrev pub rule_of : WordFault → ℕ
rule_of (fault.NoVerb at) = 1
rule_of (fault.UnknownVerb at) = 2
rule_of (fault.UnknownOption at) = 3
rule_of (fault.Twice at) = 4
rule_of (fault.Missing at) = 5
rule_of (fault.NoValue at) = 6
rule_of (fault.BadNumber at) = 7
rule_of (fault.SameName at) = 8
rule_of (fault.NotInSet at) = 9

abbrev pub place_of : WordFault → ℕ
place_of (fault.NoVerb at) = at
place_of (fault.UnknownVerb at) = at
place_of (fault.UnknownOption at) = at
place_of (fault.Twice at) = at
place_of (fault.Missing at) = at
place_of (fault.NoValue at) = at
place_of (fault.BadNumber at) = at
place_of (fault.SameName at) = at
place_of (fault.NotInSet at) = at
