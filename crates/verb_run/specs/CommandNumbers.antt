-- What is known of the numbers of a command that words mean.
use Rattle.std.specs.Prelude.{◌≤◌}
use Rattle.base_values.specs.declared.limits.TheConstants.{GREATEST_DEPTH, MOST_STAGES}
use Rattle.verb_command_line.specs.declared.command.Command.{Command}
use Rattle.verb_command_line.specs.declared.command.Command.TheVariants as ask
use Rattle.verb_orders.specs.Pairs.{IsAskedPair}

-- The rows of a table that is asked for have at most two faults, a generated case has at most `MOST_STAGES`, a search of causes or odds goes
-- at most `GREATEST_DEPTH` steps, and two faults are of their set.
abbrev pub IsAskable : Command → Type 0
IsAskable (ask.Fmea f) = f.size ≤ 2
IsAskable (ask.Make m) = m.stages ≤ MOST_STAGES
IsAskable (ask.Causes a) = a.depth ≤ GREATEST_DEPTH
IsAskable (ask.Orders o) = IsAskedPair o.set.now o.first o.second
IsAskable (ask.CheckOrders o) = IsAskedPair o.set.now o.first o.second
IsAskable (ask.Odds a) = a.depth ≤ GREATEST_DEPTH
IsAskable _ = Unit {0}
