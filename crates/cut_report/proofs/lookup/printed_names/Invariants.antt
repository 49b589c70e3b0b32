use Rattle.std.proofs.Common.{◌≡◌, ◌++◌, drop, map}
use Rattle.cut_report.specs.Names.{printed_name}
use Rattle.cut_report.proofs.lookup.printed_names.Given as goal

abbrev pub invariant-loop-variable : goal.invariant-loop-variable
invariant-loop-variable l = l.names ++ map printed_name (drop l.variable-index l.variables) ≡ map printed_name l.variables
