use Rattle.std.proofs.Common.{◌≡◌, ◌++◌, drop, map}
use Rattle.cut_tables.proofs.entries.endings_of.Given as goal

abbrev pub invariant-loop-column : goal.invariant-loop-column
invariant-loop-column l = l.endings ++ map (λ c. c.ending) (drop l.column-index l.columns) ≡ map (λ c. c.ending) l.columns
