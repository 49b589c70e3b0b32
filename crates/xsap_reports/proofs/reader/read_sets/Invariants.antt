use Rattle.std.proofs.Common.{All}
use Rattle.xsap_reports.specs.Reports.{IsListed}
use Rattle.xsap_reports.proofs.reader.read_sets.Given as goal

abbrev pub invariant-loop : goal.invariant-loop
invariant-loop l = All (λ set. All (IsListed l.many) set.items) l.sets.items
