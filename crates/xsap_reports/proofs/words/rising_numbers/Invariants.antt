use Rattle.std.proofs.Common.{length, All}
use Rattle.xsap_reports.specs.Reports.{IsListed}
use Rattle.xsap_reports.proofs.words.rising_numbers.Given as goal

abbrev pub invariant-loop-number : goal.invariant-loop-number
invariant-loop-number l = All (IsListed l.many) l.numbers.items

abbrev pub decreases-loop-number : goal.decreases-loop-number
decreases-loop-number l = length l.rest
