use Rattle.std.proofs.Common.{◌≡◌, All, true}
use Rattle.xsap_reports.specs.Reports.{is_word}
use Rattle.xsap_reports.proofs.reader.read_faults.Given as goal

abbrev pub invariant-loop-i : goal.invariant-loop-i
invariant-loop-i l = All (λ name. is_word name.now ≡ true) l.names.items
