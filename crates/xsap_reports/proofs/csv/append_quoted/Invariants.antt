use Rattle.std.proofs.Common.{◌≡◌, ◌++◌, drop}
use Rattle.xsap_reports.specs.Csv.{quoted}
use Rattle.xsap_reports.proofs.csv.append_quoted.Given as goal

abbrev pub invariant-loop-byte : goal.invariant-loop-byte
invariant-loop-byte l = l.text ++ quoted (drop l.byte-index l.bytes) ≡ l.initial.text ++ quoted l.bytes
