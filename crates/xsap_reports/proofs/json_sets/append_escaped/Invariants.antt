use Rattle.std.proofs.Common.{◌≡◌, ◌++◌, drop}
use Rattle.xsap_reports.specs.JsonText.{escaped}
use Rattle.xsap_reports.proofs.json_sets.append_escaped.Given as goal

abbrev pub invariant-loop-byte : goal.invariant-loop-byte
invariant-loop-byte l = l.text ++ escaped (drop l.byte-index l.bytes) ≡ l.initial.text ++ escaped l.bytes
