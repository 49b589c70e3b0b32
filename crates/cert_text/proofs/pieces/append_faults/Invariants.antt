use Rattle.std.proofs.Common.{◌≡◌, ◌++◌, map, drop}
use Rattle.std.specs.Fmt.{decimal}
use Rattle.cert_text.specs.Pieces.{after_spaces}
use Rattle.cert_text.proofs.pieces.append_faults.Given as goal

abbrev pub invariant-loop-fault : goal.invariant-loop-fault
invariant-loop-fault l = l.text ++ after_spaces (map decimal (drop l.fault-index l.faults)) ≡ l.initial.text ++ after_spaces (map decimal l.faults)
