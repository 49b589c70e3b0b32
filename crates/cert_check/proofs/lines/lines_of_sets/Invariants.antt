-- the lines of the texts so far
use Rattle.std.proofs.Common.{◌≡◌, take}
use Rattle.cert_laws.specs.Certificate.{lines_of_sets}
use Rattle.cert_check.proofs.lines.lines_of_sets.Given as goal

abbrev pub invariant-loop-text : goal.invariant-loop-text
invariant-loop-text l = l.lines ≡ lines_of_sets (take l.text-index l.texts)
