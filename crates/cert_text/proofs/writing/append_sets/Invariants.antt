use Rattle.std.proofs.Common.{◌≡◌, ◌++◌, length}
use Rattle.cut_text_laws.specs.Lines.{fed}
use Rattle.cert_laws.specs.CertificateText.{set_lines}
use Rattle.cert_text.proofs.writing.append_sets.Given as goal

abbrev pub invariant-loop-sets : goal.invariant-loop-sets
invariant-loop-sets l = l.text ++ fed (set_lines l.sets l.traces) ≡ l.initial.text ++ fed (set_lines l.fn.sets l.fn.traces)

abbrev pub decreases-loop-sets : goal.decreases-loop-sets
decreases-loop-sets l = length l.sets
