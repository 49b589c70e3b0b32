use Rattle.std.proofs.Common.{◌≡◌, ◌++◌, map, drop}
use Rattle.cut_text_laws.specs.Lines.{fed}
use Rattle.cert_laws.specs.CertificateText.{step_line}
use Rattle.cert_text.proofs.writing.append_steps.Given as goal

abbrev pub invariant-loop-i : goal.invariant-loop-i
invariant-loop-i l = l.text ++ fed (map step_line (drop l.i l.steps)) ≡ l.initial.text ++ fed (map step_line l.steps)
