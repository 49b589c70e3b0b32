use Rattle.std.proofs.Common.{◌≡◌, take}
use Rattle.cert_text.proofs.certificate.copy_texts.Given as goal

abbrev pub invariant-loop-lines : goal.invariant-loop-lines
invariant-loop-lines l = l.made ≡ take l.lines-index l.texts
