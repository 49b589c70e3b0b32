use Rattle.std.proofs.Common.{◌≡◌, ◌++◌, map, drop}
use Rattle.cert_laws.specs.CertificateText.{literal_text}
use Rattle.cert_text.specs.Pieces.{after_spaces}
use Rattle.cert_text.proofs.pieces.append_literals.Given as goal

abbrev pub invariant-loop-lit : goal.invariant-loop-lit
invariant-loop-lit l = l.text ++ after_spaces (map literal_text (drop l.lit-index l.lits)) ≡ l.initial.text ++ after_spaces (map literal_text l.lits)
