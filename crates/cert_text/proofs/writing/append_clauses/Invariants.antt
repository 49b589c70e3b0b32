use Rattle.std.proofs.Common.{◌≡◌, ◌++◌, map, drop}
use Rattle.cut_text_laws.specs.Lines.{fed}
use Rattle.cert_laws.specs.CertificateText.{clause_line}
use Rattle.cert_text.proofs.writing.append_clauses.Given as goal

abbrev pub invariant-loop-clause : goal.invariant-loop-clause
invariant-loop-clause l = l.text ++ fed (map clause_line (drop l.clause-index l.clauses)) ≡ l.initial.text ++ fed (map clause_line l.clauses)
