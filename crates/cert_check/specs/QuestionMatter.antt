-- The matter of a question, and which sites are judged together.
use Rattle.std.specs.Prelude.{List, ◌++◌}
use Rattle.cert_laws.specs.Certificate.{Certificate, Site, part_first, part_next, part_bad}
use Rattle.cert_laws.specs.Sites.{clause_sites, step_sites}
use Rattle.cert_text.specs.CertificateView.{seen}
use Rattle.cert_check.specs.Matter.{Matter, matter_of}
use Rattle.cert_check.specs.declared.question.CertificateQuestion.{CertificateQuestion}

-- what a question is about, as the definitions see it
abbrev pub asked : CertificateQuestion → Matter
asked q = matter_of q.full.now.model q.plain.now.model q.faults.now q.top.now (seen q.certificate.now)

-- the sites of the invariant and the derivations
abbrev pub proof_sites : Certificate → List Site
proof_sites c = clause_sites 0 c.invariant
    ++ (step_sites part_first 0 c.first ++ (step_sites part_next 0 c.next ++ step_sites part_bad 0 c.bad))
