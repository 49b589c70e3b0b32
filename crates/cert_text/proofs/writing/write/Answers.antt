use Rattle.std.proofs.Common.{◌≡◌, ◌++◌, refl, ◌∙◌, ap}
use Rattle.cut_text_laws.specs.Lines.{fed}
use Rattle.cert_laws.specs.CertificateText.{version_two, lines_of}
use Rattle.cert_text.specs.CertificateView.{seen}
use Rattle.cert_text.proofs.writing.write.Goals as goal

pub returns-clause-spells : goal.returns-clause-spells
returns-clause-spells c =
    let whole = fed (lines_of version_two (seen c.args.c.now)) in
    let same : c.append_certificate.new.text ≡ whole = c.in_ok-append_certificate.ensures ∙ ap (λ t. t ++ whole) c.new-text.ensures in
    (lines_of version_two (seen c.args.c.now), same, (c.requires, (version_two, tt, refl)))
