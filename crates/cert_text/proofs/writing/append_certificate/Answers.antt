use Rattle.std.proofs.Common.{◌≡◌, ◌++◌, ap, ◌∙◌}
use Rattle.cut_text_laws.specs.Lines.{fed}
use Rattle.cert_laws.specs.CertificateText.{version_two, lines_of}
use Rattle.cert_text.specs.Pieces.{listed_lines, invariant_lines, derived_lines}
use Rattle.cert_text.specs.CertificateView.{seen}
use Rattle.cert_text.proofs.PieceLaws.{whole_text, on_ok}
use Rattle.cert_text.proofs.writing.append_certificate.Goals as goal

pub returns : goal.returns
returns c =
    let listed = fed (listed_lines c.args.c.now.sets c.args.c.now.traces) in
    let clauses = fed (invariant_lines c.args.c.now.invariant) in
    let derived = fed (derived_lines c.args.c.now.first c.args.c.now.next c.args.c.now.bad) in
    on_ok (c.append_derived.new.text ≡ c.append_invariant.new.text ++ derived)
    (c.append_derived.new.text ≡ c.args.text.now ++ fed (lines_of version_two (seen c.args.c.now))) c.append_derived.result
    (λ e. e ∙ ap (λ t. t ++ derived) (c.in_ok-append_invariant.ensures ∙ ap (λ t. t ++ clauses) (c.in_ok-append_listed.ensures ∙ ap (λ t. t ++ listed) c.in_ok-append_head.ensures)) ∙ whole_text c.args.text.now (seen c.args.c.now)) c.append_derived.ensures
