use Rattle.std.proofs.Common.{◌≡◌, ◌++◌, codes, ap, ◌∙◌}
use Rattle.cut_text_laws.specs.Lines.{fed}
use Rattle.cert_laws.specs.CertificateText.{part_lines}
use Rattle.cert_text.specs.Pieces.{derived_lines}
use Rattle.cert_text.proofs.PieceLaws.{derived_text, on_ok}
use Rattle.cert_text.proofs.writing.append_derived.Goals as goal

pub returns : goal.returns
returns c =
    let next = fed (part_lines (codes "next") c.args.c.now.next) in
    let bad = fed (part_lines (codes "bad") c.args.c.now.bad) in
    on_ok (c.append.new.self ≡ c.append_part-3.new.text ++ codes "end\n")
    (c.append.new.self ≡ c.args.text.now ++ fed (derived_lines c.args.c.now.first c.args.c.now.next c.args.c.now.bad)) c.append.result
    (λ e. e ∙ ap (λ t. t ++ codes "end\n") (c.in_ok-append_part-3.ensures ∙ ap (λ t. t ++ bad) (c.in_ok-append_part-2.ensures ∙ ap (λ t. t ++ next) c.in_ok-append_part.ensures)) ∙ derived_text c.args.text.now c.args.c.now.first c.args.c.now.next c.args.c.now.bad) c.append.ensures.ok
