use Rattle.std.proofs.Common.{sym, ◌∙◌}
use Rattle.cert_text.proofs.LineLaws.{other_versions}
use Rattle.cert_text.proofs.Cutting.{unequal_then}
use Rattle.cert_text.proofs.lines.version_in.Goals as goal

pub returns-else-eq-2 : goal.returns-else-eq-2
returns-else-eq-2 c =
    other_versions c.args.line.now (λ e. unequal_then c.args.line.now c.as_slice.result.now c.eq.result c.eq.ensures c.if-eq.false (e ∙ sym c.as_slice.ensures))
    (λ e. unequal_then c.args.line.now c.as_slice-else-eq.result.now c.eq-else-eq.result c.eq-else-eq.ensures c.if-eq-2.false (e ∙ sym c.as_slice-else-eq.ensures))
