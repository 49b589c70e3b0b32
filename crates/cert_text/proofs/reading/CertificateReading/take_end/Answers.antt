use Rattle.std.proofs.Common.{Bool, Option, Some, None, codes, sym, ◌∙◌, ap}
use Rattle.std.specs.Prelude.{if◌then◌else◌}
use Rattle.std.specs.Option.{option_map}
use Rattle.cert_text.specs.declared.reading.Expect.{Expect}
use Rattle.cert_text.specs.declared.reading.Expect.TheVariants as expect
use Rattle.cert_text.specs.CertificateReading.{then_expecting}
use Rattle.cert_text.proofs.Cutting.{unequal_then}
use Rattle.cert_text.proofs.reading.CertificateReading.take_end.Goals as goal
use Rattle.cert_laws.proofs.LineReading.{not_same}

abbrev end_by : Bool → Option Expect
end_by t = if t then Some expect.NoLine else None

pub returns-else-eq-clause-err : goal.returns-else-eq-clause-err
returns-else-eq-clause-err c =
    ap (λ t. option_map (then_expecting c.args.self.now) (end_by t))
    (not_same c.args.line.now (codes "end") (λ e. unequal_then c.args.line.now c.as_slice.result.now c.eq.result c.eq.ensures c.if-eq.false (e ∙ sym c.as_slice.ensures)))
