use Rattle.std.proofs.Common.{◌≡◌, ◌++◌, length, arith}
use Rattle.std.proofs.lemmas.Grind.{common_steps}
use Rattle.cut_text_laws.specs.Lines.{fed}
use Rattle.cert_laws.specs.CertificateText.{set_lines}
use Rattle.cert_text.proofs.PieceLaws.{none_left}
use Rattle.cert_text.proofs.writing.append_sets.Goals as goal

pub returns-in_default-2 : goal.returns-in_default-2
returns-in_default-2 c =
    let none : length c.loop-sets.traces.now ≡ 0 = grind (arith, common_steps) in
    none_left c.loop-sets.text (c.args.text.now ++ fed (set_lines c.args.sets.now c.args.traces.now)) c.loop-sets.sets.now c.loop-sets.traces.now none c.loop-sets.invariant
