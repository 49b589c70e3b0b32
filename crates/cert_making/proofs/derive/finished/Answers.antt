use Rattle.std.proofs.Common.{◌≡◌, ◌<◌, ◌^◌, ◌∙◌, length, sym, subst, arith}
use Rattle.std.specs.Prelude.{All}
use Rattle.cert_laws.specs.CertificateText.{AreWritable}
use Rattle.cert_making.specs.PartDerivations.{HasPositive}
use Rattle.cert_making.proofs.DeriveLemmas.{writable}
use Rattle.cert_making.proofs.derive.finished.Goals as goal

pub returns-clause-writable : goal.returns-clause-writable
returns-clause-writable c =
    let few : length c.args.search.now.kept.clauses < 2 ^ 63 = omega (arith, c.count.ensures.value, c.if-count-ge-END_OF_COUNTS.false) in
    let made : c.steps-made.result.now ≡ c.args.search.now.recorder = c.steps-made.ensures ∙ c.recorder.ensures in
    let positive : All HasPositive c.args.search.now.recorder = subst (All HasPositive) made c.see_all_positive.ensures in
    subst AreWritable (sym (c.in_ok-steps.ensures ∙ made))
    (writable c.args.part.now.givens.now c.args.search.now.kept c.args.search.now.recorder c.args.part.now.goals.now c.requires c.args.part.now.small few positive)
