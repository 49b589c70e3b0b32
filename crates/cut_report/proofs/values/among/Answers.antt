use Rattle.std.proofs.Common.{◌≡◌, None, true, false, inr, refl, sym, ◌∙◌, subst}
use Rattle.cut_report.specs.ValueReading.{IsAmong}
use Rattle.cut_report.proofs.values.among.Goals as goal

pub returns-else-has : goal.returns-else-has
returns-else-has c =
    subst (λ o. IsAmong c.args.domain.now o None) (sym c.in-Some.is) (inr ((λ h. let clash : true ≡ false = sym (c.has.ensures.1 h) ∙ c.if-has.false in cc), refl))
