use Rattle.std.proofs.Common.{◌≡◌, ◌∙◌, ap, ◌++◌}
use Rattle.smv_type_laws.specs.FirstBreach.{first_of}
use Rattle.smv_types.specs.KeptKinds.{formula_breaches}
use Rattle.smv_types.specs.Names.{name_kind}
use Rattle.smv_types.specs.Sites.{told_first_site, earlier_site}
use Rattle.smv_types.proofs.SiteLaws.{joined_sites}
use Rattle.smv_types.proofs.conditions.judge_conditions.Goals as goal

pub returns : goal.returns
returns c =
    let k = name_kind c.args.sorts.now in
    let m = c.args.m.now in
    let first : c.judge_formulas-init.result ≡ told_first_site (first_of (formula_breaches k m.init)) = c.judge_formulas-init.ensures ∙ ap (λ fs. told_first_site (first_of (formula_breaches k fs))) c.as_slice.ensures in
    let second : c.judge_formulas-invar.result ≡ told_first_site (first_of (formula_breaches k m.invar)) = c.judge_formulas-invar.ensures ∙ ap (λ fs. told_first_site (first_of (formula_breaches k fs))) c.as_slice-2.ensures in
    let third : c.judge_formulas-trans.result ≡ told_first_site (first_of (formula_breaches k m.trans)) = c.judge_formulas-trans.ensures ∙ ap (λ fs. told_first_site (first_of (formula_breaches k fs))) c.as_slice-3.ensures in
    c.earlier-2.ensures ∙ ap (earlier_site c.judge_formulas-init.result) (c.earlier.ensures ∙ ap (λ s. earlier_site s c.judge_formulas-trans.result) second ∙ ap (earlier_site (told_first_site (first_of (formula_breaches k m.invar)))) third ∙ joined_sites (formula_breaches k m.invar) (formula_breaches k m.trans))
    ∙ ap (λ s. earlier_site s (told_first_site (first_of (formula_breaches k m.invar ++ formula_breaches k m.trans)))) first ∙ joined_sites (formula_breaches k m.init) (formula_breaches k m.invar ++ formula_breaches k m.trans)
