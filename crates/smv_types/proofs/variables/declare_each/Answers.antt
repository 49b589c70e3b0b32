use Rattle.std.proofs.Common.{◌≡◌, ◌∙◌, ◌<◌, ◌++◌, [], ◌∷◌, ap, sym, length, get_or, take, arith}
use Rattle.std.specs.Prelude.{map}
use Rattle.std.proofs.lemmas.List.{map_more}
use Rattle.smv_language.specs.Language.{declared_tree, variable_tree}
use Rattle.smv_language.specs.declared.model.Variable.{Variable}
use Rattle.smv_type_laws.specs.DeclaredKinds.{judged_declared}
use Rattle.smv_type_laws.specs.FirstBreach.{first_of}
use Rattle.smv_type_laws.specs.Models.{judged_variables, variable_breaches}
use Rattle.smv_types.specs.Answers.{told_rules}
use Rattle.smv_types.specs.KeptKinds.{kept_sort, kept_sorts}
use Rattle.smv_types.specs.Sites.{told_first_site, earlier_site, site_at}
use Rattle.smv_types.specs.Sizes.{variable_bits}
use Rattle.smv_types.specs.Types.{variable_domain}
use Rattle.smv_types.proofs.PartLaws.{kinds_more, sites_more}
use Rattle.smv_types.proofs.SizeLaws.{variables_bits_more}
use Rattle.smv_types.proofs.variables.declare_each.Goals as goal

pub loop-variable-preserved : goal.loop-variable-preserved
loop-variable-preserved c =
    let symbols = c.args.numbers.now.texts.now in
    let vs = c.args.variables.now in
    let i = c.loop-variable.variable-index in
    let v = c.variable-item.result in
    let h : i < length vs = omega arith in
    let before = map variable_tree (take i vs) in
    let same_bits : variable_bits symbols v ≡ variable_bits symbols (get_or vs i v) = ap (variable_bits symbols) c.variable-item.is in
    record {
      domains =
          c.in_ok-all.ensures.domains ∙ ap (λ ds. ds ++ variable_domain symbols v ∷ []) c.loop-variable.invariant.domains
          ∙ ap (λ (x : Variable). map (variable_domain symbols) (take i vs) ++ variable_domain symbols x ∷ []) c.variable-item.is ∙ sym (map_more (variable_domain symbols) vs i v h);
      kinds =
          c.in_ok-all.ensures.kinds ∙ ap (λ ss. ss ++ kept_sort (judged_declared (declared_tree v.declared)) ∷ []) c.loop-variable.invariant.kinds
          ∙ ap (λ (x : Variable). kept_sorts (judged_variables before) ++ kept_sort (judged_declared (declared_tree x.declared)) ∷ []) c.variable-item.is ∙ sym (kinds_more vs i v h);
      first =
          c.in_ok-all.ensures.first ∙ ap (λ s. earlier_site s (site_at v.«instance» v.item (told_rules (judged_declared (declared_tree v.declared)).broken))) c.loop-variable.invariant.first
          ∙ ap (λ (x : Variable). earlier_site (told_first_site (first_of (variable_breaches before))) (site_at x.«instance» x.item (told_rules (judged_declared (declared_tree x.declared)).broken))) c.variable-item.is
          ∙ sites_more vs i v h;
      bits = omega (arith, c.in_ok-all.ensures.bits, c.loop-variable.invariant.bits, same_bits, variables_bits_more symbols vs i v h);
      few = omega (arith, c.in_ok-all.ensures.bits);
    }
