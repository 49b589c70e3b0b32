use Rattle.std.proofs.Common.{◌≡◌, ◌∙◌, ◌<◌, ap, sym, length, slice_get, Some, refl, arith}
use Rattle.std.specs.Prelude.{map}
use Rattle.std.proofs.lemmas.List.{length-map}
use Rattle.std.proofs.lemmas.Option.{slice_get_read}
use Rattle.smv_types.specs.Types.{variable_domain}
use Rattle.smv_types.proofs.DomainLaws.{typed_values}
use Rattle.smv_types.proofs.typed.Typed.domain.Goals as goal

pub returns-clause-values : goal.returns-clause-values
returns-clause-values c =
    let t = c.args.self.now in
    let domains = map (variable_domain t.model.symbols) t.model.variables in
    let same : length t.domains.items ≡ length domains = ap length t.domains_are in
    let within : c.args.i < length t.domains.items = omega (arith, same, length-map t.model.variables (variable_domain t.model.symbols), c.requires) in
    let at : slice_get t.domains.items c.args.i ≡ Some c.index.result.now = slice_get_read t.domains.items (length t.domains.items) c.args.i c.index.result.now refl within c.index.ensures in
    typed_values t.model t.typed c.args.i c.index.result.now (ap (λ ds. slice_get ds c.args.i) (sym t.domains_are) ∙ at)
