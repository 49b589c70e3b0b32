-- An expression costs as much resolved as it did.
use Rattle.std.proofs.Common.{◌≡◌, Option, Some, sym, ◌∙◌, ap}
use Rattle.smv_language.specs.Language.{Tree, Path, Formula, FlatLeaf}
use Rattle.smv_flat_laws.specs.NameResolution.{IsResolved}
use Rattle.smv_type_laws.specs.Costs.{cost_of}
use Rattle.smv_type_laws.proofs.Mapped.{cost_mapped}

-- What a written condition costs.
pub resolved_cost : (r : Path → Option FlatLeaf) (e : Formula) (flat : Tree FlatLeaf) → IsResolved r e flat → cost_of flat ≡ cost_of e
resolved_cost r e flat is = sym (cost_mapped Some flat) ∙ ap cost_of is ∙ cost_mapped r e
