use Rattle.std.proofs.Common.{map, arith}
use Rattle.smv_language.specs.ModelTree.{formula_tree}
use Rattle.sat_expressions.specs.ModelNames.{model_of, names_in}
use Rattle.sat_expressions.proofs.Members.{named_later}
use Rattle.sat_encoding.specs.Copies.{IsRightFormula}
use Rattle.sat_encoding.proofs.LoopLaws.{formulas_next}
use Rattle.sat_encoding.proofs.lists.formulas.Goals as goal
use Rattle.smv_flat_laws.proofs.Conditions.{each_at}
use Rattle.smv_language.proofs.ListLaws.{get_there, get_map}

pub holds-requires-clause-named : goal.holds-requires-clause-named
holds-requires-clause-named c = named_later c.args.names.now c.args.g.now c.loop-formula.g c.loop-formula.invariant.1 c.requires.named

pub holds-requires-clause-right : goal.holds-requires-clause-right
holds-requires-clause-right c =
    each_at (IsRightFormula (model_of c.args.names.now)) (map formula_tree c.args.formulas.now) c.loop-formula.formula-index (formula_tree c.formula-item.result) c.requires.right
    (get_map formula_tree c.args.formulas.now c.loop-formula.formula-index c.formula-item.result (get_there c.args.formulas.now c.loop-formula.formula-index c.formula-item.result (omega arith) c.formula-item.is))

pub loop-formula-preserved : goal.loop-formula-preserved
loop-formula-preserved c = (
  formulas_next (names_in c.args.names.now) (map formula_tree c.args.formulas.now) c.loop-formula.formula-index (formula_tree c.formula-item.result) c.loop-formula.g c.holds.new.g _
      (get_map formula_tree c.args.formulas.now c.loop-formula.formula-index c.formula-item.result (get_there c.args.formulas.now c.loop-formula.formula-index c.formula-item.result (omega arith) c.formula-item.is))
      c.in_ok-holds.ensures c.loop-formula.invariant.0,
  omega (arith, c.loop-formula.invariant.1, c.in_ok-holds.ensures.grows),
)
