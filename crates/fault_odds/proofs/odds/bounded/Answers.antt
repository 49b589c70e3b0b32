use Rattle.std.proofs.Common.{◌≤◌, subst, sym}
use Rattle.fault_odds.specs.Units.{one_in_units}
use Rattle.fault_odds.specs.Bounds.{Bounds, units_in}
use Rattle.fault_odds.proofs.Products.{product_bounded, bound_small}
use Rattle.fault_odds.proofs.OddsLemmas.{units_small}
use Rattle.fault_odds.proofs.odds.bounded.Goals as goal

pub returns-clause-bounds : goal.returns-clause-bounds
returns-clause-bounds c =
    subst (Bounds (units_in c.args.units.now c.args.set.now)) (sym c.rounded_product.ensures)
    (product_bounded (units_in c.args.units.now c.args.set.now) (units_small c.args.units.now c.args.set.now c.requires.small))

pub returns-clause-small : goal.returns-clause-small
returns-clause-small c =
    subst (λ n. n ≤ one_in_units) (sym c.rounded_product.ensures)
    (bound_small (units_in c.args.units.now c.args.set.now) (units_small c.args.units.now c.args.set.now c.requires.small))
