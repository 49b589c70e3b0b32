use Rattle.fault_odds.proofs.Products.{product_bounded, bound_small}
use Rattle.fault_odds.proofs.Sums.{sums_bounded, sums_small}
use Rattle.fault_odds.proofs.bounds_are_right.Goals as goal

pub returns-clause-products : goal.returns-clause-products
returns-clause-products c = λ ps h. (product_bounded ps h, bound_small ps h)

pub returns-clause-sums : goal.returns-clause-sums
returns-clause-sums c = sums_bounded

pub returns-clause-small : goal.returns-clause-small
returns-clause-small c = sums_small
