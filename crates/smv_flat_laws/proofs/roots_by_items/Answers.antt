use Rattle.smv_flat_laws.proofs.roots_by_items.Goals as goal
use Rattle.smv_flat_laws.proofs.RootPlaces.{roots_by_items}

pub returns : goal.returns
returns c = roots_by_items
