use Rattle.smv_flat_laws.proofs.flattening_is_exact.Goals as goal
use Rattle.smv_flat_laws.proofs.Flattening.{flattening}
use Rattle.smv_flat_laws.proofs.Variables.{variables_are}
use Rattle.smv_flat_laws.proofs.Walkable.{accepted_walkable}
use Rattle.smv_flat_laws.proofs.Numbered.{has_valuation}

pub returns-clause-formulas : goal.returns-clause-formulas
returns-clause-formulas c = flattening

pub returns-clause-variables : goal.returns-clause-variables
returns-clause-variables c = λ p m accepted is. variables_are p (accepted_walkable p accepted) m is

pub returns-clause-valuations : goal.returns-clause-valuations
returns-clause-valuations c = has_valuation
