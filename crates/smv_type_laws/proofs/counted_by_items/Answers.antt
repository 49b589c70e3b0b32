use Rattle.smv_type_laws.proofs.CountedItems.{definitions_by_items, conditions_by_items, counted_by_items, counted_is_too_large}
use Rattle.smv_type_laws.proofs.VariableSums.{variables_by_items}
use Rattle.smv_type_laws.proofs.counted_by_items.Goals as goal

pub returns-clause-variables : goal.returns-clause-variables
returns-clause-variables c = variables_by_items

pub returns-clause-definitions : goal.returns-clause-definitions
returns-clause-definitions c = definitions_by_items

pub returns-clause-conditions : goal.returns-clause-conditions
returns-clause-conditions c = conditions_by_items

pub returns-clause-counted : goal.returns-clause-counted
returns-clause-counted c = counted_by_items

pub returns-clause-large : goal.returns-clause-large
returns-clause-large c = counted_is_too_large
