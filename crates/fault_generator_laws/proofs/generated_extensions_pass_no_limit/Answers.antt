use Rattle.fault_generator_laws.proofs.Woven.{generated_within_numbers, generated_breaks_no_number}
use Rattle.fault_generator_laws.proofs.Sizes.{generated_small}
use Rattle.fault_generator_laws.proofs.generated_extensions_pass_no_limit.Goals as goal

pub returns-clause-numbers : goal.returns-clause-numbers
returns-clause-numbers c = generated_within_numbers

pub returns-clause-first : goal.returns-clause-first
returns-clause-first c = generated_breaks_no_number

pub returns-clause-size : goal.returns-clause-size
returns-clause-size c = generated_small
