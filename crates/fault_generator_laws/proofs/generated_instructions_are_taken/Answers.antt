use Rattle.fault_generator_laws.proofs.Instructions.{generated_items_kept, generated_faults_few, generated_uses_kept}
use Rattle.fault_generator_laws.proofs.Faults.{generated_faults_are_stages}
use Rattle.fault_generator_laws.proofs.generated_instructions_are_taken.Goals as goal

pub returns-clause-items : goal.returns-clause-items
returns-clause-items c = generated_items_kept

pub returns-clause-numbers : goal.returns-clause-numbers
returns-clause-numbers c = generated_faults_few

pub returns-clause-expressions : goal.returns-clause-expressions
returns-clause-expressions c = generated_uses_kept

pub returns-clause-faults : goal.returns-clause-faults
returns-clause-faults c = generated_faults_are_stages
