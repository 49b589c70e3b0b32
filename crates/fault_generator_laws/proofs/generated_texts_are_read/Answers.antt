use Rattle.fault_generator_laws.proofs.Readings.{generated_text_is_read, instruction_text_is_read, top_text_is_read}
use Rattle.fault_generator_laws.proofs.generated_texts_are_read.Goals as goal

pub returns-clause-model : goal.returns-clause-model
returns-clause-model c = generated_text_is_read

pub returns-clause-instructions : goal.returns-clause-instructions
returns-clause-instructions c = instruction_text_is_read

pub returns-clause-top : goal.returns-clause-top
returns-clause-top c = top_text_is_read
