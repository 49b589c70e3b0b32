use Rattle.fault_generator_laws.proofs.Texts.{generated_text_short, generated_text_has_depths, instruction_text_short, instruction_text_has_depths, top_text_has_depths}
use Rattle.fault_generator_laws.proofs.generated_texts_are_within_depths.Goals as goal

pub returns-clause-short : goal.returns-clause-short
returns-clause-short c = generated_text_short

pub returns-clause-depths : goal.returns-clause-depths
returns-clause-depths c = generated_text_has_depths

pub returns-clause-instructions_short : goal.returns-clause-instructions_short
returns-clause-instructions_short c = instruction_text_short

pub returns-clause-instructions_depths : goal.returns-clause-instructions_depths
returns-clause-instructions_depths c = instruction_text_has_depths

pub returns-clause-top_depths : goal.returns-clause-top_depths
returns-clause-top_depths c = top_text_has_depths
