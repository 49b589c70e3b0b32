use Rattle.fault_generator_laws.proofs.Top.{generated_top_keeps_names, generated_top_typed}
use Rattle.fault_generator_laws.proofs.generated_tops_are_lawful.Goals as goal

pub returns-clause-names : goal.returns-clause-names
returns-clause-names c = generated_top_keeps_names

pub returns-clause-kinds : goal.returns-clause-kinds
returns-clause-kinds c = generated_top_typed
