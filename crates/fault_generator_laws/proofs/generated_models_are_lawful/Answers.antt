use Rattle.fault_generator_laws.proofs.Accepted.{generated_accepted}
use Rattle.fault_generator_laws.proofs.Typed.{generated_typed}
use Rattle.fault_generator_laws.proofs.generated_models_are_lawful.Goals as goal

pub returns-clause-names : goal.returns-clause-names
returns-clause-names c = generated_accepted

pub returns-clause-kinds : goal.returns-clause-kinds
returns-clause-kinds c = generated_typed
