use Rattle.smv_language.specs.ProgramTree.{program_tree}
use Rattle.fault_extend.proofs.NameAnswers.{want_told}
use Rattle.fault_extend.proofs.guards.scope_of.Goals as goal

pub returns-in-Err-clause-memory : goal.returns-in-Err-clause-memory
returns-in-Err-clause-memory c = λ accepted. want_told (program_tree c.args.program.now) c.in-Err.fault c.flat_cause.result accepted c.in-Err.ensures.fault c.flat_cause.ensures
