use Rattle.smv_language.proofs.OneProgram.{one_program, one_list_of_expressions}
use Rattle.smv_language.proofs.laws.one_program.Goals as goal

pub returns-clause-programs : goal.returns-clause-programs
returns-clause-programs c = one_program

pub returns-clause-lists : goal.returns-clause-lists
returns-clause-lists c = one_list_of_expressions
