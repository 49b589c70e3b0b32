use Rattle.smv_language.proofs.Spelled.{expression_writable, program_writable}
use Rattle.smv_language.proofs.laws.spelled_is_writable.Goals as goal

pub returns : goal.returns
returns c = (expression_writable, program_writable)
