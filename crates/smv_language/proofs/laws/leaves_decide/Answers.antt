use Rattle.smv_language.proofs.Agreement.{evaluate_agrees}
use Rattle.smv_language.proofs.Substituted.{evaluate_map}
use Rattle.smv_language.proofs.laws.leaves_decide.Goals as goal

pub returns-clause-agreeing : goal.returns-clause-agreeing
returns-clause-agreeing c = evaluate_agrees

pub returns-clause-mapped : goal.returns-clause-mapped
returns-clause-mapped c = λ f t now next. evaluate_map f t now next
