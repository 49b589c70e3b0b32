use Rattle.std.proofs.Common.{rules}
use Rattle.std.proofs.lemmas.List.{append_assoc}
use Rattle.smv_language.proofs.TextLaws.{text_of_set}
use Rattle.smv_language.proofs.print.+print.Goals as goal

pub append_expr-returns-in_ok-append_expressions-in-SetOf : goal.append_expr-returns-in_ok-append_expressions-in-SetOf
append_expr-returns-in_ok-append_expressions-in-SetOf t c = search (rules, append_assoc, text_of_set)
