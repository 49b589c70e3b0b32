use Rattle.std.proofs.Common.{◌≡◌, drop}
use Rattle.smv_lexer.specs.Runs.{number_from}
use Rattle.smv_expression_reader.proofs.token.value_of.Given as goal

abbrev pub invariant-loop-digit : goal.invariant-loop-digit
invariant-loop-digit l = number_from l.value (drop l.digit-index l.text) ≡ number_from 0 l.text
