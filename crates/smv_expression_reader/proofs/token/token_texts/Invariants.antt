use Rattle.std.proofs.Common.{◌≡◌, take}
use Rattle.std.specs.Prelude.{map}
use Rattle.smv_expression_reader.specs.Places.{lexeme_at}
use Rattle.smv_expression_reader.proofs.token.token_texts.Given as goal

abbrev pub invariant-loop-token : goal.invariant-loop-token
invariant-loop-token l = l.texts.items ≡ map (lexeme_at l.bytes) (take l.token-index l.tokens)
