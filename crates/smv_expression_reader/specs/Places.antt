-- What the grammar sees of a token of a text.
use Rattle.std.specs.Prelude.{ℕ, Bool, false, List, slice_range}
use Rattle.smv_lexer.specs.declared.token.Token.{Token}
use Rattle.smv_lexer.specs.Tokens.{sign_text}
use Rattle.smv_language.specs.Language.{Lexeme, word, num, sign, lexeme_of, same_text}

-- the lexeme of a token of the bytes
abbrev pub lexeme_at : List ℕ → Token → Lexeme
lexeme_at bytes token = lexeme_of token.kind (slice_range bytes token.start token.end)

-- whether it is this word
abbrev pub is_word : Lexeme → List ℕ → Bool
is_word (word x) w = same_text x w
is_word (num n d) w = false
is_word (sign s) w = false

-- its text
abbrev pub text_in : Lexeme → List ℕ
text_in (word x) = x
text_in (num n d) = d
text_in (sign s) = sign_text s
