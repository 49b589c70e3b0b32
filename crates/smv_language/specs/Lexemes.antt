-- Tokens as the grammar sees them: words by their text, numbers by their value and digits, and signs.
use Rattle.std.specs.Prelude.{ℕ, Bool, List, [], ◌∷◌, map, ◌||◌, codes, slice_range}
use Rattle.smv_lexer.specs.declared.token.TokenKind.{TokenKind}
use Rattle.smv_lexer.specs.declared.token.TokenKind.TheVariants.{Word, Number}
use Rattle.smv_lexer.specs.declared.token.Token.{Token}
use Rattle.smv_lexer.specs.Tokens.{number_of}
use Rattle.smv_language.specs.Texts.{is_among}

-- A number keeps its digits beside its value, since a text that is kept as it stands shows leading zeros.
pub data Lexeme : Type 0 where
  word : List ℕ → Lexeme
  num : ℕ → List ℕ → Lexeme
  sign : TokenKind → Lexeme

-- what the grammar sees of a token of this kind and text
abbrev pub lexeme_of : TokenKind → List ℕ → Lexeme
lexeme_of Word text = word text
lexeme_of Number text = num (number_of text) text
lexeme_of kind text = sign kind

-- what the grammar sees of the tokens of a text
abbrev pub lexemes_of : List ℕ → List Token → List Lexeme
lexemes_of bytes tokens = map (λ t. lexeme_of t.kind (slice_range bytes t.start t.end)) tokens

-- the words that begin a section, or what is skipped
abbrev pub section_words : List (List ℕ)
section_words =
    codes "MODULE" ∷ codes "VAR" ∷ codes "IVAR" ∷ codes "FROZENVAR" ∷ codes "DEFINE" ∷ codes "CONSTANTS" ∷ codes "ASSIGN" ∷ codes "INIT" ∷
    codes "INVAR" ∷ codes "TRANS" ∷ codes "CTLSPEC" ∷ codes "SPEC" ∷ codes "LTLSPEC" ∷ codes "PSLSPEC" ∷ codes "INVARSPEC"
    ∷ codes "COMPUTE" ∷
    codes "FAIRNESS" ∷ codes "JUSTICE" ∷ codes "COMPASSION" ∷ []

-- the words of expressions, types and targets
abbrev pub expression_words : List (List ℕ)
expression_words =
    codes "case" ∷ codes "esac" ∷ codes "mod" ∷ codes "next" ∷ codes "init" ∷ codes "union" ∷ codes "in" ∷ codes "xor" ∷ codes "xnor" ∷
    codes "TRUE" ∷ codes "FALSE" ∷ codes "boolean" ∷ []

-- words that the language left out
abbrev pub left_out_words : List (List ℕ)
left_out_words =
    codes "process" ∷ codes "self" ∷ codes "count" ∷ codes "toint" ∷ codes "bool" ∷ codes "word" ∷ codes "array" ∷ codes "of"
    ∷ codes "real" ∷
    codes "integer" ∷ codes "signed" ∷ codes "unsigned" ∷ codes "ISA" ∷ []

-- no name has this text
abbrev pub is_reserved : List ℕ → Bool
is_reserved text = is_among section_words text || is_among expression_words text || is_among left_out_words text
