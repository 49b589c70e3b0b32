-- What each refusal says of the bytes.
use Rattle.std.specs.Prelude.{◌≡◌, ℕ, ◌+◌, Bool, true, false, List, ◌++◌, Some, length, take, slice_get}
use Rattle.smv_lexer.specs.declared.token.Token.{Token}
use Rattle.smv_lexer.specs.Tokens.{HasTokens}
use Rattle.smv_lexer.specs.Faults.{HasNoSplit, IsFaultOf}
use Rattle.smv_language.specs.Language.{Formula, Lexeme, word, num, sign, lexemes_of, SpellsExpr, BytesSpellExpr}
use Rattle.smv_language.specs.Language.{HasDepths}
use Rattle.smv_expression_reader.specs.declared.fault.ParseFault.{ParseFault}
use Rattle.smv_expression_reader.specs.declared.fault.ParseFault.TheVariants as fault
use Rattle.smv_expression_reader.specs.Words.{use_of, is_nothing}
use Rattle.smv_expression_reader.specs.Places.{lexeme_at}

-- the list spells some expression
abbrev pub IsExpression : List Lexeme → Type 0
IsExpression ts = (t : Formula) × SpellsExpr ts t

-- the list is the front of one of this kind, of whatever height
abbrev pub IsFrontOf : (List Lexeme → Type 0) → List Lexeme → Type 0
IsFrontOf IsSpelled ts = (us : List Lexeme) × IsSpelled (ts ++ us)

-- a word that is left out of the language
abbrev pub is_left_out : Lexeme → Bool
is_left_out (word x) = is_nothing (use_of x).0 (use_of x).1
is_left_out (num n d) = false
is_left_out (sign s) = false

-- reading stops at the token that begins at this place: up to it the tokens are a front, and with it they are none
pub record StopsAt (IsSpelled : List Lexeme → Type 0) (bytes : List ℕ) (at : ℕ) (left_out : Bool) : Type 0 where
  pub tokens : List Token
  pub split : HasTokens bytes tokens
  pub number : ℕ
  pub token : Token
  pub stands : slice_get tokens number ≡ Some token
  pub place : token.start ≡ at
  pub kind : is_left_out (lexeme_at bytes token) ≡ left_out
  pub before : IsFrontOf IsSpelled (take number (lexemes_of bytes tokens))
  pub behind : IsFrontOf IsSpelled (take (number + 1) (lexemes_of bytes tokens)) → ⊥

-- reading stops at no token, but the tokens are none of this kind
pub record Unfinished (IsSpelled : List Lexeme → Type 0) (bytes : List ℕ) (at : ℕ) : Type 0 where
  pub tokens : List Token
  pub split : HasTokens bytes tokens
  pub place : at ≡ length bytes
  pub front : IsFrontOf IsSpelled (lexemes_of bytes tokens)
  pub incomplete : IsSpelled (lexemes_of bytes tokens) → ⊥

-- the bytes spell an expression, but not within the depths
pub record IsTooDeep (bytes : List ℕ) : Type 0 where
  pub tree : Formula
  pub spelled : BytesSpellExpr bytes tree
  pub deep : HasDepths bytes tree → ⊥

-- what a fault says of the bytes, where a text of this kind is read, and what is too deep
abbrev pub FaultMeans : (List Lexeme → Type 0) → Type 0 → List ℕ → ParseFault → Type 0
FaultMeans IsSpelled Deep bytes (fault.Lex f) = IsFaultOf bytes f × HasNoSplit bytes
FaultMeans IsSpelled Deep bytes (fault.Unexpected at) = StopsAt IsSpelled bytes at false
FaultMeans IsSpelled Deep bytes (fault.End at) = Unfinished IsSpelled bytes at
FaultMeans IsSpelled Deep bytes fault.TooDeep = Deep
FaultMeans IsSpelled Deep bytes (fault.LeftOut at) = StopsAt IsSpelled bytes at true
FaultMeans IsSpelled Deep bytes fault.OutOfMemory = Unit {0}

-- where reading stops at this token
abbrev pub stop_fault : Bool → ℕ → ParseFault
stop_fault true at = fault.LeftOut at
stop_fault false at = fault.Unexpected at

-- a fault of the tokens, or want of memory
abbrev pub IsOfTokens : List ℕ → ParseFault → Type 0
IsOfTokens bytes (fault.Lex f) = IsFaultOf bytes f × HasNoSplit bytes
IsOfTokens bytes fault.OutOfMemory = Unit {0}
IsOfTokens bytes _ = ⊥
