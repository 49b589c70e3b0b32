-- How bytes split into tokens and blanks: a relation on whole texts.
use Rattle.std.specs.Prelude.{◌≡◌, ◌⊎◌, ◌<◌, ◌≤◌, ◌+◌, ◌-◌, ◌^◌, ℕ, true, List, [], ◌∷◌, ◌++◌, length, drop, slice_range, Option, Some}
use Rattle.std.specs.Prelude.{None, codes}
use Rattle.smv_lexer.specs.declared.token.TokenKind.{TokenKind}
use Rattle.smv_lexer.specs.declared.token.TokenKind.TheVariants.{Word, Number, Becomes, Dots, NotEqual, AtMost, AtLeast, Iff, Implies, Open}
use Rattle.smv_lexer.specs.declared.token.TokenKind.TheVariants.{Close, OpenBrace, CloseBrace, OpenSquare, CloseSquare, Comma, Semicolon}
use Rattle.smv_lexer.specs.declared.token.TokenKind.TheVariants.{Colon, Dot, Bang, And, Bar, Equal, Less, Greater, Plus, Minus, Star, Slash}
use Rattle.smv_lexer.specs.declared.token.TokenKind.TheVariants.{Question}
use Rattle.smv_lexer.specs.declared.token.Token.{Token}
use Rattle.smv_lexer.specs.Bytes.{is_blank, is_word_start}
use Rattle.smv_lexer.specs.Runs.{Runs, takes_word, takes_digit, takes_line, number_from}

-- the bytes of a sign
abbrev pub sign_text : TokenKind → List ℕ
sign_text Word = []
sign_text Number = []
sign_text Becomes = codes ":="
sign_text Dots = codes ".."
sign_text NotEqual = codes "!="
sign_text AtMost = codes "<="
sign_text AtLeast = codes ">="
sign_text Iff = codes "<->"
sign_text Implies = codes "->"
sign_text Open = codes "("
sign_text Close = codes ")"
sign_text OpenBrace = codes "{"
sign_text CloseBrace = codes "}"
sign_text OpenSquare = codes "["
sign_text CloseSquare = codes "]"
sign_text Comma = codes ","
sign_text Semicolon = codes ";"
sign_text Colon = codes ":"
sign_text Dot = codes "."
sign_text Bang = codes "!"
sign_text And = codes "&"
sign_text Bar = codes "|"
sign_text Equal = codes "="
sign_text Less = codes "<"
sign_text Greater = codes ">"
sign_text Plus = codes "+"
sign_text Minus = codes "-"
sign_text Star = codes "*"
sign_text Slash = codes "/"
sign_text Question = codes "?"

-- a sign and its bytes
pub record Sign : Type 0 where
  pub kind : TokenKind
  pub text : List ℕ

-- the sign of this kind
abbrev pub sign : TokenKind → Sign
sign kind = record { kind = kind; text = sign_text kind }

-- all signs, the longest first
abbrev pub signs : List Sign
signs =
    sign Iff ∷ sign Becomes ∷ sign Dots ∷ sign NotEqual ∷ sign AtMost ∷ sign AtLeast
    ∷ sign Implies ∷ sign Open ∷ sign Close ∷ sign OpenBrace ∷ sign CloseBrace ∷ sign OpenSquare
    ∷ sign CloseSquare ∷ sign Comma ∷ sign Semicolon ∷ sign Colon ∷ sign Dot ∷ sign Bang
    ∷ sign And ∷ sign Bar ∷ sign Equal ∷ sign Less ∷ sign Greater ∷ sign Plus
    ∷ sign Minus ∷ sign Star ∷ sign Slash ∷ sign Question ∷ []

-- a letter or `_`, and then letters, digits, `_`, `$`, `#` and `-`, but no `-` before a `-` or a `>`
abbrev pub IsWord : List ℕ → List ℕ → Type 0
IsWord [] after = ⊥
IsWord (first ∷ more) after = (is_word_start first ≡ true) × Runs takes_word more after

-- one or more digits
abbrev pub IsNumber : List ℕ → List ℕ → Type 0
IsNumber [] after = ⊥
IsNumber (first ∷ more) after = Runs takes_digit (first ∷ more) after

-- one of these signs has this kind and this text
abbrev pub IsAmong : List Sign → TokenKind → List ℕ → Type 0
IsAmong [] kind text = ⊥
IsAmong (sign ∷ signs) kind text = ((sign.kind ≡ kind) × (sign.text ≡ text)) ⊎ IsAmong signs kind text

-- this text is a token of this kind, where these bytes follow it
abbrev pub IsToken : TokenKind → List ℕ → List ℕ → Type 0
IsToken kind text after =
    ((kind ≡ Word) × IsWord text after) ⊎ (((kind ≡ Number) × IsNumber text after) ⊎ IsAmong signs kind text)

-- the text is a token of this kind, and no longer token begins at its place
pub record IsLongest (kind : TokenKind) (text after : List ℕ) : Type 0 where
  pub token : IsToken kind text after
  pub longest : (other : TokenKind) (front back : List ℕ) → front ++ back ≡ text ++ after → IsToken other front back →
      length front ≤ length text

-- a piece of a text: a token of a kind, or a blank
pub record Piece : Type 0 where
  pub kind : Option TokenKind
  pub text : List ℕ

-- the bytes begin with these
abbrev pub BeginsWith : List ℕ → List ℕ → Type 0
BeginsWith bytes front = (rest : List ℕ) × (bytes ≡ front ++ rest)

-- a comment can begin here
abbrev pub BeginsComment : List ℕ → Type 0
BeginsComment bytes = BeginsWith bytes (codes "--") ⊎ BeginsWith bytes (codes "/--")

-- the text ends here, or a line feed stands here
abbrev pub EndsLine : List ℕ → Type 0
EndsLine [] = Unit {0}
EndsLine (b ∷ bs) = b ≡ 10

-- from `--` up to the end of the line
pub record IsLineComment (text after : List ℕ) : Type 0 where
  pub inner : List ℕ
  pub spelled : text ≡ codes "--" ++ inner
  pub line : Runs takes_line inner after
  pub ends : EndsLine after

-- from `/--` up to the first `--/` after it
pub record IsBlockComment (text : List ℕ) : Type 0 where
  pub inner : List ℕ
  pub spelled : text ≡ codes "/--" ++ (inner ++ codes "--/")
  pub first : (front back : List ℕ) → inner ++ codes "--/" ≡ front ++ (codes "--/" ++ back) → back ≡ []

-- one blank byte
abbrev pub IsBlankByte : List ℕ → Type 0
IsBlankByte text = (b : ℕ) × (is_blank b ≡ true) × (text ≡ b ∷ [])

-- the number that a run of digits stands for
abbrev pub number_of : List ℕ → ℕ
number_of text = number_from 0 text

-- the longest token, where no comment can begin; a number is below 2 ^ 63
pub record IsTokenPiece (kind : TokenKind) (text after : List ℕ) : Type 0 where
  pub no_comment : BeginsComment (text ++ after) → ⊥
  pub longest : IsLongest kind text after
  pub small : kind ≡ Number → number_of text ≤ 2 ^ 63 - 1

-- this text is a piece of this kind, where these bytes follow it
abbrev pub IsPiece : Option TokenKind → List ℕ → List ℕ → Type 0
IsPiece None text after = IsLineComment text after ⊎ (IsBlockComment text ⊎ IsBlankByte text)
IsPiece (Some kind) text after = IsTokenPiece kind text after

-- these pieces stand at the front of the bytes, and this rest behind them
abbrev pub Splits : List Piece → List ℕ → List ℕ → Type 0
Splits [] bytes rest = bytes ≡ rest
Splits (piece ∷ pieces) bytes rest =
    (after : List ℕ) × (bytes ≡ piece.text ++ after) × IsPiece piece.kind piece.text after × Splits pieces after rest

-- the token of a piece of this length that begins at this place, and none of a blank
abbrev pub token_of : ℕ → Option TokenKind → ℕ → List Token
token_of start None len = []
token_of start (Some kind) len = record { kind = kind; start = start; end = start + len } ∷ []

-- the tokens of pieces that begin at this place
abbrev pub tokens_from : ℕ → List Piece → List Token
tokens_from start [] = []
tokens_from start (piece ∷ pieces) =
    token_of start piece.kind (length piece.text) ++ tokens_from (start + length piece.text) pieces

-- the tokens of a split of the bytes
abbrev pub HasTokens : List ℕ → List Token → Type 0
HasTokens bytes tokens = (pieces : List Piece) × Splits pieces bytes [] × (tokens ≡ tokens_from 0 pieces)

-- the bytes at the token's place are a token of its kind, as they stand in the text
pub record StandsIn (bytes : List ℕ) (token : Token) : Type 0 where
  pub some : token.start < token.end
  pub within : token.end ≤ length bytes
  pub piece : IsTokenPiece token.kind (slice_range bytes token.start token.end) (drop token.end bytes)
