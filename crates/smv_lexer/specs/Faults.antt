-- Why bytes have no split, and where.
use Rattle.std.specs.Prelude.{◌≡◌, ◌<◌, ◌+◌, ◌-◌, ◌^◌, ℕ, false, List, [], ◌∷◌, ◌++◌, length, codes}
use Rattle.smv_lexer.specs.declared.token.TokenKind.{TokenKind}
use Rattle.smv_lexer.specs.declared.token.TokenKind.TheVariants.{Number}
use Rattle.smv_lexer.specs.declared.token.LexFault.{LexFault}
use Rattle.smv_lexer.specs.declared.token.LexFault.TheVariants as fault
use Rattle.smv_lexer.specs.declared.scan.TokenStop.{TokenStop}
use Rattle.smv_lexer.specs.declared.scan.TokenStop.TheVariants as stop
use Rattle.smv_lexer.specs.Bytes.{is_blank}
use Rattle.smv_lexer.specs.Tokens.{IsToken, IsLongest, Piece, Splits, BeginsComment, number_of}

-- the bytes have no split
abbrev pub HasNoSplit : List ℕ → Type 0
HasNoSplit bytes = (pieces : List Piece) → Splits pieces bytes [] → ⊥

-- pieces reach up to this place, and this holds of what stands there
abbrev pub StopsAt : List ℕ → ℕ → (List ℕ → Type 0) → Type 0
StopsAt bytes at P =
    (pieces : List Piece) × (rest : List ℕ) × Splits pieces bytes rest × (at + length rest ≡ length bytes) × P rest

-- neither a token nor a blank begins here
pub record IsBadByte (bytes : List ℕ) : Type 0 where
  pub some : 0 < length bytes
  pub no_comment : BeginsComment bytes → ⊥
  pub no_blank : (b : ℕ) (after : List ℕ) → bytes ≡ b ∷ after → is_blank b ≡ false
  pub no_token : (kind : TokenKind) (text after : List ℕ) → bytes ≡ text ++ after → IsToken kind text after → ⊥

-- a `/--` without a `--/` after it
pub record IsOpenComment (bytes : List ℕ) : Type 0 where
  pub inner : List ℕ
  pub spelled : bytes ≡ codes "/--" ++ inner
  pub open_ : (front back : List ℕ) → inner ≡ front ++ (codes "--/" ++ back) → ⊥

-- a run of digits whose number is 2 ^ 63 or more
pub record IsBigNumber (bytes : List ℕ) : Type 0 where
  pub digits : List ℕ
  pub after : List ℕ
  pub spelled : bytes ≡ digits ++ after
  pub number : IsLongest Number digits after
  pub big : 2 ^ 63 - 1 < number_of digits

-- what a fault says of the bytes; want of memory says nothing of them, and is the fault of none
abbrev pub IsFaultOf : List ℕ → LexFault → Type 0
IsFaultOf bytes (fault.BadByte at) = StopsAt bytes at IsBadByte
IsFaultOf bytes (fault.OpenComment at) = StopsAt bytes at IsOpenComment
IsFaultOf bytes (fault.NumberTooBig at) = StopsAt bytes at IsBigNumber
IsFaultOf bytes fault.OutOfMemory = ⊥

-- the fault of a stop at this place
abbrev pub fault_at : TokenStop → ℕ → LexFault
fault_at stop.BadByte at = fault.BadByte at
fault_at stop.OpenComment at = fault.OpenComment at
fault_at stop.NumberTooBig at = fault.NumberTooBig at
