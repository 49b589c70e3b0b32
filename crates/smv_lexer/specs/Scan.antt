-- How the piece at a place is found: what the code computes, which laws of proofs/ join to Tokens.
use Rattle.std.specs.Prelude.{ℕ, ◌+◌, ◌-◌, ◌^◌, List, [], ◌∷◌, drop, take, length, nat_eq, nat_le, codes, Option, Some, None, Result, Ok}
use Rattle.std.specs.Prelude.{Err, if◌then◌else◌}
use Rattle.std.specs.List.{starts_with}
use Rattle.std.specs.Char.{is_ascii_digit}
use Rattle.smv_lexer.specs.declared.token.TokenKind.{TokenKind}
use Rattle.smv_lexer.specs.declared.token.TokenKind.TheVariants.{Word, Number}
use Rattle.smv_lexer.specs.declared.scan.FoundPiece.{FoundPiece}
use Rattle.smv_lexer.specs.declared.scan.TokenStop.{TokenStop}
use Rattle.smv_lexer.specs.declared.scan.TokenStop.TheVariants as stop
use Rattle.smv_lexer.specs.Bytes.{is_blank, is_word_start}
use Rattle.smv_lexer.specs.Runs.{run_len, takes_word, takes_digit, takes_line, number_from, block_len}
use Rattle.smv_lexer.specs.Tokens.{Sign, signs}

-- the first of these signs with which the bytes begin
abbrev pub sign_at : List Sign → List ℕ → Option Sign
sign_at [] bytes = None
sign_at (sign ∷ signs) bytes = if starts_with nat_eq bytes sign.text then Some sign else sign_at signs bytes

-- a piece of this kind and length was found
abbrev pub found : Option TokenKind → ℕ → Result FoundPiece TokenStop
found kind len = Ok (record { kind = kind; len = len })

-- the number of so many digits, if it is below 2 ^ 63
abbrev pub number_found : List ℕ → ℕ → Result FoundPiece TokenStop
number_found bytes len =
    if nat_le (number_from 0 (take len bytes)) (2 ^ 63 - 1) then found (Some Number) len else Err stop.NumberTooBig

-- the piece of a sign
abbrev pub sign_found : Option Sign → Result FoundPiece TokenStop
sign_found None = Err stop.BadByte
sign_found (Some sign) = found (Some sign.kind) (length sign.text)

-- the piece of a comment from `/--` on, whose end is so many bytes behind it
abbrev pub block_found : Option ℕ → Result FoundPiece TokenStop
block_found None = Err stop.OpenComment
block_found (Some len) = found None (len + 3)

-- the token or the blank byte that begins here, where no comment does
abbrev pub token_at : List ℕ → Result FoundPiece TokenStop
token_at [] = Err stop.BadByte
token_at (b ∷ bs) =
    if is_blank b then found None 1
    else (if is_word_start b then found (Some Word) (run_len takes_word bs + 1)
    else (if is_ascii_digit b then number_found (b ∷ bs) (run_len takes_digit (b ∷ bs))
    else sign_found (sign_at signs (b ∷ bs))))

-- the piece that begins here
abbrev pub piece_at : List ℕ → Result FoundPiece TokenStop
piece_at bytes =
    if starts_with nat_eq bytes (codes "--") then found None (run_len takes_line (drop 2 bytes) + 2)
    else (if starts_with nat_eq bytes (codes "/--") then block_found (block_len (drop 3 bytes))
    else token_at bytes)
