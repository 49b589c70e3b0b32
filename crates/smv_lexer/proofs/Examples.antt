-- What the definitions give for small texts.
use Rattle.std.proofs.Common.{◌≡◌, [], ◌∷◌, Some, None, refl, arith}
use Rattle.std.specs.Prelude.{codes}
use Rattle.smv_lexer.specs.declared.token.TokenKind.TheVariants.{Word, Iff}
use Rattle.smv_lexer.specs.declared.scan.TokenStop.TheVariants as stop
use Rattle.smv_lexer.specs.Tokens.{number_of, HasTokens}
use Rattle.smv_lexer.specs.Faults.{HasNoSplit}
use Rattle.smv_lexer.specs.Scan.{found, piece_at}
use Rattle.smv_lexer.proofs.PieceLemmas.{piece_found}
use Rattle.smv_lexer.proofs.SplitLemmas.{no_split}

-- zeros before a number count for nothing
leading_zeros : number_of (codes "007") ≡ 7
leading_zeros = refl

-- the longest sign is the piece
longest_sign : piece_at (codes "<->x") ≡ found (Some Iff) 3
longest_sign = refl

-- a word takes a `-` inside, but not the one of `->`
word_with_dash : piece_at (codes "a-b->c") ≡ found (Some Word) 3
word_with_dash = refl

-- `a--b` is the word `a` and a comment
word_and_comment : HasTokens (codes "a--b") (record { kind = Word; start = 0; end = 1 } ∷ [])
word_and_comment = (
  record { kind = Some Word; text = codes "a" } ∷ record { kind = None; text = codes "--b" } ∷ [],
  (
    codes "--b",
    refl,
    (piece_found (codes "a--b") (record { kind = Some Word; len = 1 }) (omega arith) refl).piece,
    ([], refl, (piece_found (codes "--b") (record { kind = None; len = 3 }) (omega arith) refl).piece, refl),
  ),
  refl,
)

-- the dashes of `/--/` are not shared, so its comment is open
open_comment : HasNoSplit (codes "/--/")
open_comment others split = no_split [] others (codes "/--/") (codes "/--/") stop.OpenComment refl (omega arith) refl split
