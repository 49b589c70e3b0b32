-- Bytes that are read as tokens, piece by piece.
use Rattle.std.proofs.Common.{◌≡◌, ℕ, ◌+◌, ◌-◌, ◌<◌, List, [], ◌∷◌, ◌++◌, length, take, Option, Some, None, sym, ap, ◌∙◌, refl, subst, arith, append_assoc, length-append}
use Rattle.std.proofs.Math.Seq.{take-append_seam, drop-append_seam}
use Rattle.std.proofs.lemmas.List.{append-nil}
use Rattle.smv_lexer.specs.declared.token.TokenKind.{TokenKind}
use Rattle.smv_lexer.specs.declared.token.Token.{Token}
use Rattle.smv_lexer.specs.Tokens.{Piece, IsPiece, Splits, token_of, tokens_from, HasTokens}
use Rattle.smv_lexer.specs.Scan.{found, piece_at}
use Rattle.smv_lexer.proofs.PieceLemmas.{piece_found}
use Rattle.smv_language.specs.Lexemes.{Lexeme, lexeme_of, lexemes_of}
use Rattle.smv_lexer.proofs.PlaceLemmas.{range_is}

-- what the grammar sees of a piece, before what it sees of those after it
abbrev pub with_piece : Option TokenKind → List ℕ → List Lexeme → List Lexeme
with_piece None text more = more
with_piece (Some kind) text more = lexeme_of kind text ∷ more

-- what the grammar sees of pieces
abbrev pub seen : List Piece → List Lexeme
seen [] = []
seen (piece ∷ pieces) = with_piece piece.kind piece.text (seen pieces)

seen_first : (kind : Option TokenKind) (whole before text after : List ℕ) (start : ℕ) (tokens : List Token) → whole ≡ before ++ (text ++ after) → start ≡ length before →
    lexemes_of whole (token_of start kind (length text) ++ tokens) ≡ with_piece kind text (lexemes_of whole tokens)
seen_first None whole before text after start tokens cut place = refl
seen_first (Some kind) whole before text after start tokens cut place =
    ap (λ t. lexeme_of kind t ∷ lexemes_of whole tokens) (range_is whole before text after start cut place)

-- the grammar sees of the tokens what it sees of the pieces
pub seen_tokens : (pieces : List Piece) (whole before bytes : List ℕ) (start : ℕ) → whole ≡ before ++ bytes → start ≡ length before → Splits pieces bytes [] →
    lexemes_of whole (tokens_from start pieces) ≡ seen pieces
seen_tokens [] whole before bytes start cut place splits = refl
seen_tokens (piece ∷ pieces) whole before bytes start cut place (after, spelled, is, later) =
    let whole_is : whole ≡ before ++ (piece.text ++ after) = cut ∙ ap (λ t. before ++ t) spelled in
    seen_first piece.kind whole before piece.text after start (tokens_from (start + length piece.text) pieces) whole_is place
    ∙ ap (with_piece piece.kind piece.text)
    (seen_tokens pieces whole (before ++ piece.text) after (start + length piece.text) (whole_is ∙ sym (append_assoc before piece.text after)) (omega (arith, place, length-append before piece.text)) later)

-- this text before this rest is read as these lexemes
pub record Reads (text rest : List ℕ) (shown : List Lexeme) : Type 0 where
  pub pieces : List Piece
  pub splits : Splits pieces (text ++ rest) rest
  pub same : seen pieces ≡ shown

pub nothing : (rest : List ℕ) → Reads [] rest []
nothing rest = record { pieces = []; splits = refl; same = refl }

with_both : (kind : Option TokenKind) (text : List ℕ) (xs ys zs : List Lexeme) → xs ≡ ys ++ zs → with_piece kind text xs ≡ with_piece kind text ys ++ zs
with_both None text xs ys zs e = e
with_both (Some kind) text xs ys zs e = ap (λ more. lexeme_of kind text ∷ more) e

seen_both : (pieces others : List Piece) → seen (pieces ++ others) ≡ seen pieces ++ seen others
seen_both [] others = refl
seen_both (piece ∷ pieces) others = with_both piece.kind piece.text (seen (pieces ++ others)) (seen pieces) (seen others) (seen_both pieces others)

splits_both : (pieces others : List Piece) (bytes mid rest : List ℕ) → Splits pieces bytes mid → Splits others mid rest → Splits (pieces ++ others) bytes rest
splits_both [] others bytes mid rest e later = subst (λ t. Splits others t rest) (sym e) later
splits_both (piece ∷ pieces) others bytes mid rest (after, spelled, is, more) later = (after, spelled, is, splits_both pieces others after mid rest more later)

-- one text and then another
pub then : (a b rest : List ℕ) (xs ys : List Lexeme) → Reads a (b ++ rest) xs → Reads b rest ys → Reads (a ++ b) rest (xs ++ ys)
then a b rest xs ys r s = record {
  pieces = r.pieces ++ s.pieces;
  splits = splits_both r.pieces s.pieces ((a ++ b) ++ rest) (b ++ rest) rest (subst (λ t. Splits r.pieces t (b ++ rest)) (sym (append_assoc a b rest)) r.splits) s.splits;
  same = seen_both r.pieces s.pieces ∙ ap (λ zs. zs ++ seen s.pieces) r.same ∙ ap (λ zs. xs ++ zs) s.same;
}

pub as_lexemes : (text rest : List ℕ) (xs ys : List Lexeme) → xs ≡ ys → Reads text rest xs → Reads text rest ys
as_lexemes text rest xs ys e r = subst (Reads text rest) e r

-- a piece that is found at a place is read as itself
pub piece_reads : (kind : Option TokenKind) (text rest : List ℕ) → 0 < length text → piece_at (text ++ rest) ≡ found kind (length text) → Reads text rest (with_piece kind text [])
piece_reads kind text rest some e =
    let here = piece_found (text ++ rest) (record { kind = kind; len = length text }) (omega (arith, length-append text rest, some)) e in
    let is : IsPiece kind text rest =
    subst (λ t. IsPiece kind t rest) (take-append_seam text rest) (subst (λ t. IsPiece kind (take (length text) (text ++ rest)) t) (drop-append_seam text rest) here.piece)
    in
    record { pieces = record { kind = kind; text = text } ∷ []; splits = (rest, refl, is, refl); same = refl }

-- a whole text that is read has tokens, which the grammar sees so
pub whole_reads : (text : List ℕ) (shown : List Lexeme) → Reads text [] shown → (tokens : List Token) × HasTokens text tokens × (lexemes_of text tokens ≡ shown)
whole_reads text shown r =
    let splits : Splits r.pieces text [] = subst (λ t. Splits r.pieces t []) (append-nil text) r.splits in
    (tokens_from 0 r.pieces, (r.pieces, splits, refl), seen_tokens r.pieces text [] text 0 refl (omega arith) splits ∙ r.same)
