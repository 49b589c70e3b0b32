-- Where the tokens of a split stand.
use Rattle.std.proofs.Common.{◌≡◌, ℕ, ◌+◌, ◌-◌, List, [], ◌∷◌, ◌++◌, length, take, drop, Option, Some, None, sym, ap, ◌∙◌, subst, arith, append_assoc, length-append}
use Rattle.std.specs.Prelude.{All, slice_range}
use Rattle.std.proofs.lemmas.List.Elements.{All-nil, All-cons}
use Rattle.std.proofs.Math.Seq.{take-append_seam, drop-append_seam}
use Rattle.smv_lexer.specs.declared.token.TokenKind.{TokenKind}
use Rattle.smv_lexer.specs.declared.token.Token.{Token}
use Rattle.smv_lexer.specs.Tokens.{Piece, IsPiece, IsTokenPiece, Splits, token_of, tokens_from, HasTokens, StandsIn}
use Rattle.smv_lexer.proofs.PieceLemmas.{text_some}

pub range_is : (whole before text after : List ℕ) (start : ℕ) → whole ≡ before ++ (text ++ after) → start ≡ length before → slice_range whole start (start + length text) ≡ text
range_is whole before text after start cut place =
    let long : start + length text - start ≡ length text = omega arith in
    ap (λ n. take n (drop start whole)) long ∙ ap (λ n. take (length text) (drop n whole)) place ∙ ap (λ t. take (length text) (drop (length before) t)) cut
    ∙ ap (take (length text)) (drop-append_seam before (text ++ after)) ∙ take-append_seam text after

rest_is : (whole before text after : List ℕ) (start : ℕ) → whole ≡ before ++ (text ++ after) → start ≡ length before → drop (start + length text) whole ≡ after
rest_is whole before text after start cut place =
    let long : start + length text ≡ length (before ++ text) = omega (arith, place, length-append before text) in
    ap (λ n. drop n whole) long ∙ ap (drop (length (before ++ text))) (cut ∙ sym (append_assoc before text after)) ∙ drop-append_seam (before ++ text) after

first_stands : (kind : TokenKind) (whole before text after : List ℕ) (start : ℕ) → whole ≡ before ++ (text ++ after) → start ≡ length before → IsTokenPiece kind text after → StandsIn whole (record { kind = kind; start = start; end = start + length text })
first_stands kind whole before text after start cut place piece = record {
  some = omega (arith, text_some kind text after piece.longest.token);
  within = omega (arith, place, ap length cut, length-append before (text ++ after), length-append text after);
  piece =
      subst (λ t. IsTokenPiece kind t (drop (start + length text) whole)) (sym (range_is whole before text after start cut place))
      (subst (IsTokenPiece kind text) (sym (rest_is whole before text after start cut place)) piece);
}

with_first : (kind : Option TokenKind) (whole before text after : List ℕ) (start : ℕ) (tokens : List Token) → whole ≡ before ++ (text ++ after) → start ≡ length before → IsPiece kind text after → All (StandsIn whole) tokens → All (StandsIn whole) (token_of start kind (length text) ++ tokens)
with_first None whole before text after start tokens cut place piece all = all
with_first (Some kind) whole before text after start tokens cut place piece all =
    All-cons (StandsIn whole) (record { kind = kind; start = start; end = start + length text }) tokens (first_stands kind whole before text after start cut place piece) all

all_stand : (pieces : List Piece) (whole before bytes : List ℕ) (start : ℕ) → whole ≡ before ++ bytes → start ≡ length before → Splits pieces bytes [] → All (StandsIn whole) (tokens_from start pieces)
all_stand [] whole before bytes start cut place splits = All-nil (StandsIn whole)
all_stand (piece ∷ pieces) whole before bytes start cut place (after, spelled, is, later) =
    let whole_is : whole ≡ before ++ (piece.text ++ after) = cut ∙ ap (λ t. before ++ t) spelled in
    with_first piece.kind whole before piece.text after start (tokens_from (start + length piece.text) pieces) whole_is place is
    (all_stand pieces whole (before ++ piece.text) after (start + length piece.text) (whole_is ∙ sym (append_assoc before piece.text after)) (omega (arith, place, length-append before piece.text)) later)

-- each token of a text stands in it
pub HasTokens-stand : (bytes : List ℕ) (tokens : List Token) → HasTokens bytes tokens → All (StandsIn bytes) tokens
HasTokens-stand bytes tokens has =
    subst (All (StandsIn bytes)) (sym has.2) (all_stand has.0 bytes [] bytes 0 (λ i. bytes) (omega arith) has.1)
