-- A text has one split at most, and none where the pieces stop.
use Rattle.std.proofs.Common.{◌≡◌, ℕ, ◌+◌, ◌≤◌, ◌<◌, List, [], ◌∷◌, ◌++◌, length, take, drop, Option, sym, ap, ◌∙◌, refl, subst, arith, length-append, length-take-le, append_assoc}
use Rattle.std.specs.Prelude.{Ok, Err}
use Rattle.std.proofs.lemmas.List.{take-append-drop, append-nil}
use Rattle.std.proofs.Math.Seq.{drop-append_seam}
use Rattle.smv_lexer.specs.declared.token.TokenKind.{TokenKind}
use Rattle.smv_lexer.specs.declared.token.Token.{Token}
use Rattle.smv_lexer.specs.declared.scan.FoundPiece.{FoundPiece}
use Rattle.smv_lexer.specs.declared.scan.TokenStop.{TokenStop}
use Rattle.smv_lexer.specs.declared.scan.TokenStop.TheVariants as stop
use Rattle.smv_lexer.specs.Tokens.{Piece, IsPiece, Splits, token_of, tokens_from, HasTokens}
use Rattle.smv_lexer.specs.Faults.{HasNoSplit, IsFaultOf, fault_at}
use Rattle.smv_lexer.specs.Scan.{found, piece_at}
use Rattle.smv_lexer.proofs.SignLemmas.{same_front}
use Rattle.smv_lexer.proofs.PieceLemmas.{piece_at-piece, piece_found, piece_stops}

-- how long the pieces are together
abbrev pub size : List Piece → ℕ
size [] = 0
size (piece ∷ pieces) = length piece.text + size pieces

pub Splits-size : (pieces : List Piece) (bytes rest : List ℕ) → Splits pieces bytes rest → size pieces + length rest ≡ length bytes
Splits-size [] bytes rest e = omega (arith, ap length e)
Splits-size (piece ∷ pieces) bytes rest (after, spelled, is, later) =
    omega (arith, ap length spelled, length-append piece.text after, Splits-size pieces after rest later)

-- one more piece at the end
pub Splits-more : (pieces : List Piece) (bytes rest after : List ℕ) (piece : Piece) → Splits pieces bytes rest → rest ≡ piece.text ++ after → IsPiece piece.kind piece.text after → Splits (pieces ++ piece ∷ []) bytes after
Splits-more [] bytes rest after piece e spelled is = (after, e ∙ spelled, is, refl)
Splits-more (first ∷ pieces) bytes rest after piece (behind, cut, first_is, later) spelled is =
    (behind, cut, first_is, Splits-more pieces behind rest after piece later spelled is)

pub tokens_from-more : (start : ℕ) (pieces : List Piece) (piece : Piece) → tokens_from start (pieces ++ piece ∷ []) ≡ tokens_from start pieces ++ token_of (start + size pieces) piece.kind (length piece.text)
tokens_from-more start [] piece =
    append-nil (token_of start piece.kind (length piece.text)) ∙ ap (λ n. token_of n piece.kind (length piece.text)) (omega arith)
tokens_from-more start (first ∷ pieces) piece =
    let place : start + length first.text + size pieces ≡ start + (length first.text + size pieces) = omega arith in
    ap (λ ts. token_of start first.kind (length first.text) ++ ts) (tokens_from-more (start + length first.text) pieces piece)
    ∙ sym (append_assoc (token_of start first.kind (length first.text)) (tokens_from (start + length first.text) pieces) (token_of (start + length first.text + size pieces) piece.kind (length piece.text)))
    ∙ ap (λ n. (token_of start first.kind (length first.text) ++ tokens_from (start + length first.text) pieces) ++ token_of n piece.kind (length piece.text)) place

abbrev here_as : Option TokenKind → ℕ → FoundPiece
here_as kind len = record { kind = kind; len = len }

found_same : (a b : Option TokenKind) (m n : ℕ) → found a m ≡ found b n → (a ≡ b) × (m ≡ n)
found_same a b m n e =
    let same : here_as a m ≡ here_as b n = cc in
    (ap (λ here. here.kind) same, ap (λ here. here.len) same)

-- two pieces at one place are one
pub one_piece : (a b : Option TokenKind) (x y u v : List ℕ) → IsPiece a x u → IsPiece b y v → x ++ u ≡ y ++ v → (a ≡ b) × (x ≡ y) × (u ≡ v)
one_piece a b x y u v first second same =
    let both = found_same a b (length x) (length y) (sym (piece_at-piece a x u first) ∙ ap piece_at same ∙ piece_at-piece b y v second) in
    let text = same_front x y u v same both.1 in
    (both.0, text, sym (drop-append_seam x u) ∙ ap (drop (length x)) same ∙ ap (λ n. drop n (y ++ v)) both.1 ∙ drop-append_seam y v)

no_piece_of_nothing : (kind : Option TokenKind) (text after : List ℕ) → IsPiece kind text after → [] ≡ text ++ after → ⊥
no_piece_of_nothing kind text after is e =
    let found_here = piece_at-piece kind text after is in
    let nothing : piece_at [] ≡ found kind (length text) = ap piece_at e ∙ found_here in
    cc

-- a text has one split at most
pub one_split : (pieces others : List Piece) (bytes : List ℕ) → Splits pieces bytes [] → Splits others bytes [] → pieces ≡ others
one_split [] [] bytes first second = refl
one_split [] (other ∷ others) bytes first (after, spelled, is, later) = absurd (no_piece_of_nothing other.kind other.text after is (sym first ∙ spelled))
one_split (piece ∷ pieces) [] bytes (after, spelled, is, later) second = absurd (no_piece_of_nothing piece.kind piece.text after is (sym second ∙ spelled))
one_split (piece ∷ pieces) (other ∷ others) bytes (after, spelled, is, later) (behind, cut, other_is, further) =
    let same = one_piece piece.kind other.kind piece.text other.text after behind is other_is (sym spelled ∙ cut) in
    let first : piece ≡ other = λ i. record { kind = same.0 i; text = same.1 i } in
    let next = one_split pieces others behind (subst (λ t. Splits pieces t []) same.2 later) further in
    λ i. first i ∷ next i

-- where no piece is found, no split goes on
pub no_split : (pieces others : List Piece) (bytes rest : List ℕ) (why : TokenStop) → Splits pieces bytes rest → 0 < length rest → piece_at rest ≡ Err why → Splits others bytes [] → ⊥
no_split [] [] bytes rest why e some stops done = omega (arith, ap length e, ap length done)
no_split [] (other ∷ others) bytes rest why e some stops (behind, cut, is, later) =
    let found_here : piece_at rest ≡ found other.kind (length other.text) = ap piece_at (sym e ∙ cut) ∙ piece_at-piece other.kind other.text behind is in
    let clash : Err why ≡ found other.kind (length other.text) = sym stops ∙ found_here in
    cc
no_split (piece ∷ pieces) [] bytes rest why (after, spelled, is, later) some stops done = no_piece_of_nothing piece.kind piece.text after is (sym done ∙ spelled)
no_split (piece ∷ pieces) (other ∷ others) bytes rest why (after, spelled, is, later) some stops (behind, cut, other_is, further) =
    let same = one_piece piece.kind other.kind piece.text other.text after behind is other_is (sym spelled ∙ cut) in
    no_split pieces others behind rest why (subst (λ t. Splits pieces t rest) same.2 later) some stops further

-- tokens of two splits are the same
pub one_answer : (bytes : List ℕ) (tokens others : List Token) → HasTokens bytes tokens → HasTokens bytes others → others ≡ tokens
one_answer bytes tokens others (pieces, split, are) (more, other_split, other_are) =
    other_are ∙ ap (tokens_from 0) (one_split more pieces bytes other_split split) ∙ sym are

-- the loop's invariant: pieces up to the rest, and their tokens
pub record IsSplitTo (bytes rest : List ℕ) (tokens : List Token) : Type 0 where
  pub pieces : List Piece
  pub splits : Splits pieces bytes rest
  pub same : tokens ≡ tokens_from 0 pieces

-- the piece that was found makes the split longer
pub IsSplitTo-more : (bytes rest : List ℕ) (tokens more : List Token) (start : ℕ) (here : FoundPiece) → IsSplitTo bytes rest tokens → 0 < length rest → start + length rest ≡ length bytes → piece_at rest ≡ Ok here → more ≡ tokens ++ token_of start here.kind here.len → IsSplitTo bytes (drop here.len rest) more
IsSplitTo-more bytes rest tokens more start here split some place at pushed =
    let found_here = piece_found rest here some at in
    let piece : Piece = record { kind = here.kind; text = take here.len rest } in
    let long : length (take here.len rest) ≡ here.len = length-take-le here.len rest found_here.within in
    let start_is : start ≡ 0 + size split.pieces = omega (arith, Splits-size split.pieces bytes rest split.splits) in
    record {
      pieces = split.pieces ++ record { kind = here.kind; text = take here.len rest } ∷ [];
      splits = Splits-more split.pieces bytes rest (drop here.len rest) (record { kind = here.kind; text = take here.len rest }) split.splits (sym (take-append-drop here.len rest)) found_here.piece;
      same = pushed ∙ ap (λ ts. ts ++ token_of start here.kind here.len) split.same
          ∙ ap (λ n. tokens_from 0 split.pieces ++ token_of n here.kind here.len) start_is
          ∙ ap (λ n. tokens_from 0 split.pieces ++ token_of (0 + size split.pieces) here.kind n) (sym long)
          ∙ sym (tokens_from-more 0 split.pieces (record { kind = here.kind; text = take here.len rest }));
    }

pub found_within : (rest : List ℕ) (here : FoundPiece) → 0 < length rest → piece_at rest ≡ Ok here → (0 < here.len) × (here.len ≤ length rest)
found_within rest here some at = let found_here = piece_found rest here some at in (found_here.some, found_here.within)

-- the fault at a stop
pub fault_of_stop : (bytes rest : List ℕ) (tokens : List Token) (start : ℕ) (why : TokenStop) → IsSplitTo bytes rest tokens → 0 < length rest → start + length rest ≡ length bytes → piece_at rest ≡ Err why → IsFaultOf bytes (fault_at why start)
fault_of_stop bytes rest tokens start stop.BadByte split some place stops = (split.pieces, rest, split.splits, place, piece_stops rest stop.BadByte some stops)
fault_of_stop bytes rest tokens start stop.OpenComment split some place stops = (split.pieces, rest, split.splits, place, piece_stops rest stop.OpenComment some stops)
fault_of_stop bytes rest tokens start stop.NumberTooBig split some place stops = (split.pieces, rest, split.splits, place, piece_stops rest stop.NumberTooBig some stops)

pub no_split_at_stop : (bytes rest : List ℕ) (tokens : List Token) (why : TokenStop) → IsSplitTo bytes rest tokens → 0 < length rest → piece_at rest ≡ Err why → HasNoSplit bytes
no_split_at_stop bytes rest tokens why split some stops others done = no_split split.pieces others bytes rest why split.splits some stops done

-- at the end the tokens are those of the split
pub HasTokens-all : (bytes rest : List ℕ) (tokens : List Token) → IsSplitTo bytes rest tokens → rest ≡ [] → HasTokens bytes tokens
HasTokens-all bytes rest tokens split no_rest = (split.pieces, subst (Splits split.pieces bytes) no_rest split.splits, split.same)
