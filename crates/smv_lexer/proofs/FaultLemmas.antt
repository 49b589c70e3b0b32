-- A text has one fault at most: where its pieces stop, and why.
use Rattle.std.proofs.Common.{◌≡◌, ℕ, ◌<◌, true, false, List, [], ◌∷◌, ◌++◌, length, take, drop, Option, Some, None, sym, ap, ◌∙◌, refl, subst, inl, inr, ⊎_elim, arith, append_assoc, length-append}
use Rattle.std.specs.Prelude.{◌⊎◌, codes, Result, Ok, Err}
use Rattle.std.specs.Char.{is_ascii_digit}
use Rattle.std.proofs.lemmas.List.{take-append-drop}
use Rattle.smv_lexer.specs.declared.token.TokenKind.{TokenKind}
use Rattle.smv_lexer.specs.declared.token.TokenKind.TheVariants.{Word, Number}
use Rattle.smv_lexer.specs.declared.token.LexFault.{LexFault}
use Rattle.smv_lexer.specs.declared.token.LexFault.TheVariants as fault
use Rattle.smv_lexer.specs.declared.scan.FoundPiece.{FoundPiece}
use Rattle.smv_lexer.specs.declared.scan.TokenStop.{TokenStop}
use Rattle.smv_lexer.specs.declared.scan.TokenStop.TheVariants as stop
use Rattle.smv_lexer.specs.Bytes.{is_blank}
use Rattle.smv_lexer.specs.Runs.{block_len}
use Rattle.smv_lexer.specs.Tokens.{Piece, Splits, IsLineComment, IsBlockComment, IsBlankByte, IsToken}
use Rattle.smv_lexer.specs.Faults.{StopsAt, IsBadByte, IsOpenComment, IsBigNumber, IsFaultOf, fault_at}
use Rattle.smv_lexer.specs.Scan.{found, block_found, piece_at}
use Rattle.smv_lexer.proofs.ByteLemmas.{digit_not_blank}
use Rattle.smv_lexer.proofs.SignLemmas.{sign_some, sign_no_number}
use Rattle.smv_lexer.proofs.BlockLemmas.{block_len-some}
use Rattle.smv_lexer.proofs.PieceLemmas.{PieceHere, IsStop, stopped, err_same, text_some, no_stop, piece_found, piece_stops, piece_at-piece}
use Rattle.smv_lexer.proofs.SplitLemmas.{one_piece}
use Rattle.smv_lexer.proofs.TokenLemmas.{head_same}

no_end : (inner : List ℕ) (len : Option ℕ) → block_len inner ≡ len → ((front back : List ℕ) → inner ≡ front ++ (codes "--/" ++ back) → ⊥) → block_len inner ≡ None
no_end inner None at never = at
no_end inner (Some n) at never =
    let block = block_len-some inner n at in
    absurd (never block.inner block.after (block.spelled ∙ append_assoc block.inner (codes "--/") block.after))

-- nothing is found at an open comment
open_refused : (bytes : List ℕ) → IsOpenComment bytes → piece_at bytes ≡ stopped stop.OpenComment
open_refused bytes comment =
    ap piece_at comment.spelled ∙ ap block_found (no_end comment.inner (block_len comment.inner) refl comment.open_)

bad_blank : (bytes text after : List ℕ) → bytes ≡ text ++ after → IsBadByte bytes → IsLineComment text after ⊎ (IsBlockComment text ⊎ IsBlankByte text) → ⊥
bad_blank bytes text after e bad (inl line) = bad.no_comment (inl (line.inner ++ after, e ∙ ap (λ t. t ++ after) line.spelled))
bad_blank bytes text after e bad (inr (inl block)) =
    bad.no_comment (inr ((block.inner ++ codes "--/") ++ after, e ∙ ap (λ t. t ++ after) block.spelled))
bad_blank bytes text after e bad (inr (inr (b, blank, spelled))) =
    let clash : true ≡ false = sym blank ∙ bad.no_blank b after (e ∙ ap (λ t. t ++ after) spelled) in
    cc

bad_piece : (bytes : List ℕ) (kind : Option TokenKind) (len : ℕ) → IsBadByte bytes → PieceHere bytes (record { kind = kind; len = len }) → ⊥
bad_piece bytes None len bad piece = bad_blank bytes (take len bytes) (drop len bytes) (sym (take-append-drop len bytes)) bad piece.piece
bad_piece bytes (Some kind) len bad piece =
    bad.no_token kind (take len bytes) (drop len bytes) (sym (take-append-drop len bytes)) piece.piece.longest.token

bad_stop : (bytes : List ℕ) (why : TokenStop) → IsBadByte bytes → IsStop why bytes → stopped why ≡ stopped stop.BadByte
bad_stop bytes stop.BadByte bad is = refl
bad_stop bytes stop.OpenComment bad is = absurd (bad.no_comment (inr (is.inner, is.spelled)))
bad_stop bytes stop.NumberTooBig bad is = absurd (bad.no_token Number is.digits is.after is.spelled is.number.token)

bad_result : (bytes : List ℕ) (result : Result FoundPiece TokenStop) → IsBadByte bytes → piece_at bytes ≡ result → result ≡ stopped stop.BadByte
bad_result bytes (Ok here) bad at = absurd (bad_piece bytes here.kind here.len bad (piece_found bytes here bad.some at))
bad_result bytes (Err why) bad at = bad_stop bytes why bad (piece_stops bytes why bad.some at)

number_no_word : Number ≡ Word → ⊥
number_no_word e = cc

-- the first byte of a number is a digit
digit_first : (digits after : List ℕ) → IsToken Number digits after → (b : ℕ) × (bs : List ℕ) × (digits ≡ b ∷ bs) × (is_ascii_digit b ≡ true)
digit_first [] after token =
    absurd (⊎_elim (λ word. word.1) (λ other. ⊎_elim (λ number. number.1) (λ sign. sign_some Number sign) other) token)
digit_first (b ∷ bs) after token = (
  b,
  bs,
  refl,
  ⊎_elim
      (λ word. absurd (number_no_word word.0))
      (λ other. ⊎_elim (λ number. number.1.0) (λ sign. absurd (sign_no_number Number (b ∷ bs) sign refl)) other)
      token,
)

digit_blank : (b : ℕ) (bs text after : List ℕ) → is_ascii_digit b ≡ true → b ∷ bs ≡ text ++ after → IsLineComment text after ⊎ (IsBlockComment text ⊎ IsBlankByte text) → ⊥
digit_blank b bs text after digit e (inl line) =
    let same : b ≡ 45 = head_same b 45 bs (45 ∷ (line.inner ++ after)) (e ∙ ap (λ t. t ++ after) line.spelled) in
    let clash : true ≡ false = sym digit ∙ ap is_ascii_digit same in
    cc
digit_blank b bs text after digit e (inr (inl block)) =
    let same : b ≡ 47 = head_same b 47 bs (45 ∷ 45 ∷ ((block.inner ++ codes "--/") ++ after)) (e ∙ ap (λ t. t ++ after) block.spelled) in
    let clash : true ≡ false = sym digit ∙ ap is_ascii_digit same in
    cc
digit_blank b bs text after digit e (inr (inr (c, blank, spelled))) =
    let same : b ≡ c = head_same b c bs after (e ∙ ap (λ t. t ++ after) spelled) in
    let clash : true ≡ false = sym (ap is_blank same ∙ blank) ∙ digit_not_blank b digit in
    cc

big_begins : (bytes : List ℕ) → IsBigNumber bytes → (b : ℕ) × (bs : List ℕ) × (bytes ≡ b ∷ bs) × (is_ascii_digit b ≡ true)
big_begins bytes big =
    let first = digit_first big.digits big.after big.number.token in
    (first.0, first.1 ++ big.after, big.spelled ∙ ap (λ t. t ++ big.after) first.2, first.3)

big_piece : (bytes : List ℕ) (kind : Option TokenKind) (len : ℕ) → IsBigNumber bytes → PieceHere bytes (record { kind = kind; len = len }) → ⊥
big_piece bytes None len big piece =
    let first = big_begins bytes big in
    digit_blank first.0 first.1 (take len bytes) (drop len bytes) first.3 (sym first.2 ∙ sym (take-append-drop len bytes)) piece.piece
big_piece bytes (Some kind) len big piece =
    no_stop kind (take len bytes) (drop len bytes) stop.NumberTooBig piece.piece (subst IsBigNumber (sym (take-append-drop len bytes)) big)

big_stop : (bytes : List ℕ) (why : TokenStop) → IsBigNumber bytes → IsStop why bytes → stopped why ≡ stopped stop.NumberTooBig
big_stop bytes stop.BadByte big is = absurd (is.no_token Number big.digits big.after big.spelled big.number.token)
big_stop bytes stop.OpenComment big is =
    let first = big_begins bytes big in
    let same : first.0 ≡ 47 = head_same first.0 47 first.1 (45 ∷ 45 ∷ is.inner) (sym first.2 ∙ is.spelled) in
    let clash : true ≡ false = sym first.3 ∙ ap is_ascii_digit same in
    cc
big_stop bytes stop.NumberTooBig big is = refl

big_result : (bytes : List ℕ) (result : Result FoundPiece TokenStop) → 0 < length bytes → IsBigNumber bytes → piece_at bytes ≡ result → result ≡ stopped stop.NumberTooBig
big_result bytes (Ok here) some big at = absurd (big_piece bytes here.kind here.len big (piece_found bytes here some at))
big_result bytes (Err why) some big at = big_stop bytes why big (piece_stops bytes why some at)

big_some : (bytes : List ℕ) → IsBigNumber bytes → 0 < length bytes
big_some bytes big =
    omega (arith, ap length big.spelled, length-append big.digits big.after, text_some Number big.digits big.after big.number.token)

-- where a stop stands, it is what is found
stop_refused : (bytes : List ℕ) (why : TokenStop) → IsStop why bytes → piece_at bytes ≡ stopped why
stop_refused bytes stop.BadByte is = bad_result bytes (piece_at bytes) is refl
stop_refused bytes stop.OpenComment is = open_refused bytes is
stop_refused bytes stop.NumberTooBig is = big_result bytes (piece_at bytes) (big_some bytes is) is refl

no_piece_at_stop : (bytes text after : List ℕ) (kind : Option TokenKind) (why : TokenStop) → bytes ≡ text ++ after → piece_at bytes ≡ stopped why → piece_at (text ++ after) ≡ found kind (length text) → ⊥
no_piece_at_stop bytes text after kind why e stops here =
    let clash : stopped why ≡ found kind (length text) = sym stops ∙ ap piece_at e ∙ here in
    cc

-- pieces stop at one place, and for one reason
one_stop : (pieces others : List Piece) (bytes rest end : List ℕ) (why what : TokenStop) → Splits pieces bytes rest → Splits others bytes end → IsStop why rest → IsStop what end → (rest ≡ end) × (why ≡ what)
one_stop [] [] bytes rest end why what first second is other_is =
    let same : rest ≡ end = sym first ∙ second in
    (same, err_same why what (sym (stop_refused rest why is) ∙ ap piece_at same ∙ stop_refused end what other_is))
one_stop [] (other ∷ others) bytes rest end why what first (behind, cut, piece, further) is other_is =
    absurd (no_piece_at_stop rest other.text behind other.kind why (sym first ∙ cut) (stop_refused rest why is) (piece_at-piece other.kind other.text behind piece))
one_stop (piece ∷ pieces) [] bytes rest end why what (after, spelled, piece_is, later) second is other_is =
    absurd (no_piece_at_stop end piece.text after piece.kind what (sym second ∙ spelled) (stop_refused end what other_is) (piece_at-piece piece.kind piece.text after piece_is))
one_stop (piece ∷ pieces) (other ∷ others) bytes rest end why what (after, spelled, piece_is, later) (behind, cut, other_piece, further) is other_is =
    let same = one_piece piece.kind other.kind piece.text other.text after behind piece_is other_piece (sym spelled ∙ cut) in
    one_stop pieces others behind rest end why what (subst (λ t. Splits pieces t rest) same.2 later) further is other_is

-- a fault as a stop at a place
record StopOf (bytes : List ℕ) (is : LexFault) : Type 0 where
  why : TokenStop
  at : ℕ
  same : is ≡ fault_at why at
  stops : StopsAt bytes at (IsStop why)

stop_of : (bytes : List ℕ) (is : LexFault) → IsFaultOf bytes is → StopOf bytes is
stop_of bytes (fault.BadByte at) stops = record { why = stop.BadByte; at = at; same = refl; stops = stops }
stop_of bytes (fault.OpenComment at) stops = record { why = stop.OpenComment; at = at; same = refl; stops = stops }
stop_of bytes (fault.NumberTooBig at) stops = record { why = stop.NumberTooBig; at = at; same = refl; stops = stops }
stop_of bytes fault.OutOfMemory stops = absurd stops

-- a text has one fault at most
pub one_fault : (bytes : List ℕ) (is other : LexFault) → IsFaultOf bytes is → IsFaultOf bytes other → other ≡ is
one_fault bytes is other stops other_stops =
    let first = stop_of bytes is stops in
    let second = stop_of bytes other other_stops in
    let same = one_stop first.stops.0 second.stops.0 bytes first.stops.1 second.stops.1 first.why second.why first.stops.2 second.stops.2 first.stops.4 second.stops.4 in
    let place : second.at ≡ first.at = omega (arith, first.stops.3, second.stops.3, ap length same.0) in
    second.same ∙ ap (λ why. fault_at why second.at) (sym same.1) ∙ ap (fault_at first.why) place ∙ sym first.same
