-- What is found at a place is the piece that stands there, and the only one.
use Rattle.std.proofs.Common.{◌≡◌, ℕ, suc, ◌+◌, ◌-◌, ◌^◌, ◌≤◌, ◌<◌, Bool, true, false, List, [], ◌∷◌, ◌++◌, length, take, drop, Option, Some, None, sym, ap, ◌∙◌, refl, subst, inl, inr, ⊎_elim, arith, add-one, length-append, length-take-le}
use Rattle.std.specs.Prelude.{◌⊎◌, ◌==◌, not, nat_eq, nat_le, codes, Result, Ok, Err}
use Rattle.std.specs.List.{starts_with}
use Rattle.std.specs.Char.{is_ascii_digit}
use Rattle.std.proofs.lemmas.List.{take-append-drop}
use Rattle.std.proofs.lemmas.Bool.{leb-true, leb-false, eqb-true}
use Rattle.std.proofs.Math.Seq.{take-append_seam}
use Rattle.smv_lexer.specs.declared.token.TokenKind.{TokenKind}
use Rattle.smv_lexer.specs.declared.token.TokenKind.TheVariants.{Word, Number}
use Rattle.smv_lexer.specs.declared.scan.FoundPiece.{FoundPiece}
use Rattle.smv_lexer.specs.declared.scan.TokenStop.{TokenStop}
use Rattle.smv_lexer.specs.declared.scan.TokenStop.TheVariants as stop
use Rattle.smv_lexer.specs.Bytes.{is_blank, is_word_start}
use Rattle.smv_lexer.specs.Runs.{Runs, run_len, takes_word, takes_digit, takes_line, number_from, block_len}
use Rattle.smv_lexer.specs.Tokens.{Sign, signs, IsToken, BeginsComment, EndsLine, IsLineComment, IsBlockComment, IsBlankByte, IsTokenPiece, IsPiece}
use Rattle.smv_lexer.specs.Faults.{IsBadByte, IsOpenComment, IsBigNumber}
use Rattle.smv_lexer.specs.Scan.{sign_at, found, number_found, sign_found, block_found, token_at, piece_at}
use Rattle.smv_lexer.proofs.ByteLemmas.{blank_cases, word_not_blank, digit_not_blank}
use Rattle.smv_lexer.proofs.RunLemmas.{Runs-run_len, run_len-le, run_len-runs, run_len-stops}
use Rattle.smv_lexer.proofs.SignLemmas.{chosen_by, starts_with-begins, sign_at-some, sign_no_number, sign_long, sign_starts, sign_some}
use Rattle.smv_lexer.proofs.BlockLemmas.{BlockAt, block_len-first, block_len-some, block_len-none}
use Rattle.smv_lexer.proofs.TokenLemmas.{word_longest, number_longest, sign_longest, no_token_at, one_longest, one_kind_longest, some_digits}

-- a piece of this kind and length stands here
pub record PieceHere (bytes : List ℕ) (here : FoundPiece) : Type 0 where
  pub some : 0 < here.len
  pub within : here.len ≤ length bytes
  pub piece : IsPiece here.kind (take here.len bytes) (drop here.len bytes)

ok_same : (kind : Option TokenKind) (len : ℕ) (here : FoundPiece) → found kind len ≡ Ok here → record { kind = kind; len = len } ≡ here
ok_same kind len here e = cc

no_dashes : (bytes : List ℕ) → starts_with nat_eq bytes (codes "--") ≡ false → starts_with nat_eq bytes (codes "/--") ≡ false → BeginsComment bytes → ⊥
no_dashes bytes no_line no_block (inl (rest, e)) = let clash : true ≡ false = ap (λ t. starts_with nat_eq t (codes "--")) (sym e) ∙ no_line in cc
no_dashes bytes no_line no_block (inr (rest, e)) = let clash : true ≡ false = ap (λ t. starts_with nat_eq t (codes "/--")) (sym e) ∙ no_block in cc

ends_line : (after : List ℕ) → takes_line after ≡ false → EndsLine after
ends_line [] stops = tt
ends_line (b ∷ bs) stops = eqb-true b 10 (not_false (b == 10) stops)
  where
    not_false : (t : Bool) → not t ≡ false → t ≡ true
    not_false true e = refl
    not_false false e = cc

-- a comment up to the end of the line
line_here : (rest : List ℕ) → PieceHere (45 ∷ 45 ∷ rest) (record { kind = None; len = run_len takes_line rest + 2 })
line_here rest =
    let len = run_len takes_line rest in
    let two : run_len takes_line rest + 2 ≡ suc (suc (run_len takes_line rest)) = omega arith in
    record {
      some = omega arith;
      within = omega (arith, run_len-le takes_line rest);
      piece = inl (record {
        inner = take (run_len takes_line rest) rest;
        spelled = ap (λ n. take n (45 ∷ 45 ∷ rest)) two;
        line = subst (λ n. Runs takes_line (take (run_len takes_line rest) rest) (drop n (45 ∷ 45 ∷ rest))) (sym two) (Runs-run_len takes_line rest);
        ends = ends_line _ (ap (λ n. takes_line (drop n (45 ∷ 45 ∷ rest))) two ∙ run_len-stops takes_line refl rest);
      });
    }

-- a comment up to its end
block_here : (rest : List ℕ) (len : ℕ) → BlockAt rest len → PieceHere (47 ∷ 45 ∷ 45 ∷ rest) (record { kind = None; len = len + 3 })
block_here rest len block =
    let text = block.inner ++ codes "--/" in
    let long : length (block.inner ++ codes "--/") ≡ len = omega (arith, block.long, length-append block.inner (codes "--/")) in
    let three : len + 3 ≡ suc (suc (suc (length (block.inner ++ codes "--/")))) = omega arith in
    let cut : take (len + 3) (47 ∷ 45 ∷ 45 ∷ rest) ≡ 47 ∷ 45 ∷ 45 ∷ (block.inner ++ codes "--/") =
    ap (λ n. take n (47 ∷ 45 ∷ 45 ∷ rest)) three ∙ ap (λ t. 47 ∷ 45 ∷ 45 ∷ t) (ap (take (length (block.inner ++ codes "--/"))) block.spelled ∙ take-append_seam (block.inner ++ codes "--/") block.after)
    in
    record {
      some = omega arith;
      within = omega (arith, ap length block.spelled, length-append (block.inner ++ codes "--/") block.after);
      piece = inr (inl (record { inner = block.inner; spelled = cut; first = block.first }));
    }

blank_here : (b : ℕ) (bs : List ℕ) → is_blank b ≡ true → PieceHere (b ∷ bs) (record { kind = None; len = 1 })
blank_here b bs blank = record { some = omega arith; within = omega arith; piece = inr (inr (b, blank, refl)) }

word_here : (b : ℕ) (bs : List ℕ) → (BeginsComment (b ∷ bs) → ⊥) → is_word_start b ≡ true → PieceHere (b ∷ bs) (record { kind = Some Word; len = run_len takes_word bs + 1 })
word_here b bs no_comment starts =
    let one = add-one (run_len takes_word bs) in
    subst (λ n. PieceHere (b ∷ bs) (record { kind = Some Word; len = n })) (sym one) (record {
      some = omega arith;
      within = omega (arith, run_len-le takes_word bs);
      piece = record {
        no_comment = λ begins. no_comment (subst BeginsComment (ap (λ t. b ∷ t) (take-append-drop (run_len takes_word bs) bs)) begins);
        longest = word_longest b bs starts;
        small = λ is_number. cc;
      };
    })

number_here : (b : ℕ) (bs : List ℕ) → (BeginsComment (b ∷ bs) → ⊥) → is_ascii_digit b ≡ true → number_from 0 (take (run_len takes_digit (b ∷ bs)) (b ∷ bs)) ≤ 2 ^ 63 - 1 → PieceHere (b ∷ bs) (record { kind = Some Number; len = run_len takes_digit (b ∷ bs) })
number_here b bs no_comment digit small = record {
  some = omega (arith, some_digits b bs digit);
  within = run_len-le takes_digit (b ∷ bs);
  piece = record {
    no_comment = λ begins. no_comment (subst BeginsComment (take-append-drop (run_len takes_digit (b ∷ bs)) (b ∷ bs)) begins);
    longest = number_longest b bs digit;
    small = λ is_number. small;
  };
}

sign_here : (b : ℕ) (bs : List ℕ) (sign : Sign) → (BeginsComment (b ∷ bs) → ⊥) → is_word_start b ≡ false → is_ascii_digit b ≡ false → sign_at signs (b ∷ bs) ≡ Some sign → PieceHere (b ∷ bs) (record { kind = Some sign.kind; len = length sign.text })
sign_here b bs sign no_comment no_word no_digit some =
    let hit = sign_at-some signs (b ∷ bs) sign some in
    let text : take (length sign.text) (b ∷ bs) ≡ sign.text = ap (take (length sign.text)) hit.1 ∙ take-append_seam sign.text (drop (length sign.text) (b ∷ bs)) in
    let piece : IsTokenPiece sign.kind sign.text (drop (length sign.text) (b ∷ bs)) = record {
      no_comment = λ begins. no_comment (subst BeginsComment (sym hit.1) begins);
      longest = sign_longest b bs sign no_word no_digit some;
      small = λ is_number. absurd (sign_no_number sign.kind sign.text hit.0 is_number);
    } in
    record {
      some = sign_long sign.kind sign.text hit.0;
      within = omega (arith, ap length hit.1, length-append sign.text (drop (length sign.text) (b ∷ bs)));
      piece = subst (λ t. IsTokenPiece sign.kind t (drop (length sign.text) (b ∷ bs))) (sym text) piece;
    }

sign_case : (b : ℕ) (bs : List ℕ) (here : FoundPiece) (sign : Option Sign) → (BeginsComment (b ∷ bs) → ⊥) → is_word_start b ≡ false → is_ascii_digit b ≡ false → sign_at signs (b ∷ bs) ≡ sign → sign_found sign ≡ Ok here → PieceHere (b ∷ bs) here
sign_case b bs here None no_comment no_word no_digit at e = let clash : sign_found None ≡ Ok here = e in cc
sign_case b bs here (Some sign) no_comment no_word no_digit at e =
    subst (PieceHere (b ∷ bs)) (ok_same (Some sign.kind) (length sign.text) here e) (sign_here b bs sign no_comment no_word no_digit at)

number_case : (b : ℕ) (bs : List ℕ) (here : FoundPiece) → (BeginsComment (b ∷ bs) → ⊥) → is_ascii_digit b ≡ true → number_found (b ∷ bs) (run_len takes_digit (b ∷ bs)) ≡ Ok here → PieceHere (b ∷ bs) here
number_case b bs here no_comment digit e =
    ⊎_elim
    (λ fits. subst (PieceHere (b ∷ bs)) (ok_same (Some Number) (run_len takes_digit (b ∷ bs)) here fits.1) (number_here b bs no_comment digit (leb-true _ _ fits.0)))
    (λ big. let clash : Err stop.NumberTooBig ≡ Ok here = big.1 in cc)
    (chosen_by (nat_le (number_from 0 (take (run_len takes_digit (b ∷ bs)) (b ∷ bs))) (2 ^ 63 - 1)) (found (Some Number) (run_len takes_digit (b ∷ bs))) (Err stop.NumberTooBig) (Ok here) e)

token_case : (b : ℕ) (bs : List ℕ) (here : FoundPiece) → (BeginsComment (b ∷ bs) → ⊥) → token_at (b ∷ bs) ≡ Ok here → PieceHere (b ∷ bs) here
token_case b bs here no_comment e =
    ⊎_elim
    (λ blank. subst (PieceHere (b ∷ bs)) (ok_same None 1 here blank.1) (blank_here b bs blank.0))
    (λ no_blank. ⊎_elim
    (λ word. subst (PieceHere (b ∷ bs)) (ok_same (Some Word) (run_len takes_word bs + 1) here word.1) (word_here b bs no_comment word.0))
    (λ no_word. ⊎_elim
    (λ number. number_case b bs here no_comment number.0 number.1)
    (λ no_digit. sign_case b bs here (sign_at signs (b ∷ bs)) no_comment no_word.0 no_digit.0 refl no_digit.1)
    (chosen_by (is_ascii_digit b) _ _ (Ok here) no_word.1))
    (chosen_by (is_word_start b) _ _ (Ok here) no_blank.1))
    (chosen_by (is_blank b) _ _ (Ok here) e)

tail_case : (bytes : List ℕ) (here : FoundPiece) → 0 < length bytes → (BeginsComment bytes → ⊥) → token_at bytes ≡ Ok here → PieceHere bytes here
tail_case [] here some no_comment e = absurd (omega arith)
tail_case (b ∷ bs) here some no_comment e = token_case b bs here no_comment e

block_case : (rest : List ℕ) (here : FoundPiece) (len : Option ℕ) → block_len rest ≡ len → block_found len ≡ Ok here → PieceHere (47 ∷ 45 ∷ 45 ∷ rest) here
block_case rest here None at e = let clash : block_found None ≡ Ok here = e in cc
block_case rest here (Some len) at e =
    subst (PieceHere (47 ∷ 45 ∷ 45 ∷ rest)) (ok_same None (len + 3) here e) (block_here rest len (block_len-some rest len at))

-- what is found is a piece
pub piece_found : (bytes : List ℕ) (here : FoundPiece) → 0 < length bytes → piece_at bytes ≡ Ok here → PieceHere bytes here
piece_found bytes here some e =
    ⊎_elim
    (λ line.
    let begins = starts_with-begins bytes (codes "--") line.0 in
    subst (λ t. PieceHere t here) (sym begins) (subst (PieceHere (45 ∷ 45 ∷ drop 2 bytes)) (ok_same None (run_len takes_line (drop 2 bytes) + 2) here line.1) (line_here (drop 2 bytes))))
    (λ no_line. ⊎_elim
    (λ block.
    let begins = starts_with-begins bytes (codes "/--") block.0 in
    subst (λ t. PieceHere t here) (sym begins) (block_case (drop 3 bytes) here (block_len (drop 3 bytes)) refl block.1))
    (λ no_block. tail_case bytes here some (no_dashes bytes no_line.0 no_block.0) no_block.1)
    (chosen_by (starts_with nat_eq bytes (codes "/--")) _ _ (Ok here) no_line.1))
    (chosen_by (starts_with nat_eq bytes (codes "--")) _ _ (Ok here) e)

-- what a stop says of the bytes
abbrev pub IsStop : TokenStop → List ℕ → Type 0
IsStop stop.BadByte bytes = IsBadByte bytes
IsStop stop.OpenComment bytes = IsOpenComment bytes
IsStop stop.NumberTooBig bytes = IsBigNumber bytes

abbrev pub stopped : TokenStop → Result FoundPiece TokenStop
stopped s = Err s

pub err_same : (s why : TokenStop) → stopped s ≡ stopped why → s ≡ why
err_same s why e = cc

bad_here : (b : ℕ) (bs : List ℕ) → (BeginsComment (b ∷ bs) → ⊥) → is_blank b ≡ false → is_word_start b ≡ false → is_ascii_digit b ≡ false → sign_at signs (b ∷ bs) ≡ None → IsBadByte (b ∷ bs)
bad_here b bs no_comment no_blank no_word no_digit none = record {
  some = omega arith;
  no_comment = no_comment;
  no_blank = λ c after e. let same : b ≡ c = cc in subst (λ x. is_blank x ≡ false) same no_blank;
  no_token = no_token_at b bs no_word no_digit none;
}

sign_stop : (b : ℕ) (bs : List ℕ) (why : TokenStop) (sign : Option Sign) → (BeginsComment (b ∷ bs) → ⊥) → is_blank b ≡ false → is_word_start b ≡ false → is_ascii_digit b ≡ false → sign_at signs (b ∷ bs) ≡ sign → sign_found sign ≡ Err why → IsStop why (b ∷ bs)
sign_stop b bs why None no_comment no_blank no_word no_digit at e =
    subst (λ s. IsStop s (b ∷ bs)) (err_same stop.BadByte why e) (bad_here b bs no_comment no_blank no_word no_digit at)
sign_stop b bs why (Some sign) no_comment no_blank no_word no_digit at e = let clash : found (Some sign.kind) (length sign.text) ≡ Err why = e in cc

number_stop : (b : ℕ) (bs : List ℕ) (why : TokenStop) → is_ascii_digit b ≡ true → number_found (b ∷ bs) (run_len takes_digit (b ∷ bs)) ≡ Err why → IsStop why (b ∷ bs)
number_stop b bs why digit e =
    ⊎_elim
    (λ fits. let clash : found (Some Number) (run_len takes_digit (b ∷ bs)) ≡ Err why = fits.1 in cc)
    (λ big. subst (λ s. IsStop s (b ∷ bs)) (err_same stop.NumberTooBig why big.1) (record {
      digits = take (run_len takes_digit (b ∷ bs)) (b ∷ bs);
      after = drop (run_len takes_digit (b ∷ bs)) (b ∷ bs);
      spelled = sym (take-append-drop (run_len takes_digit (b ∷ bs)) (b ∷ bs));
      number = number_longest b bs digit;
      big = leb-false _ _ big.0;
    }))
    (chosen_by (nat_le (number_from 0 (take (run_len takes_digit (b ∷ bs)) (b ∷ bs))) (2 ^ 63 - 1)) (found (Some Number) (run_len takes_digit (b ∷ bs))) (Err stop.NumberTooBig) (Err why) e)

token_stop : (b : ℕ) (bs : List ℕ) (why : TokenStop) → (BeginsComment (b ∷ bs) → ⊥) → token_at (b ∷ bs) ≡ Err why → IsStop why (b ∷ bs)
token_stop b bs why no_comment e =
    ⊎_elim
    (λ blank. let clash : found None 1 ≡ Err why = blank.1 in cc)
    (λ no_blank. ⊎_elim
    (λ word. let clash : found (Some Word) (run_len takes_word bs + 1) ≡ Err why = word.1 in cc)
    (λ no_word. ⊎_elim
    (λ number. number_stop b bs why number.0 number.1)
    (λ no_digit. sign_stop b bs why (sign_at signs (b ∷ bs)) no_comment no_blank.0 no_word.0 no_digit.0 refl no_digit.1)
    (chosen_by (is_ascii_digit b) _ _ (Err why) no_word.1))
    (chosen_by (is_word_start b) _ _ (Err why) no_blank.1))
    (chosen_by (is_blank b) _ _ (Err why) e)

tail_stop : (bytes : List ℕ) (why : TokenStop) → 0 < length bytes → (BeginsComment bytes → ⊥) → token_at bytes ≡ Err why → IsStop why bytes
tail_stop [] why some no_comment e = absurd (omega arith)
tail_stop (b ∷ bs) why some no_comment e = token_stop b bs why no_comment e

block_stop : (rest : List ℕ) (why : TokenStop) (len : Option ℕ) → block_len rest ≡ len → block_found len ≡ Err why → IsStop why (47 ∷ 45 ∷ 45 ∷ rest)
block_stop rest why None at e =
    subst (λ s. IsStop s (47 ∷ 45 ∷ 45 ∷ rest)) (err_same stop.OpenComment why e) (record { inner = rest; spelled = refl; open_ = λ front back spelled. block_len-none rest front back at spelled })
block_stop rest why (Some len) at e = let clash : found None (len + 3) ≡ Err why = e in cc

-- why nothing is found
pub piece_stops : (bytes : List ℕ) (why : TokenStop) → 0 < length bytes → piece_at bytes ≡ Err why → IsStop why bytes
piece_stops bytes why some e =
    ⊎_elim
    (λ line. let clash : found None (run_len takes_line (drop 2 bytes) + 2) ≡ Err why = line.1 in cc)
    (λ no_line. ⊎_elim
    (λ block.
    let begins = starts_with-begins bytes (codes "/--") block.0 in
    subst (IsStop why) (sym begins) (block_stop (drop 3 bytes) why (block_len (drop 3 bytes)) refl block.1))
    (λ no_block. tail_stop bytes why some (no_dashes bytes no_line.0 no_block.0) no_block.1)
    (chosen_by (starts_with nat_eq bytes (codes "/--")) _ _ (Err why) no_line.1))
    (chosen_by (starts_with nat_eq bytes (codes "--")) _ _ (Err why) e)

line_stops : (after : List ℕ) → EndsLine after → takes_line after ≡ false
line_stops [] ends = refl
line_stops (b ∷ bs) ends = rw ends refl

-- a comment of a line is found
line_piece : (text after : List ℕ) → IsLineComment text after → piece_at (text ++ after) ≡ found None (length text)
line_piece text after comment =
    let run : run_len takes_line (comment.inner ++ after) ≡ length comment.inner = run_len-runs takes_line comment.inner after comment.line (line_stops after comment.ends) in
    let len : run_len takes_line (comment.inner ++ after) + 2 ≡ length text = omega (arith, ap length comment.spelled) in
    ap (λ t. piece_at (t ++ after)) comment.spelled ∙ ap (found None) len

-- a comment up to its end is found
block_piece : (text after : List ℕ) → IsBlockComment text → piece_at (text ++ after) ≡ found None (length text)
block_piece text after comment =
    let len : length comment.inner + 3 + 3 ≡ length text = omega (arith, ap length comment.spelled, length-append comment.inner (codes "--/")) in
    ap (λ t. piece_at (t ++ after)) comment.spelled ∙ ap block_found (block_len-first comment.inner after comment.first) ∙ ap (found None) len

-- a blank byte is found
blank_piece : (b : ℕ) (after : List ℕ) → is_blank b ≡ true → piece_at (b ∷ after) ≡ found None 1
blank_piece b after blank =
    let at : (c : ℕ) → piece_at (c ∷ after) ≡ found None 1 → b ≡ c → piece_at (b ∷ after) ≡ found None 1 = λ c here same. ap (λ x. piece_at (x ∷ after)) same ∙ here in
    ⊎_elim (at 32 refl) (λ more. ⊎_elim (at 9 refl) (λ more. ⊎_elim (at 13 refl) (λ more. ⊎_elim (at 12 refl) (at 10 refl) more) more) more) (blank_cases b blank)

not_comment_and_token : (text after x u : List ℕ) → IsLineComment x u ⊎ (IsBlockComment x ⊎ IsBlankByte x) → x ++ u ≡ text ++ after → (kind : TokenKind) → IsTokenPiece kind text after → ⊥
not_comment_and_token text after x u (inl line) same kind token =
    token.no_comment (inl (line.inner ++ u, sym same ∙ ap (λ t. t ++ u) line.spelled))
not_comment_and_token text after x u (inr (inl block)) same kind token =
    token.no_comment (inr ((block.inner ++ codes "--/") ++ u, sym same ∙ ap (λ t. t ++ u) block.spelled))
not_comment_and_token text after x u (inr (inr (b, blank, spelled))) same kind token =
    blank_no_token b u text after kind blank (ap (λ t. t ++ u) (sym spelled) ∙ same) token.longest.token
  where
    blank_no_token : (b : ℕ) (u text after : List ℕ) (kind : TokenKind) → is_blank b ≡ true → b ∷ u ≡ text ++ after → IsToken kind text after → ⊥
    blank_no_token b u [] after kind blank e token =
        ⊎_elim (λ word. word.1) (λ other. ⊎_elim (λ number. number.1) (λ sign. sign_some kind sign) other) token
    blank_no_token b u (c ∷ cs) after kind blank e token =
        let same : c ≡ b = cc in
        ⊎_elim
        (λ word. let clash : true ≡ false = sym (ap is_blank same ∙ blank) ∙ word_not_blank c word.1.0 in cc)
        (λ other. ⊎_elim
        (λ number. let clash : true ≡ false = sym (ap is_blank same ∙ blank) ∙ digit_not_blank c number.1.0 in cc)
        (λ sign. let clash : true ≡ false = sym (ap is_blank same ∙ blank) ∙ (sign_starts kind c cs sign).no_blank in cc)
        other)
        token

pub text_some : (kind : TokenKind) (text after : List ℕ) → IsToken kind text after → 0 < length text
text_some kind [] after token =
    ⊎_elim (λ word. absurd word.1) (λ other. ⊎_elim (λ number. absurd number.1) (λ sign. absurd (sign_some kind sign)) other) token
text_some kind (b ∷ bs) after token = omega arith

found_token : (kind : TokenKind) (text after : List ℕ) (here : Option TokenKind) (len : ℕ) → IsTokenPiece kind text after → PieceHere (text ++ after) (record { kind = here; len = len }) → found here len ≡ found (Some kind) (length text)
found_token kind text after None len token piece =
    absurd (not_comment_and_token text after (take len (text ++ after)) (drop len (text ++ after)) piece.piece (take-append-drop len (text ++ after)) kind token)
found_token kind text after (Some other) len token piece =
    let whole = take-append-drop len (text ++ after) in
    let same_text = one_longest other kind _ _ _ _ piece.piece.longest token.longest whole in
    let same_kind = one_kind_longest other kind _ _ _ _ piece.piece.longest token.longest whole in
    let same_len : len ≡ length text = sym (length-take-le len (text ++ after) piece.within) ∙ ap length same_text in
    ap (λ k. found (Some k) len) same_kind ∙ ap (found (Some kind)) same_len

pub no_stop : (kind : TokenKind) (text after : List ℕ) (why : TokenStop) → IsTokenPiece kind text after → IsStop why (text ++ after) → ⊥
no_stop kind text after stop.BadByte token bad = bad.no_token kind text after refl token.longest.token
no_stop kind text after stop.OpenComment token open_comment = token.no_comment (inr (open_comment.inner, open_comment.spelled))
no_stop kind text after stop.NumberTooBig token big =
    let same_text = one_longest Number kind _ _ _ _ big.number token.longest (sym big.spelled) in
    let same_kind = one_kind_longest Number kind _ _ _ _ big.number token.longest (sym big.spelled) in
    omega (arith, token.small (sym same_kind), big.big, ap (number_from 0) same_text)

token_piece : (kind : TokenKind) (text after : List ℕ) (result : Result FoundPiece TokenStop) → IsTokenPiece kind text after → piece_at (text ++ after) ≡ result → result ≡ found (Some kind) (length text)
token_piece kind text after (Ok here) token at =
    let some : 0 < length (text ++ after) = omega (arith, text_some kind text after token.longest.token, length-append text after) in
    found_token kind text after here.kind here.len token (piece_found (text ++ after) here some at)
token_piece kind text after (Err why) token at =
    let some : 0 < length (text ++ after) = omega (arith, text_some kind text after token.longest.token, length-append text after) in
    absurd (no_stop kind text after why token (piece_stops (text ++ after) why some at))

-- a piece is found
pub piece_at-piece : (kind : Option TokenKind) (text after : List ℕ) → IsPiece kind text after → piece_at (text ++ after) ≡ found kind (length text)
piece_at-piece None text after (inl line) = line_piece text after line
piece_at-piece None text after (inr (inl block)) = block_piece text after block
piece_at-piece None text after (inr (inr (b, blank, spelled))) =
    ap (λ t. piece_at (t ++ after)) spelled ∙ blank_piece b after blank ∙ ap (λ t. found None (length t)) (sym spelled)
piece_at-piece (Some kind) text after token = token_piece kind text after (piece_at (text ++ after)) token refl
