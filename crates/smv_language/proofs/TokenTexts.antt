-- Texts of one token.
use Rattle.std.proofs.Common.{◌≡◌, ℕ, ◌+◌, ◌-◌, ◌*◌, ◌/◌, ◌%◌, ◌^◌, ◌<◌, ◌≤◌, true, false, List, [], ◌∷◌, ◌++◌, length, take, Some, None, sym, ap, ◌∙◌, refl, subst, arith, length-append}
use Rattle.std.specs.Prelude.{nat_eq, nat_le, codes, not, ◌&&◌, ◌==◌}
use Rattle.std.specs.Char.{is_ascii_digit}
use Rattle.std.specs.Fmt.{decimal}
use Rattle.std.proofs.lemmas.Bool.Decides.{nat_tests}
use Rattle.std.proofs.lemmas.Bool.{le-leb}
use Rattle.std.proofs.lemmas.Fmt.{decimal_by_steps}
use Rattle.std.proofs.Math.Seq.{take-append_seam}
use Rattle.smv_lexer.specs.declared.token.TokenKind.TheVariants as k
use Rattle.smv_lexer.specs.Bytes.{is_word_start, is_word_byte}
use Rattle.smv_lexer.specs.Runs.{Runs, run_len, takes_word, takes_digit, ends_word, number_from}
use Rattle.smv_lexer.specs.Tokens.{IsWord, number_of}
use Rattle.smv_lexer.specs.Scan.{found, number_found, token_at, piece_at}
use Rattle.smv_lexer.proofs.ByteLemmas.{word_not_blank, digit_not_blank, digit_not_word}
use Rattle.smv_lexer.proofs.RunLemmas.{run_len-runs, Runs-digits}
use Rattle.smv_language.specs.Lexemes.{word, num, sign}
use Rattle.smv_language.specs.PrintedTokens.{IsSmall}
use Rattle.smv_language.proofs.Pieces.{Reads, piece_reads, as_lexemes}

-- what may follow a word or a number
pub record Ends (rest : List ℕ) : Type 0 where
  pub no_word : takes_word rest ≡ false
  pub no_mark : ends_word rest ≡ false
  pub no_digit : takes_digit rest ≡ false

pub blank : (rest : List ℕ) → Reads (32 ∷ []) rest []
blank rest = piece_reads None (32 ∷ []) rest (omega arith) refl

pub line_feed : (rest : List ℕ) → Reads (10 ∷ []) rest []
line_feed rest = piece_reads None (10 ∷ []) rest (omega arith) refl

pub is_open : (rest : List ℕ) → Reads (codes "(") rest (sign k.Open ∷ [])
is_open rest = piece_reads (Some k.Open) (codes "(") rest (omega arith) refl

pub is_close : (rest : List ℕ) → Reads (codes ")") rest (sign k.Close ∷ [])
is_close rest = piece_reads (Some k.Close) (codes ")") rest (omega arith) refl

pub is_open_brace : (rest : List ℕ) → Reads (codes "{") rest (sign k.OpenBrace ∷ [])
is_open_brace rest = piece_reads (Some k.OpenBrace) (codes "{") rest (omega arith) refl

pub is_close_brace : (rest : List ℕ) → Reads (codes "}") rest (sign k.CloseBrace ∷ [])
is_close_brace rest = piece_reads (Some k.CloseBrace) (codes "}") rest (omega arith) refl

pub is_comma : (rest : List ℕ) → Reads (codes ",") rest (sign k.Comma ∷ [])
is_comma rest = piece_reads (Some k.Comma) (codes ",") rest (omega arith) refl

pub is_semicolon : (rest : List ℕ) → Reads (codes ";") rest (sign k.Semicolon ∷ [])
is_semicolon rest = piece_reads (Some k.Semicolon) (codes ";") rest (omega arith) refl

pub is_dots : (rest : List ℕ) → Reads (codes "..") rest (sign k.Dots ∷ [])
is_dots rest = piece_reads (Some k.Dots) (codes "..") rest (omega arith) refl

-- a sign before a space
pub is_colon : (rest : List ℕ) → Reads (codes ":") (32 ∷ rest) (sign k.Colon ∷ [])
is_colon rest = piece_reads (Some k.Colon) (codes ":") (32 ∷ rest) (omega arith) refl

pub is_question : (rest : List ℕ) → Reads (codes "?") rest (sign k.Question ∷ [])
is_question rest = piece_reads (Some k.Question) (codes "?") rest (omega arith) refl

-- the first byte passes
abbrev pub Begins : (ℕ → Type 0) → List ℕ → Type 0
Begins P [] = ⊥
Begins P (c ∷ cs) = P c

abbrev pub NoEqual : ℕ → Type 0
NoEqual c = nat_eq 61 c ≡ false

abbrev pub NoDash : ℕ → Type 0
NoDash c = (nat_eq 45 c ≡ false) × (nat_eq 62 c ≡ false)

abbrev pub NoDot : ℕ → Type 0
NoDot c = nat_eq 46 c ≡ false

pub is_bang : (rest : List ℕ) → Begins NoEqual rest → Reads (codes "!") rest (sign k.Bang ∷ [])
is_bang [] h = absurd h
is_bang (c ∷ cs) h = piece_reads (Some k.Bang) (codes "!") (c ∷ cs) (omega arith) (rw h refl)

pub is_minus : (rest : List ℕ) → Begins NoDash rest → Reads (codes "-") rest (sign k.Minus ∷ [])
is_minus [] h = absurd h
is_minus (c ∷ cs) h = piece_reads (Some k.Minus) (codes "-") (c ∷ cs) (omega arith) (rw (h.0, h.1) refl)

pub is_dot : (rest : List ℕ) → Begins NoDot rest → Reads (codes ".") rest (sign k.Dot ∷ [])
is_dot [] h = absurd h
is_dot (c ∷ cs) h = piece_reads (Some k.Dot) (codes ".") (c ∷ cs) (omega arith) (rw h refl)

-- the first byte of a word or a number begins nothing else
word_apart : (b : ℕ) → is_word_start b ≡ true → (nat_eq 45 b ≡ false) × (nat_eq 47 b ≡ false) × (nat_eq 61 b ≡ false) × (nat_eq 62 b ≡ false) × (nat_eq 46 b ≡ false)
word_apart b h = (grind (arith, nat_tests), grind (arith, nat_tests), grind (arith, nat_tests), grind (arith, nat_tests), grind (arith, nat_tests))

digit_apart : (b : ℕ) → is_ascii_digit b ≡ true → (nat_eq 45 b ≡ false) × (nat_eq 47 b ≡ false) × (nat_eq 61 b ≡ false) × (nat_eq 62 b ≡ false) × (nat_eq 46 b ≡ false)
digit_apart b h = (grind (arith, nat_tests), grind (arith, nat_tests), grind (arith, nat_tests), grind (arith, nat_tests), grind (arith, nat_tests))

no_comment_at : (b : ℕ) (bs : List ℕ) → nat_eq 45 b ≡ false → nat_eq 47 b ≡ false → piece_at (b ∷ bs) ≡ token_at (b ∷ bs)
no_comment_at b bs no_dash no_slash = rw (no_dash, no_slash) refl

-- what ends a word ends it also at the end of a text
ends_same : (bs rest : List ℕ) → ends_word rest ≡ false → ends_word (bs ++ []) ≡ ends_word (bs ++ rest)
ends_same [] rest h = sym h
ends_same (b ∷ bs) rest h = refl

word_runs : (bs rest : List ℕ) → ends_word rest ≡ false → Runs takes_word bs [] → Runs takes_word bs rest
word_runs [] rest h runs = tt
word_runs (b ∷ bs) rest h runs =
    (subst (λ t. (is_word_byte b && not ((b == 45) && t)) ≡ true) (ends_same bs rest h) runs.0, word_runs bs rest h runs.1)

pub is_word : (x rest : List ℕ) → IsWord x [] → Ends rest → Reads x rest (word x ∷ [])
is_word [] rest h ends = absurd h
is_word (b ∷ bs) rest h ends =
    let apart = word_apart b h.0 in
    let long : run_len takes_word (bs ++ rest) ≡ length bs = run_len-runs takes_word bs rest (word_runs bs rest ends.no_mark h.1) ends.no_word in
    let here : token_at (b ∷ (bs ++ rest)) ≡ found (Some k.Word) (run_len takes_word (bs ++ rest) + 1) = rw (word_not_blank b h.0, h.0) refl in
    let size : run_len takes_word (bs ++ rest) + 1 ≡ length (b ∷ bs) = omega (arith, long) in
    piece_reads (Some k.Word) (b ∷ bs) rest (omega arith) (no_comment_at b (bs ++ rest) apart.0 apart.1 ∙ here ∙ ap (found (Some k.Word)) size)

pub word_begins : (x rest : List ℕ) → IsWord x [] → Begins NoEqual (x ++ rest) × Begins NoDash (x ++ rest) × Begins NoDot (x ++ rest)
word_begins [] rest h = absurd h
word_begins (b ∷ bs) rest h = let apart = word_apart b h.0 in (apart.2, (apart.0, apart.3), apart.4)

-- digits of a number
pub record AreDigits (n : ℕ) (ds : List ℕ) : Type 0 where
  pub some : 0 < length ds
  pub runs : Runs takes_digit ds []
  pub value : number_of ds ≡ n

digit_of : (n : ℕ) → n < 10 → is_ascii_digit (48 + n) ≡ true
digit_of n h = grind (arith, nat_tests)

runs_more : (ds : List ℕ) (d : ℕ) → Runs takes_digit ds [] → is_ascii_digit d ≡ true → Runs takes_digit (ds ++ d ∷ []) []
runs_more [] d runs h = (h, tt)
runs_more (c ∷ ds) d runs h = (runs.0, runs_more ds d runs.1 h)

number_more : (value : ℕ) (ds : List ℕ) (d : ℕ) → number_from value (ds ++ d ∷ []) ≡ number_from value ds * 10 + (d - 48)
number_more value [] d = refl
number_more value (c ∷ ds) d = number_more (value * 10 + (c - 48)) ds d

one_digit : (n : ℕ) → n < 10 → AreDigits n ((48 + n) ∷ [])
one_digit n h = record { some = omega arith; runs = (digit_of n h, tt); value = omega arith }

more_digits : (n : ℕ) (ds : List ℕ) → 10 ≤ n → AreDigits (n / 10) ds → AreDigits n (ds ++ ((48 + n % 10) ∷ []))
more_digits n ds h before =
    let small : n % 10 < 10 = omega arith in
    record {
      some = omega (arith, length-append ds ((48 + n % 10) ∷ []));
      runs = runs_more ds (48 + n % 10) before.runs (digit_of (n % 10) small);
      value = omega (arith, number_more 0 ds (48 + n % 10), before.value);
    }

pub decimal_digits : (n : ℕ) → n < 2 ^ 64 → AreDigits n (decimal n)
decimal_digits n h = decimal_by_steps AreDigits one_digit more_digits n h

pub digits_read : (n : ℕ) (ds rest : List ℕ) → IsSmall n → AreDigits n ds → Ends rest → Reads ds rest (num n ds ∷ [])
digits_read n [] rest small digits ends = absurd (omega (arith, digits.some))
digits_read n (b ∷ bs) rest small digits ends =
    let digit : is_ascii_digit b ≡ true = digits.runs.0 in
    let apart = digit_apart b digit in
    let runs : Runs takes_digit (b ∷ bs) rest = Runs-digits (b ∷ bs) [] rest digits.runs in
    let long : run_len takes_digit (b ∷ (bs ++ rest)) ≡ length (b ∷ bs) = run_len-runs takes_digit (b ∷ bs) rest runs ends.no_digit in
    let here : token_at (b ∷ (bs ++ rest)) ≡ number_found (b ∷ (bs ++ rest)) (run_len takes_digit (b ∷ (bs ++ rest))) = rw (digit_not_blank b digit, digit_not_word b digit, digit) refl in
    let cut : take (length (b ∷ bs)) (b ∷ (bs ++ rest)) ≡ b ∷ bs = take-append_seam (b ∷ bs) rest in
    let fits : nat_le (number_from 0 (take (length (b ∷ bs)) (b ∷ (bs ++ rest)))) (2 ^ 63 - 1) ≡ true = le-leb _ _ (subst (λ m. m ≤ 2 ^ 63 - 1) (sym (ap (number_from 0) cut ∙ digits.value)) small) in
    let last : number_found (b ∷ (bs ++ rest)) (length (b ∷ bs)) ≡ found (Some k.Number) (length (b ∷ bs)) = rw fits refl in
    as_lexemes (b ∷ bs) rest (num (number_of (b ∷ bs)) (b ∷ bs) ∷ []) (num n (b ∷ bs) ∷ []) (ap (λ m. num m (b ∷ bs) ∷ []) digits.value)
    (piece_reads (Some k.Number) (b ∷ bs) rest (omega arith) (no_comment_at b (bs ++ rest) apart.0 apart.1 ∙ here ∙ ap (number_found (b ∷ (bs ++ rest))) long ∙ last))

pub is_number : (n : ℕ) (rest : List ℕ) → IsSmall n → Ends rest → Reads (decimal n) rest (num n (decimal n) ∷ [])
is_number n rest small ends = digits_read n (decimal n) rest small (decimal_digits n (omega (arith, small))) ends

digits_begin : (n : ℕ) (ds rest : List ℕ) → AreDigits n ds → Begins NoEqual (ds ++ rest) × Begins NoDash (ds ++ rest)
digits_begin n [] rest digits = absurd (omega (arith, digits.some))
digits_begin n (b ∷ bs) rest digits = let apart = digit_apart b digits.runs.0 in (apart.2, (apart.0, apart.3))

pub number_begins : (n : ℕ) (rest : List ℕ) → IsSmall n → Begins NoEqual (decimal n ++ rest) × Begins NoDash (decimal n ++ rest)
number_begins n rest small = digits_begin n (decimal n) rest (decimal_digits n (omega (arith, small)))
