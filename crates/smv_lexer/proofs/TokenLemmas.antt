-- The longest token at a place, by its first byte.
use Rattle.std.proofs.Common.{◌≡◌, ℕ, ◌+◌, ◌≤◌, Bool, true, false, List, [], ◌∷◌, ◌++◌, length, take, drop, Some, None, sym, ap, ◌∙◌, refl, subst, inl, inr, ⊎_elim, arith, add-one, length-take-le}
use Rattle.std.specs.Char.{is_ascii_digit}
use Rattle.std.proofs.lemmas.List.{take-append-drop}
use Rattle.smv_lexer.specs.declared.token.TokenKind.{TokenKind}
use Rattle.smv_lexer.specs.declared.token.TokenKind.TheVariants.{Word, Number}
use Rattle.smv_lexer.specs.Bytes.{is_word_start}
use Rattle.smv_lexer.specs.Runs.{Runs, run_len, takes_word, takes_digit}
use Rattle.smv_lexer.specs.Tokens.{Sign, signs, IsNumber, IsAmong, IsToken, IsLongest}
use Rattle.smv_lexer.specs.Scan.{sign_at}
use Rattle.smv_lexer.proofs.ByteLemmas.{digit_not_word}
use Rattle.smv_lexer.proofs.RunLemmas.{Runs-run_len, Runs-le, run_len-le}
use Rattle.smv_lexer.proofs.SignLemmas.{sign_starts, sign_some, sign_at-none, sign_at-some, sign_at-longest, signs_descend, signs_differ, one_kind, same_front}
use Rattle.smv_lexer.proofs.BlockLemmas.{tail_same}

pub head_same : (x y : ℕ) (xs ys : List ℕ) → x ∷ xs ≡ y ∷ ys → x ≡ y
head_same x y xs ys e = cc

split_run : (test : List ℕ → Bool) (bytes : List ℕ) → take (run_len test bytes) bytes ++ drop (run_len test bytes) bytes ≡ bytes
split_run test bytes = take-append-drop (run_len test bytes) bytes

length_run : (test : List ℕ → Bool) (bytes : List ℕ) → length (take (run_len test bytes) bytes) ≡ run_len test bytes
length_run test bytes = length-take-le (run_len test bytes) bytes (run_len-le test bytes)

-- a token that begins with a letter or `_` is a word
word_at : (b : ℕ) (bs : List ℕ) → is_word_start b ≡ true → (kind : TokenKind) (front back : List ℕ) → front ++ back ≡ b ∷ bs → IsToken kind front back → (kind ≡ Word) × (length front ≤ run_len takes_word bs + 1)
word_at b bs starts kind [] back e token =
    ⊎_elim (λ word. absurd word.1) (λ other. ⊎_elim (λ number. absurd number.1) (λ sign. absurd (sign_some kind sign)) other) token
word_at b bs starts kind (x ∷ more) back e token =
    let same : x ≡ b = head_same x b (more ++ back) bs e in
    ⊎_elim
    (λ word. (word.0, omega (arith, Runs-le takes_word more back word.1.1, ap (run_len takes_word) (tail_same x b (more ++ back) bs e))))
    (λ other. ⊎_elim
    (λ number. let clash : true ≡ false = sym (ap is_word_start same ∙ starts) ∙ digit_not_word x number.1.0 in cc)
    (λ sign. let clash : true ≡ false = sym (ap is_word_start same ∙ starts) ∙ (sign_starts kind x more sign).no_word in cc)
    other)
    token

pub word_longest : (b : ℕ) (bs : List ℕ) → is_word_start b ≡ true → IsLongest Word (b ∷ take (run_len takes_word bs) bs) (drop (run_len takes_word bs) bs)
word_longest b bs starts = record {
  token = inl (refl, (starts, Runs-run_len takes_word bs));
  longest = λ kind front back e token.
      omega (arith, (word_at b bs starts kind front back (e ∙ ap (λ t. b ∷ t) (split_run takes_word bs)) token).1, length_run takes_word bs);
}

-- a token that begins with a digit is a number
number_at : (b : ℕ) (bs : List ℕ) → is_ascii_digit b ≡ true → (kind : TokenKind) (front back : List ℕ) → front ++ back ≡ b ∷ bs → IsToken kind front back → (kind ≡ Number) × (length front ≤ run_len takes_digit (b ∷ bs))
number_at b bs digit kind [] back e token =
    ⊎_elim (λ word. absurd word.1) (λ other. ⊎_elim (λ number. absurd number.1) (λ sign. absurd (sign_some kind sign)) other) token
number_at b bs digit kind (x ∷ more) back e token =
    let same : x ≡ b = head_same x b (more ++ back) bs e in
    ⊎_elim
    (λ word. let clash : true ≡ false = sym (word.1.0) ∙ ap is_word_start same ∙ digit_not_word b digit in cc)
    (λ other. ⊎_elim
    (λ number. (number.0, subst (λ t. length (x ∷ more) ≤ run_len takes_digit t) e (Runs-le takes_digit (x ∷ more) back number.1)))
    (λ sign. let clash : true ≡ false = sym (ap is_ascii_digit same ∙ digit) ∙ (sign_starts kind x more sign).no_digit in cc)
    other)
    token

pub some_digits : (b : ℕ) (bs : List ℕ) → is_ascii_digit b ≡ true → run_len takes_digit (b ∷ bs) ≡ run_len takes_digit bs + 1
some_digits b bs digit = rw digit refl

number_text : (b : ℕ) (bs : List ℕ) → is_ascii_digit b ≡ true → take (run_len takes_digit (b ∷ bs)) (b ∷ bs) ≡ b ∷ take (run_len takes_digit bs) bs
number_text b bs digit = ap (λ n. take n (b ∷ bs)) (some_digits b bs digit ∙ add-one (run_len takes_digit bs))

number_of_runs : (text after : List ℕ) (b : ℕ) (bs : List ℕ) → text ≡ b ∷ bs → Runs takes_digit text after → IsNumber text after
number_of_runs [] after b bs e runs = cc
number_of_runs (x ∷ more) after b bs e runs = runs

pub number_longest : (b : ℕ) (bs : List ℕ) → is_ascii_digit b ≡ true → IsLongest Number (take (run_len takes_digit (b ∷ bs)) (b ∷ bs)) (drop (run_len takes_digit (b ∷ bs)) (b ∷ bs))
number_longest b bs digit = record {
  token = inr (inl (refl, number_of_runs _ _ b (take (run_len takes_digit bs) bs) (number_text b bs digit) (Runs-run_len takes_digit (b ∷ bs))));
  longest = λ kind front back e token.
      omega (arith, (number_at b bs digit kind front back (e ∙ split_run takes_digit (b ∷ bs)) token).1, length_run takes_digit (b ∷ bs));
}

-- a token that begins otherwise is a sign
sign_only : (b : ℕ) (bs : List ℕ) → is_word_start b ≡ false → is_ascii_digit b ≡ false → (kind : TokenKind) (front back : List ℕ) → front ++ back ≡ b ∷ bs → IsToken kind front back → IsAmong signs kind front
sign_only b bs no_word no_digit kind [] back e token =
    ⊎_elim (λ word. absurd word.1) (λ other. ⊎_elim (λ number. absurd number.1) (λ sign. sign) other) token
sign_only b bs no_word no_digit kind (x ∷ more) back e token =
    let same : x ≡ b = head_same x b (more ++ back) bs e in
    ⊎_elim
    (λ word. let clash : true ≡ false = sym (word.1.0) ∙ ap is_word_start same ∙ no_word in cc)
    (λ other. ⊎_elim
    (λ number. let clash : true ≡ false = sym (number.1.0) ∙ ap is_ascii_digit same ∙ no_digit in cc)
    (λ sign. sign)
    other)
    token

pub sign_longest : (b : ℕ) (bs : List ℕ) (found : Sign) → is_word_start b ≡ false → is_ascii_digit b ≡ false → sign_at signs (b ∷ bs) ≡ Some found → IsLongest found.kind found.text (drop (length found.text) (b ∷ bs))
sign_longest b bs found no_word no_digit some =
    let hit = sign_at-some signs (b ∷ bs) found some in
    record {
      token = inr (inr hit.0);
      longest = λ kind front back e token.
          let at = e ∙ sym hit.1 in
          sign_at-longest signs (b ∷ bs) found signs_descend some kind front back (sym at) (sign_only b bs no_word no_digit kind front back at token);
    }

pub no_token_at : (b : ℕ) (bs : List ℕ) → is_word_start b ≡ false → is_ascii_digit b ≡ false → sign_at signs (b ∷ bs) ≡ None → (kind : TokenKind) (text after : List ℕ) → b ∷ bs ≡ text ++ after → IsToken kind text after → ⊥
no_token_at b bs no_word no_digit none kind text after e token =
    sign_at-none signs (b ∷ bs) none kind text after e (sign_only b bs no_word no_digit kind text after (sym e) token)

-- two longest tokens at one place are one
pub one_longest : (a b : TokenKind) (x y u v : List ℕ) → IsLongest a x u → IsLongest b y v → x ++ u ≡ y ++ v → x ≡ y
one_longest a b x y u v first second same =
    let le : length x ≤ length y = second.longest a x u same first.token in
    let ge : length y ≤ length x = first.longest b y v (sym same) second.token in
    same_front x y u v same (omega arith)

kind_at : (a b : TokenKind) (x u v : List ℕ) → IsToken a x u → IsToken b x v → a ≡ b
kind_at a b [] u v first second =
    ⊎_elim (λ word. absurd word.1) (λ other. ⊎_elim (λ number. absurd number.1) (λ sign. absurd (sign_some a sign)) other) first
kind_at a b (x ∷ more) u v first second =
    ⊎_elim
    (λ word. word.0 ∙ sym ((word_at x (more ++ v) word.1.0 b (x ∷ more) v refl second).0))
    (λ other. ⊎_elim
    (λ number. number.0 ∙ sym ((number_at x (more ++ v) number.1.0 b (x ∷ more) v refl second).0))
    (λ sign.
    let starts = sign_starts a x more sign in
    one_kind signs a b (x ∷ more) signs_differ sign (sign_only x (more ++ v) starts.no_word starts.no_digit b (x ∷ more) v refl second))
    other)
    first

-- and of one kind
pub one_kind_longest : (a b : TokenKind) (x y u v : List ℕ) → IsLongest a x u → IsLongest b y v → x ++ u ≡ y ++ v → a ≡ b
one_kind_longest a b x y u v first second same =
    let e : y ≡ x = sym (one_longest a b x y u v first second same) in
    kind_at a b x u v first.token (subst (λ t. IsToken b t v) e second.token)
