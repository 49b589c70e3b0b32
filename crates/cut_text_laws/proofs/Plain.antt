-- The texts of values: words that tell values apart.
use lib.Signed.{mag}
use Rattle.std.proofs.Common.{◌≡◌, ◌≢◌, ◌⊎◌, inl, inr, ℕ, zero, suc, ◌+◌, ◌/◌, ◌%◌, ◌<◌, ◌≤◌, ◌^◌, Bool, true, false, not, ◌&&◌, List, [], ◌∷◌, ◌++◌, length, refl, sym, ◌∙◌, ap, subst, arith, codes, ℤ, pos, negsuc, eqb-true}
use Rattle.std.proofs.lemmas.Int.{ints}
use Rattle.std.specs.Prelude.{if◌then◌else◌, ◌==◌, IsTrue, nat_eq, ◌≤ℤ◌}
use Rattle.std.specs.List.{AllByRecursion}
use Rattle.std.specs.Fmt.{decimal, signed_decimal, digit_glyph, digits_onto, digits}
use Rattle.std.proofs.lemmas.Bool.Decides.{nat_tests}
use Rattle.std.proofs.lemmas.Fmt.{signed_decimal_injective}
use Rattle.smv_lexer.specs.Bytes.{is_word_start, is_word_byte}
use Rattle.smv_lexer.specs.Runs.{Runs, takes_word, ends_word}
use Rattle.smv_lexer.specs.Tokens.{IsWord}
use Rattle.smv_language.specs.declared.program.Member.{Member}
use Rattle.smv_language.specs.declared.program.Member.TheVariants as member
use Rattle.smv_language.specs.Language.{Text, DeclaredTree, boolean, range, members, instance, Value, symbol, at_most, same_int, is_between, value_text, IsName, IsEnd, Each, in_domain, is_member, IsWritableType, IsWritableMember, IsPlain, is_reserved, same_text}
use Rattle.smv_language.specs.Values.{truth, number}
use Rattle.cut_text_laws.proofs.Separators.{IsFree}
use Rattle.cut_text_laws.proofs.Words.{free_by_test}
use Rattle.cut_text_laws.specs.TraceOfText.{IsLineWord}
use Rattle.smv_language.proofs.ValueLaws.{same_int_equal as same_int_then, not_less}
use Rattle.smv_language.proofs.BoolLaws.{or_cases, left_true, right_true}
use Rattle.smv_language.proofs.TokenTexts.{Begins}

-- Digits.
glyph_is : (d : ℕ) → d < 10 → digit_glyph false d ≡ 48 + d
glyph_is d h = grind (arith, nat_tests)

last_digit : (n : ℕ) → n % 10 < 10
last_digit n = omega arith

-- each byte is a digit
abbrev pub AreDigits : List ℕ → Type 0
AreDigits ds = AllByRecursion (λ d. (48 ≤ d) × (d < 58)) ds

glyph_in : (n : ℕ) → (48 ≤ digit_glyph false (n % 10)) × (digit_glyph false (n % 10) < 58)
glyph_in n = let e : digit_glyph false (n % 10) ≡ 48 + n % 10 = glyph_is (n % 10) (last_digit n) in (omega (arith, e), omega (arith, e, last_digit n))

onto_digits : (k n : ℕ) (acc : List ℕ) → AreDigits acc → AreDigits (digits_onto k 10 false n acc)
onto_digits zero n acc h = h
onto_digits (suc k) n acc h = by_test (n / 10 == 0) (onto_digits k (n / 10) (digit_glyph false (n % 10) ∷ acc) (glyph_in n, h))
  where
    by_test : (b : Bool) → AreDigits (digits_onto k 10 false (n / 10) (digit_glyph false (n % 10) ∷ acc)) →
        AreDigits (if b then digit_glyph false (n % 10) ∷ acc else digits_onto k 10 false (n / 10) (digit_glyph false (n % 10) ∷ acc))
    by_test true r = (glyph_in n, h)
    by_test false r = r

onto_some : (k n : ℕ) (acc : List ℕ) → 0 < length acc → 0 < length (digits_onto k 10 false n acc)
onto_some zero n acc h = h
onto_some (suc k) n acc h = by_test (n / 10 == 0) (onto_some k (n / 10) (digit_glyph false (n % 10) ∷ acc) (omega arith))
  where
    by_test : (b : Bool) → 0 < length (digits_onto k 10 false (n / 10) (digit_glyph false (n % 10) ∷ acc)) →
        0 < length (if b then digit_glyph false (n % 10) ∷ acc else digits_onto k 10 false (n / 10) (digit_glyph false (n % 10) ∷ acc))
    by_test true r = omega arith
    by_test false r = r

first_some : (k n : ℕ) → 0 < length (digits_onto (suc k) 10 false n [])
first_some k n = by_test (n / 10 == 0) (onto_some k (n / 10) (digit_glyph false (n % 10) ∷ []) (omega arith))
  where
    by_test : (b : Bool) → 0 < length (digits_onto k 10 false (n / 10) (digit_glyph false (n % 10) ∷ [])) →
        0 < length (if b then digit_glyph false (n % 10) ∷ [] else digits_onto k 10 false (n / 10) (digit_glyph false (n % 10) ∷ []))
    by_test true r = omega arith
    by_test false r = r

pub decimal_digits : (n : ℕ) → AreDigits (decimal n)
unfolding digits
decimal_digits n = onto_digits 64 n [] tt

pub decimal_some : (n : ℕ) → 0 < length (decimal n)
unfolding digits
decimal_some n = first_some 63 n

digits_free : (s : ℕ) → (s < 48) ⊎ (57 < s) → (ds : List ℕ) → AreDigits ds → IsFree s ds
digits_free s out [] h = tt
digits_free s out (d ∷ ds) h = (λ e. outside out e, digits_free s out ds h.1)
  where
    outside : (s < 48) ⊎ (57 < s) → d ≡ s → ⊥
    outside (inl a) e = omega (arith, h.0.0, e, a)
    outside (inr a) e = omega (arith, h.0.1, e, a)

pub decimal_free : (s : ℕ) → (s < 48) ⊎ (57 < s) → (n : ℕ) → IsFree s (decimal n)
decimal_free s out n = digits_free s out (decimal n) (decimal_digits n)

some_then : (w : List ℕ) → 0 < length w → w ≢ []
some_then w h e = let none : length w ≡ length {A = ℕ} [] = ap (length {A = ℕ}) e in omega (arith, h, none)

-- a number's text is a word
pub decimal_word : (n : ℕ) → IsLineWord (decimal n)
decimal_word n = record { some = some_then (decimal n) (decimal_some n); free = decimal_free 32 (inl (omega arith)) n; line = decimal_free 10 (inl (omega arith)) n }

-- Names.
word_byte_not : (b : ℕ) → is_word_byte b ≡ true → (b ≢ 32) × (b ≢ 10)
word_byte_not b h = (λ e. absurd (no_space (subst (λ c. is_word_byte c ≡ true) e h)), λ e. absurd (no_feed (subst (λ c. is_word_byte c ≡ true) e h)))
  where
    no_space : is_word_byte 32 ≡ true → ⊥
    no_space e = cc

    no_feed : is_word_byte 10 ≡ true → ⊥
    no_feed e = cc

start_high : (b : ℕ) → is_word_start b ≡ true → 58 ≤ b
start_high b h = grind (arith, nat_tests)

pub start_word : (b : ℕ) → is_word_start b ≡ true → is_word_byte b ≡ true
start_word b h = rw h refl

run_free : (bs : List ℕ) → Runs takes_word bs [] → IsFree 32 bs × IsFree 10 bs
run_free [] h = (tt, tt)
run_free (b ∷ bs) h =
    let byte : (b ≢ 32) × (b ≢ 10) = word_byte_not b (left_true (is_word_byte b) (not ((b == 45) && ends_word (bs ++ []))) h.0) in
    let rest : IsFree 32 bs × IsFree 10 bs = run_free bs h.1 in
    ((byte.0, rest.0), (byte.1, rest.1))

pub word_word : (x : Text) → IsWord x [] → IsLineWord x
word_word [] h = absurd h
word_word (b ∷ bs) h =
    let byte : (b ≢ 32) × (b ≢ 10) = word_byte_not b (start_word b h.0) in
    let rest : IsFree 32 bs × IsFree 10 bs = run_free bs h.1 in
    record { some = some_then (b ∷ bs) (omega arith); free = (byte.0, rest.0); line = (byte.1, rest.1) }

pub value_word : (v : Value) → IsPlain v → IsLineWord (value_text v)
value_word (truth true) h = record { some = some_then (codes "TRUE") (omega arith); free = free_by_test 32 (codes "TRUE") refl; line = free_by_test 10 (codes "TRUE") refl }
value_word (truth false) h = record { some = some_then (codes "FALSE") (omega arith); free = free_by_test 32 (codes "FALSE") refl; line = free_by_test 10 (codes "FALSE") refl }
value_word (number (pos n)) h = decimal_word n
value_word (number (negsuc n)) h =
    record { some = some_then (45 ∷ decimal (suc n)) (omega arith); free = (λ e. omega (arith, e), (decimal_word (suc n)).free); line = (λ e. omega (arith, e), (decimal_word (suc n)).line) }
value_word (symbol x) h = word_word x h.1

low_start : (n : ℤ) → Begins (λ c. c < 58) (signed_decimal n)
low_start (pos n) = first (decimal n) (decimal_some n) (decimal_digits n)
  where
    first : (ds : List ℕ) → 0 < length ds → AreDigits ds → Begins (λ c. c < 58) ds
    first [] h g = absurd (omega (arith, h))
    first (d ∷ ds) h g = g.0.1
low_start (negsuc n) = omega arith

high_start : (x : Text) → IsWord x [] → Begins (λ c. 58 ≤ c) x
high_start [] h = absurd h
high_start (b ∷ bs) h = start_high b h.0

starts_differ : (x y : Text) → Begins (λ c. c < 58) x → Begins (λ c. 58 ≤ c) y → x ≡ y → ⊥
starts_differ [] y low high e = absurd low
starts_differ (c ∷ cs) [] low high e = absurd high
starts_differ (c ∷ cs) (d ∷ ds) low high e = omega (arith, low, high, head_same c d cs ds e)
  where
    head_same : (x y : ℕ) (xs ys : List ℕ) → (x ∷ xs) ≡ (y ∷ ys) → x ≡ y
    head_same x y xs ys e = cc

truth_high : (b : Bool) → Begins (λ c. 58 ≤ c) (value_text (truth b))
truth_high true = omega arith
truth_high false = omega arith

truth_reserved : (b : Bool) → is_reserved (value_text (truth b)) ≡ true
truth_reserved true = refl
truth_reserved false = refl

truth_no_name : (b : Bool) (x : Text) → IsName x → value_text (truth b) ≡ x → ⊥
truth_no_name b x h e = differ (sym (truth_reserved b) ∙ ap is_reserved e ∙ h.0)
  where
    differ : true ≡ false → ⊥
    differ e = cc

same_truth : (a b : Bool) → value_text (truth a) ≡ value_text (truth b) → a ≡ b
same_truth true true e = refl
same_truth false false e = refl
same_truth true false e = let bad : length (codes "TRUE") ≡ length (codes "FALSE") = ap (length {A = ℕ}) e in absurd (omega (arith, bad))
same_truth false true e = let bad : length (codes "FALSE") ≡ length (codes "TRUE") = ap (length {A = ℕ}) e in absurd (omega (arith, bad))

pub small_end : (n : ℤ) → IsEnd n → mag n < 2 ^ 63
small_end (pos n) h = omega (arith, h)
small_end (negsuc n) h = omega (arith, h)

pub same_value_text : (v w : Value) → IsPlain v → IsPlain w → value_text v ≡ value_text w → v ≡ w
same_value_text (truth a) (truth b) h g e = ap truth (same_truth a b e)
same_value_text (truth a) (number n) h g e = absurd (starts_differ (signed_decimal n) (value_text (truth a)) (low_start n) (truth_high a) (sym e))
same_value_text (truth a) (symbol y) h g e = absurd (truth_no_name a y g e)
same_value_text (number n) (truth b) h g e = absurd (starts_differ (signed_decimal n) (value_text (truth b)) (low_start n) (truth_high b) e)
same_value_text (number n) (number k) h g e = ap number (signed_decimal_injective n k (small_end n h) (small_end k g) e)
same_value_text (number n) (symbol y) h g e = absurd (starts_differ (signed_decimal n) y (low_start n) (high_start y g.1) e)
same_value_text (symbol x) (truth b) h g e = absurd (truth_no_name b x h (sym e))
same_value_text (symbol x) (number k) h g e = absurd (starts_differ (signed_decimal k) x (low_start k) (high_start x h.1) (sym e))
same_value_text (symbol x) (symbol y) h g e = ap symbol e

pub same_text_then : (a b : Text) → same_text a b ≡ true → a ≡ b
same_text_then [] [] e = refl
same_text_then [] (y ∷ b) e = cc
same_text_then (x ∷ a) [] e = cc
same_text_then (x ∷ a) (y ∷ b) e = two x y a b (eqb-true x y (left_true (nat_eq x y) (same_text a b) e)) (same_text_then a b (right_true (nat_eq x y) (same_text a b) e))
  where
    two : (x y : ℕ) (a b : Text) → x ≡ y → a ≡ b → (x ∷ a) ≡ (y ∷ b)
    two x y a b e f = cc

member_plain : (ms : List Member) (v : Value) → Each IsWritableMember ms → is_member ms v ≡ true → IsPlain v
member_plain [] v h e = cc
member_plain (m ∷ ms) (truth b) h e = tt
member_plain (member.Number n ∷ ms) (number k) h e = by_side (or_cases (same_int n k) (is_member ms (number k)) e) (member_plain ms (number k) h.1)
  where
    by_side : (same_int n k ≡ true) ⊎ (is_member ms (number k) ≡ true) → (is_member ms (number k) ≡ true → IsEnd k) → IsEnd k
    by_side (inl s) more = subst IsEnd (same_int_then n k s) h.0
    by_side (inr s) more = more s
member_plain (member.Symbol x ∷ ms) (number k) h e = member_plain ms (number k) h.1 e
member_plain (member.Number n ∷ ms) (symbol y) h e = member_plain ms (symbol y) h.1 e
member_plain (member.Symbol x ∷ ms) (symbol y) h e = by_side (or_cases (same_text x y) (is_member ms (symbol y)) e) (member_plain ms (symbol y) h.1)
  where
    by_side : (same_text x y ≡ true) ⊎ (is_member ms (symbol y) ≡ true) → (is_member ms (symbol y) ≡ true → IsName y) → IsName y
    by_side (inl s) more = subst IsName (same_text_then x y s) h.0
    by_side (inr s) more = more s

end_between : (lo hi n : ℤ) → IsEnd lo → IsEnd hi → is_between lo hi (number n) ≡ true → IsEnd n
end_between lo hi n f g e = by_sign n lo hi f g (not_less lo n (left_true (at_most lo n) (at_most n hi) e)) (not_less n hi (right_true (at_most lo n) (at_most n hi) e))
  where
    by_sign : (n lo hi : ℤ) → IsEnd lo → IsEnd hi → lo ≤ℤ n → n ≤ℤ hi → IsEnd n
    by_sign (pos n) lo (pos k) f g p q = omega (arith, ints, q, g)
    by_sign (pos n) lo (negsuc k) f g p q = absurd (omega (arith, ints, q))
    by_sign (negsuc n) (negsuc k) hi f g p q = omega (arith, ints, p, f)
    by_sign (negsuc n) (pos k) hi f g p q = absurd (omega (arith, ints, p))

pub domain_plain : (d : DeclaredTree) (v : Value) → IsWritableType d → IsTrue (in_domain d v) → IsPlain v
domain_plain boolean (truth b) h e = tt
domain_plain boolean (number n) h e = absurd (never e)
  where
    never : false ≡ true → ⊥
    never e = cc
domain_plain boolean (symbol x) h e = absurd (never e)
  where
    never : false ≡ true → ⊥
    never e = cc
domain_plain (range lo hi) (truth b) h e = tt
domain_plain (range lo hi) (number n) h e = end_between lo hi n h.0 h.1 e
domain_plain (range lo hi) (symbol x) h e = absurd (never e)
  where
    never : false ≡ true → ⊥
    never e = cc
domain_plain (members ms) v h e = member_plain ms v h.1 e
domain_plain (instance m actuals) v h e = absurd h
