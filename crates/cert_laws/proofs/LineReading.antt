-- Each reading of a line is exact.
use Rattle.std.proofs.Common.{◌≡◌, ◌⊎◌, inl, inr, ◌↔◌, ℕ, zero, suc, ◌≤◌, ◌<◌, ◌^◌, Bool, true, false, ◌&&◌, nat_eq, nat_lt, List, [], ◌∷◌, ◌++◌, length, map, Option, Some, None, refl, sym, ◌∙◌, ap, subst, arith, codes, eq-eqb, eqb-true, lt-ltb, ltb-true}
use Rattle.std.specs.Prelude.{if◌then◌else◌}
use Rattle.std.specs.Option.{option_map}
use Rattle.std.specs.List.{AllByRecursion}
use Rattle.std.specs.Fmt.{decimal}
use Rattle.std.specs.Str.Parse.{digits_value}
use Rattle.std.proofs.lemmas.Fmt.{decimal_is_IsNumeral}
use Rattle.sat_clauses.specs.Literal.{Literal, plain, opposite}
use Rattle.sat_clauses.specs.declared.step.Step.{Step}
use Rattle.cut_text_laws.specs.Lines.{Line, spaced}
use Rattle.cert_laws.specs.CertificateText.{literal_text, IsSmall, IsCount, IsLiteral, IsHint, IsWritableStep}
use Rattle.cert_laws.specs.LineReading.{with_byte, words_in, number_in, cons_both, each_in, after_word, one_number, not_zero, hint_in, literal_in, before_first, cut_at_colon, step_of, step_of_parts, step_of_words, CountsAreExact, SetsAreExact, ClausesAreExact, StepsAreExact}
use Rattle.cut_text_laws.proofs.Separators.{IsFree, no_separator}
use Rattle.cert_laws.proofs.Words.{number_free, number_word, literal_free, literal_word}
use Rattle.cut_text_laws.proofs.Words.{free_by_test, all_texts}
use Rattle.std.proofs.lemmas.Bool.{and_parts as both_parts}
use Rattle.std.proofs.lemmas.Option.{same_Some as some_same, none-some as never}
use Rattle.smv_language.proofs.BoolLaws.{if_true, if_false}
use Rattle.base_values.proofs.ListLaws.{all_joined}
use Rattle.smv_language.specs.Texts.{same_text}
use Rattle.smv_language.proofs.ValueLaws.{same_text_equal, same_text_refl}

pub chosen : {A : Type 0} (b : Bool) (x y z : A) → (if b then x else y) ≡ z → ((b ≡ true) × (x ≡ z)) ⊎ ((b ≡ false) × (y ≡ z))
chosen true x y z e = inl (refl, e)
chosen false x y z e = inr (refl, e)

pub differs : (a b : ℕ) → (a ≡ b → ⊥) → nat_eq a b ≡ false
differs a b h = go (nat_eq a b) refl
  where
    go : (t : Bool) → nat_eq a b ≡ t → nat_eq a b ≡ false
    go true e = absurd (h (eqb-true a b e))
    go false e = e

pub not_same : (a b : List ℕ) → (a ≡ b → ⊥) → same_text a b ≡ false
not_same a b h = go (same_text a b) refl
  where
    go : (t : Bool) → same_text a b ≡ t → same_text a b ≡ false
    go true e = absurd (h (same_text_equal a b e))
    go false e = e

-- Words.
pub some_words : (line : Line) → (w : Line) × (ws : List Line) × (words_in line ≡ w ∷ ws)
some_words [] = ([], [], refl)
some_words (b ∷ bs) = by_test (nat_eq b 32) (words_in bs)
  where
    by_test : (t : Bool) (words : List Line) → (w : Line) × (ws : List Line) × ((if t then [] ∷ words else with_byte b words) ≡ w ∷ ws)
    by_test true words = ([], words, refl)
    by_test false [] = (b ∷ [], [], refl)
    by_test false (w ∷ ws) = (b ∷ w, ws, refl)

-- the words with spaces between are the line
spaced_with : (b : ℕ) (w : Line) (ws : List Line) → spaced ((b ∷ w) ∷ ws) ≡ b ∷ spaced (w ∷ ws)
spaced_with b w [] = refl
spaced_with b w (v ∷ ws) = refl

spaced_space : (w : Line) (ws : List Line) → spaced ([] ∷ w ∷ ws) ≡ 32 ∷ spaced (w ∷ ws)
spaced_space w ws = refl

words_spaced : (line : Line) → spaced (words_in line) ≡ line
words_spaced [] = refl
words_spaced (b ∷ bs) = by_rest (words_in bs) (some_words bs) (words_spaced bs) (nat_eq b 32) refl
  where
    by_rest : (words : List Line) → ((w : Line) × (ws : List Line) × (words ≡ w ∷ ws)) → spaced words ≡ bs → (t : Bool) → nat_eq b 32 ≡ t → spaced (if t then [] ∷ words else with_byte b words) ≡ b ∷ bs
    by_rest [] some e t f = absurd (nothing some)
      where
        nothing : ((w : Line) × (ws : List Line) × ([] ≡ w ∷ ws)) → ⊥
        nothing some = let bad : length {A = Line} [] ≡ length (some.0 ∷ some.1) = ap (length {A = Line}) some.2 in omega (arith, bad)
    by_rest (w ∷ ws) some e true f = spaced_space w ws ∙ ap (λ x. 32 ∷ x) e ∙ ap (λ x. x ∷ bs) (sym (eqb-true b 32 f))
    by_rest (w ∷ ws) some e false f = spaced_with b w ws ∙ ap (λ x. b ∷ x) e

-- and words without spaces are read from their line
words_of_free : (w : Line) → IsFree 32 w → words_in w ≡ w ∷ []
words_of_free [] f = refl
words_of_free (b ∷ w) f = if_false (nat_eq b 32) ([] ∷ words_in w) (with_byte b (words_in w)) (differs b 32 f.0) ∙ ap (with_byte b) (words_of_free w f.1)

words_of_front : (w rest : Line) → IsFree 32 w → words_in (w ++ 32 ∷ rest) ≡ w ∷ words_in rest
words_of_front [] rest f = refl
words_of_front (b ∷ w) rest f =
    if_false (nat_eq b 32) ([] ∷ words_in (w ++ 32 ∷ rest)) (with_byte b (words_in (w ++ 32 ∷ rest))) (differs b 32 f.0) ∙ ap (with_byte b) (words_of_front w rest f.1)

words_of_spaced : (w : Line) (ws : List Line) → AllByRecursion (IsFree 32) (w ∷ ws) → words_in (spaced (w ∷ ws)) ≡ w ∷ ws
words_of_spaced w [] f = words_of_free w f.0
words_of_spaced w (v ∷ ws) f = words_of_front w (spaced (v ∷ ws)) f.0 ∙ ap (λ x. w ∷ x) (words_of_spaced v ws f.1)

-- Numbers.
value_of_decimal : (n : ℕ) → n < 2 ^ 64 → digits_value 10 (decimal n) ≡ n
value_of_decimal n h = (decimal_is_IsNumeral n h).1

pub number_exact : (limit : ℕ) → limit ≤ 2 ^ 64 → (w : Line) (n : ℕ) → (number_in limit w ≡ Some n ↔ ((w ≡ decimal n) × (n < limit)))
number_exact limit low w n = (to, back)
  where
    to : number_in limit w ≡ Some n → (w ≡ decimal n) × (n < limit)
    to e = by_branch (chosen (same_text w (decimal (digits_value 10 w)) && nat_lt (digits_value 10 w) limit) (Some (digits_value 10 w)) None (Some n) e)
      where
        by_branch : (((same_text w (decimal (digits_value 10 w)) && nat_lt (digits_value 10 w) limit) ≡ true) × (Some (digits_value 10 w) ≡ Some n))
            ⊎ (((same_text w (decimal (digits_value 10 w)) && nat_lt (digits_value 10 w) limit) ≡ false) × (None ≡ Some n)) → (w ≡ decimal n) × (n < limit)
        by_branch (inl h) =
            let parts : (same_text w (decimal (digits_value 10 w)) ≡ true) × (nat_lt (digits_value 10 w) limit ≡ true) = both_parts (same_text w (decimal (digits_value 10 w))) (nat_lt (digits_value 10 w) limit) h.0 in
            let same : digits_value 10 w ≡ n = some_same (digits_value 10 w) n h.1 in
            (same_text_equal w (decimal (digits_value 10 w)) parts.0 ∙ ap decimal same, subst (λ k. k < limit) same (ltb-true (digits_value 10 w) limit parts.1))
        by_branch (inr h) = absurd (never n h.1)

    back : (w ≡ decimal n) × (n < limit) → number_in limit w ≡ Some n
    back h =
        let value : digits_value 10 w ≡ n = ap (digits_value 10) h.0 ∙ value_of_decimal n (below h.1) in
        let itself : same_text w (decimal (digits_value 10 w)) ≡ true = ap (λ k. same_text w (decimal k)) value ∙ ap (λ x. same_text x (decimal n)) h.0 ∙ same_text_refl (decimal n) in
        let small : nat_lt (digits_value 10 w) limit ≡ true = ap (λ k. nat_lt k limit) value ∙ lt-ltb n limit h.1 in
        if_true (same_text w (decimal (digits_value 10 w)) && nat_lt (digits_value 10 w) limit) (Some (digits_value 10 w)) None (both (same_text w (decimal (digits_value 10 w))) (nat_lt (digits_value 10 w) limit) itself small) ∙ ap (λ k. Some k) value
      where
        below : n < limit → n < 2 ^ 64
        below h = omega (arith, h, low)

        both : (a b : Bool) → a ≡ true → b ≡ true → (a && b) ≡ true
        both true b e f = f
        both false b e f = cc

-- Lists of words.
pub each_exact : {A : Type 0} (f : Line → Option A) (text : A → Line) (P : A → Type 0) → ((w : Line) (a : A) → (f w ≡ Some a ↔ ((w ≡ text a) × P a))) →
    (ws : List Line) (as' : List A) → (each_in f ws ≡ Some as' ↔ ((ws ≡ map text as') × AllByRecursion P as'))
each_exact {A = A} f text P one ws as' = (to ws as', back ws as')
  where
    two : {B : Type 0} (x y : B) (xs ys : List B) → x ≡ y → xs ≡ ys → (x ∷ xs) ≡ (y ∷ ys)
    two x y xs ys e g = cc

    heads : (x y : A) (xs ys : List A) → (x ∷ xs) ≡ (y ∷ ys) → x ≡ y
    heads x y xs ys e = cc

    tails : (x y : A) (xs ys : List A) → (x ∷ xs) ≡ (y ∷ ys) → xs ≡ ys
    tails x y xs ys e = cc

    parts : (o : Option A) (p : Option (List A)) (a : A) (more : List A) → cons_both o p ≡ Some (a ∷ more) → (o ≡ Some a) × (p ≡ Some more)
    parts None p a more e = cc
    parts (Some x) None a more e = cc
    parts (Some x) (Some xs) a more e =
        let same : (x ∷ xs) ≡ (a ∷ more) = some_same (x ∷ xs) (a ∷ more) e in (ap (λ z. Some z) (heads x a xs more same), ap (λ z. Some z) (tails x a xs more same))

    not_none : (o : Option A) (p : Option (List A)) → cons_both o p ≡ Some [] → ⊥
    not_none None p e = never [] e
    not_none (Some x) None e = never [] e
    not_none (Some x) (Some xs) e = let bad : length (x ∷ xs) ≡ length {A = A} [] = ap (length {A = A}) (some_same (x ∷ xs) [] e) in omega (arith, bad)

    to : (ws : List Line) (as' : List A) → each_in f ws ≡ Some as' → (ws ≡ map text as') × AllByRecursion P as'
    to [] [] e = (refl, tt)
    to [] (a ∷ more) e = let bad : length {A = A} [] ≡ length (a ∷ more) = ap (length {A = A}) (some_same [] (a ∷ more) e) in absurd (omega (arith, bad))
    to (w ∷ ws) [] e = absurd (not_none (f w) (each_in f ws) e)
    to (w ∷ ws) (a ∷ more) e =
        let p : (f w ≡ Some a) × (each_in f ws ≡ Some more) = parts (f w) (each_in f ws) a more e in
        let first : (w ≡ text a) × P a = (one w a).0 p.0 in
        let rest : (ws ≡ map text more) × AllByRecursion P more = to ws more p.1 in
        (two w (text a) ws (map text more) first.0 rest.0, (first.1, rest.1))

    line_heads : (x y : Line) (xs ys : List Line) → (x ∷ xs) ≡ (y ∷ ys) → x ≡ y
    line_heads x y xs ys e = cc

    line_tails : (x y : Line) (xs ys : List Line) → (x ∷ xs) ≡ (y ∷ ys) → xs ≡ ys
    line_tails x y xs ys e = cc

    back : (ws : List Line) (as' : List A) → (ws ≡ map text as') × AllByRecursion P as' → each_in f ws ≡ Some as'
    back [] [] h = refl
    back [] (a ∷ more) h = let bad : length {A = Line} [] ≡ length (text a ∷ map text more) = ap (length {A = Line}) h.0 in absurd (omega (arith, bad))
    back (w ∷ ws) [] h = let bad : length (w ∷ ws) ≡ length {A = Line} [] = ap (length {A = Line}) h.0 in absurd (omega (arith, bad))
    back (w ∷ ws) (a ∷ more) h =
        let first : f w ≡ Some a = (one w a).1 (line_heads w (text a) ws (map text more) h.0, h.1.0) in
        let rest : each_in f ws ≡ Some more = back ws more (line_tails w (text a) ws (map text more) h.0, h.1.1) in
        ap (λ o. cons_both o (each_in f ws)) first ∙ ap (cons_both (Some a)) rest

-- A line of a word and what comes after it.
pub line_exact : {A : Type 0} (word : Line) (g : List Line → Option A) (words : A → List Line) (P : A → Type 0) → IsFree 32 word → ((a : A) → P a → AllByRecursion (IsFree 32) (words a)) →
    ((ws : List Line) (a : A) → (g ws ≡ Some a ↔ ((ws ≡ words a) × P a))) → (line : Line) (a : A) → (after_word word g (words_in line) ≡ Some a ↔ ((line ≡ spaced (word ∷ words a)) × P a))
line_exact {A = A} word g words P free frees exact line a = (to (some_words line), back)
  where
    two : (x y : Line) (xs ys : List Line) → x ≡ y → xs ≡ ys → (x ∷ xs) ≡ (y ∷ ys)
    two x y xs ys e f = cc

    to : ((w : Line) × (ws : List Line) × (words_in line ≡ w ∷ ws)) → after_word word g (words_in line) ≡ Some a → (line ≡ spaced (word ∷ words a)) × P a
    to some e =
        by_branch (chosen (same_text some.0 word) (g some.1) None (Some a) (ap (after_word word g) (sym some.2) ∙ e))
      where
        by_branch : ((same_text some.0 word ≡ true) × (g some.1 ≡ Some a)) ⊎ ((same_text some.0 word ≡ false) × (None ≡ Some a)) → (line ≡ spaced (word ∷ words a)) × P a
        by_branch (inl h) =
            let rest : (some.1 ≡ words a) × P a = (exact some.1 a).0 h.1 in
            (sym (words_spaced line) ∙ ap spaced (some.2 ∙ two some.0 word some.1 (words a) (same_text_equal some.0 word h.0) rest.0), rest.1)
        by_branch (inr h) = absurd (never a h.1)

    back : (line ≡ spaced (word ∷ words a)) × P a → after_word word g (words_in line) ≡ Some a
    back h =
        ap (after_word word g) (ap words_in h.0 ∙ words_of_spaced word (words a) (free, frees a h.1))
        ∙ if_true (same_text word word) (g (words a)) None (same_text_refl word) ∙ (exact (words a) a).1 (refl, h.1)

-- Counts and sets.
one_exact : (ws : List Line) (n : ℕ) → (one_number ws ≡ Some n ↔ ((ws ≡ decimal n ∷ []) × IsCount n))
one_exact [] n = ((λ e. absurd (never n e)), (λ h. let bad : length {A = Line} [] ≡ length (decimal n ∷ []) = ap (length {A = Line}) h.0 in absurd (omega (arith, bad))))
one_exact (w ∷ []) n = (
  (λ e. let h : (w ≡ decimal n) × (n < 2 ^ 63) = (number_exact (2 ^ 63) (omega arith) w n).0 e in (ap (λ x. x ∷ []) h.0, h.1)),
  (λ h. (number_exact (2 ^ 63) (omega arith) w n).1 (first w (decimal n) h.0, h.1)),
)
  where
    first : (x y : Line) → (x ∷ []) ≡ (y ∷ []) → x ≡ y
    first x y e = cc
one_exact (w ∷ v ∷ ws) n = ((λ e. absurd (never n e)), (λ h. let bad : length (w ∷ v ∷ ws) ≡ length (decimal n ∷ []) = ap (length {A = Line}) h.0 in absurd (omega (arith, bad))))

pub counts_exact : CountsAreExact
counts_exact word line n free = line_exact word one_number (λ k. decimal k ∷ []) IsCount free (λ k h. ((number_word k h).free, tt)) one_exact line n

pub sets_exact : SetsAreExact
sets_exact line set =
    line_exact (codes "set") (each_in (number_in (2 ^ 31))) (map decimal) (AllByRecursion IsSmall) (free_by_test 32 (codes "set") refl)
    (λ ns h. all_texts decimal IsSmall (IsFree 32) (λ n k. (number_word n (wide n k)).free) ns h)
    (each_exact (number_in (2 ^ 31)) decimal IsSmall (number_exact (2 ^ 31) (omega arith))) line set
  where
    wide : (n : ℕ) → IsSmall n → IsCount n
    wide n h = omega (arith, h)

-- Hints and literals.
hint_exact : (w : Line) (n : ℕ) → (hint_in w ≡ Some n ↔ ((w ≡ decimal n) × IsHint n))
hint_exact w n = (to (number_in (2 ^ 63) w) refl, back)
  where
    to : (o : Option ℕ) → number_in (2 ^ 63) w ≡ o → not_zero o ≡ Some n → (w ≡ decimal n) × IsHint n
    to None e h = absurd (never n h)
    to (Some k) e h = by_branch (chosen (nat_eq k 0) None (Some k) (Some n) h)
      where
        positive : (k : ℕ) → nat_eq k 0 ≡ false → 1 ≤ k
        positive zero t = let bad : true ≡ false = sym (eq-eqb 0 0 refl) ∙ t in cc
        positive (suc k) t = omega arith

        by_branch : ((nat_eq k 0 ≡ true) × (None ≡ Some n)) ⊎ ((nat_eq k 0 ≡ false) × (Some k ≡ Some n)) → (w ≡ decimal n) × IsHint n
        by_branch (inl t) = absurd (never n t.1)
        by_branch (inr t) =
            let same : k ≡ n = some_same k n t.1 in
            let number : (w ≡ decimal k) × (k < 2 ^ 63) = (number_exact (2 ^ 63) (omega arith) w k).0 e in
            (number.0 ∙ ap decimal same, (subst (λ x. 1 ≤ x) same (positive k t.0), subst (λ x. x < 2 ^ 63) same number.1))

    back : (w ≡ decimal n) × IsHint n → hint_in w ≡ Some n
    back h = ap not_zero ((number_exact (2 ^ 63) (omega arith) w n).1 (h.0, h.1.1)) ∙ if_false (nat_eq n 0) None (Some n) (differs n 0 (λ e. absurd (omega (arith, e, h.1.0))))

-- what a literal with this variable is
negative_is : (l : Literal) (n : ℕ) → l.negated ≡ true → l.var ≡ n → l ≡ opposite (plain n)
negative_is l n e f = one l.var n l.negated f e
  where
    one : (x y : ℕ) (b : Bool) → x ≡ y → b ≡ true → (let r : Literal = record { var = x; negated = b } in r) ≡ opposite (plain y)
    one x y b f e = rw (f, e) refl

positive_is : (l : Literal) (n : ℕ) → l.negated ≡ false → l.var ≡ n → l ≡ plain n
positive_is l n e f = one l.var n l.negated f e
  where
    one : (x y : ℕ) (b : Bool) → x ≡ y → b ≡ false → (let r : Literal = record { var = x; negated = b } in r) ≡ plain y
    one x y b f e = rw (f, e) refl

of_digits : (w : Line) → 0 < length w → IsFree 45 w → literal_in w ≡ option_map plain (hint_in w)
of_digits [] h f = absurd (omega (arith, h))
of_digits (b ∷ bs) h f = if_false (nat_eq b 45) (option_map (λ x. opposite (plain x)) (hint_in bs)) (option_map plain (hint_in (b ∷ bs))) (differs b 45 f.0)

literal_read : (l : Literal) → IsLiteral l → literal_in (literal_text l) ≡ Some l
literal_read l h = by_sign l.negated refl
  where
    hint : hint_in (decimal l.var) ≡ Some l.var
    hint = (hint_exact (decimal l.var) l.var).1 (refl, h)

    by_sign : (n : Bool) → l.negated ≡ n → literal_in (if n then 45 ∷ decimal l.var else decimal l.var) ≡ Some l
    by_sign true e =
        if_true (nat_eq 45 45) (option_map (λ x. opposite (plain x)) (hint_in (decimal l.var))) (option_map plain (hint_in (45 ∷ decimal l.var))) (eq-eqb 45 45 refl)
        ∙ ap (option_map (λ x. opposite (plain x))) hint ∙ ap (λ k. Some k) (sym (negative_is l l.var e refl))
    by_sign false e =
        of_digits (decimal l.var) (number_word l.var h.1).some (number_free 45 (inl (omega arith)) l.var h.1) ∙ ap (option_map plain) hint ∙ ap (λ k. Some k) (sym (positive_is l l.var e refl))

literal_exact : (w : Line) (l : Literal) → (literal_in w ≡ Some l ↔ ((w ≡ literal_text l) × IsLiteral l))
literal_exact w l = (to w, (λ h. ap literal_in h.0 ∙ literal_read l h.1))
  where
    mapped : {A B : Type 0} (f : A → B) (o : Option A) (y : B) → option_map f o ≡ Some y → (x : A) × (o ≡ Some x) × (f x ≡ y)
    mapped f None y e = absurd (never y e)
    mapped f (Some x) y e = (x, refl, some_same (f x) y e)

    to : (w : Line) → literal_in w ≡ Some l → (w ≡ literal_text l) × IsLiteral l
    to [] e = absurd (never l e)
    to (b ∷ bs) e = by_branch (chosen (nat_eq b 45) (option_map (λ x. opposite (plain x)) (hint_in bs)) (option_map plain (hint_in (b ∷ bs))) (Some l) e)
      where
        two : (x y : ℕ) (xs ys : List ℕ) → x ≡ y → xs ≡ ys → (x ∷ xs) ≡ (y ∷ ys)
        two x y xs ys e f = cc

        by_branch : ((nat_eq b 45 ≡ true) × (option_map (λ x. opposite (plain x)) (hint_in bs) ≡ Some l)) ⊎ ((nat_eq b 45 ≡ false) × (option_map plain (hint_in (b ∷ bs)) ≡ Some l)) → ((b ∷ bs) ≡ literal_text l) × IsLiteral l
        by_branch (inl t) =
            let m : (n : ℕ) × (hint_in bs ≡ Some n) × (opposite (plain n) ≡ l) = mapped (λ x. opposite (plain x)) (hint_in bs) l t.1 in
            let hint : (bs ≡ decimal m.0) × IsHint m.0 = (hint_exact bs m.0).0 m.1 in
            (two b 45 bs (decimal m.0) (eqb-true b 45 t.0) hint.0 ∙ ap literal_text m.2, subst IsLiteral m.2 hint.1)
        by_branch (inr t) =
            let m : (n : ℕ) × (hint_in (b ∷ bs) ≡ Some n) × (plain n ≡ l) = mapped plain (hint_in (b ∷ bs)) l t.1 in
            let hint : ((b ∷ bs) ≡ decimal m.0) × IsHint m.0 = (hint_exact (b ∷ bs) m.0).0 m.1 in
            (hint.0 ∙ ap literal_text m.2, subst IsLiteral m.2 hint.1)

pub clauses_exact : ClausesAreExact
clauses_exact line clause =
    line_exact (codes "clause") (each_in literal_in) (map literal_text) (AllByRecursion IsLiteral) (free_by_test 32 (codes "clause") refl)
    (λ ls h. all_texts literal_text IsLiteral (IsFree 32) (λ l k. (literal_word l k).free) ls h)
    (each_exact literal_in literal_text IsLiteral literal_exact) line clause

-- Steps.
abbrev Parts : Type 0
Parts = List Line × List Line

abbrev some_parts : List Line → List Line → Option Parts
some_parts a b = Some (a, b)

cut_from : (ws a b : List Line) → cut_at_colon ws ≡ some_parts a b → ws ≡ a ++ codes ":" ∷ b
cut_from [] a b e = absurd (never {A = List Line × List Line} (a, b) e)
cut_from (w ∷ ws) a b e = by_branch (chosen (same_text w (codes ":")) (some_parts [] ws) (before_first w (cut_at_colon ws)) (some_parts a b) e) (λ c d f. cut_from ws c d f)
  where
    two : (x y : Line) (xs ys : List Line) → x ≡ y → xs ≡ ys → (x ∷ xs) ≡ (y ∷ ys)
    two x y xs ys e f = cc

    by_rest : (o : Option (List Line × List Line)) → cut_at_colon ws ≡ o → before_first w o ≡ some_parts a b → ((c d : List Line) → cut_at_colon ws ≡ some_parts c d → ws ≡ c ++ codes ":" ∷ d) → (w ∷ ws) ≡ a ++ codes ":" ∷ b
    by_rest None h f more = absurd (never {A = List Line × List Line} (a, b) f)
    by_rest (Some parts) h f more =
        let same : ◌≡◌ {A = List Line × List Line} (w ∷ parts.0, parts.1) (a, b) = some_same {A = List Line × List Line} (w ∷ parts.0, parts.1) (a, b) f in
        ap (λ zs. w ∷ zs) (more parts.0 parts.1 h) ∙ ap (λ (t : List Line × List Line). t.0 ++ codes ":" ∷ t.1) same

    by_branch : ((same_text w (codes ":") ≡ true) × (some_parts [] ws ≡ some_parts a b)) ⊎ ((same_text w (codes ":") ≡ false) × (before_first w (cut_at_colon ws) ≡ some_parts a b)) →
        ((c d : List Line) → cut_at_colon ws ≡ some_parts c d → ws ≡ c ++ codes ":" ∷ d) → (w ∷ ws) ≡ a ++ codes ":" ∷ b
    by_branch (inl t) more =
        let same : ◌≡◌ {A = List Line × List Line} ([], ws) (a, b) = some_same {A = List Line × List Line} ([], ws) (a, b) t.1 in
        two w (codes ":") ws ws (same_text_equal w (codes ":") t.0) refl ∙ ap (λ (u : List Line × List Line). u.0 ++ codes ":" ∷ u.1) same
    by_branch (inr t) more = by_rest (cut_at_colon ws) refl t.1 more

cut_joined : (a b : List Line) → AllByRecursion (λ x. x ≡ codes ":" → ⊥) a → cut_at_colon (a ++ codes ":" ∷ b) ≡ some_parts a b
cut_joined [] b f = if_true (same_text (codes ":") (codes ":")) (some_parts [] b) (before_first (codes ":") (cut_at_colon b)) (same_text_refl (codes ":"))
cut_joined (w ∷ a) b f =
    if_false (same_text w (codes ":")) (some_parts [] (a ++ codes ":" ∷ b)) (before_first w (cut_at_colon (a ++ codes ":" ∷ b))) (not_same w (codes ":") f.0) ∙ ap (before_first w) (cut_joined a b f.1)

pub no_colon : (l : Literal) → IsLiteral l → literal_text l ≡ codes ":" → ⊥
no_colon l h e = no_separator 58 (literal_text l) [] [] (literal_free 58 (inr (omega arith)) l h) e

step_words_exact : (ws : List Line) (s : Step) → (step_of_words ws ≡ Some s ↔ ((ws ≡ map literal_text s.clause ++ codes ":" ∷ map decimal s.hints) × IsWritableStep s))
step_words_exact ws s = (to (cut_at_colon ws) refl, back)
  where
    of_both : (o : Option (List Literal)) (p : Option (List ℕ)) → step_of o p ≡ Some s → (o ≡ Some s.clause) × (p ≡ Some s.hints)
    of_both None p e = absurd (never s e)
    of_both (Some c) None e = absurd (never s e)
    of_both (Some c) (Some h) e =
        let same : ◌≡◌ {A = Step} (record { clause = c; hints = h }) s = some_same {A = Step} (record { clause = c; hints = h }) s e in
        (ap (λ (r : Step). Some r.clause) same, ap (λ (r : Step). Some r.hints) same)

    to : (o : Option (List Line × List Line)) → cut_at_colon ws ≡ o → step_of_parts o ≡ Some s → (ws ≡ map literal_text s.clause ++ codes ":" ∷ map decimal s.hints) × IsWritableStep s
    to None h e = absurd (never s e)
    to (Some parts) h e =
        let both : (each_in literal_in parts.0 ≡ Some s.clause) × (each_in hint_in parts.1 ≡ Some s.hints) = of_both (each_in literal_in parts.0) (each_in hint_in parts.1) e in
        let clause : (parts.0 ≡ map literal_text s.clause) × AllByRecursion IsLiteral s.clause = (each_exact literal_in literal_text IsLiteral literal_exact parts.0 s.clause).0 both.0 in
        let hints : (parts.1 ≡ map decimal s.hints) × AllByRecursion IsHint s.hints = (each_exact hint_in decimal IsHint hint_exact parts.1 s.hints).0 both.1 in
        (cut_from ws parts.0 parts.1 h ∙ ap (λ a. a ++ codes ":" ∷ parts.1) clause.0 ∙ ap (λ b. map literal_text s.clause ++ codes ":" ∷ b) hints.0, record { clause = clause.1; hints = hints.1 })

    back : (ws ≡ map literal_text s.clause ++ codes ":" ∷ map decimal s.hints) × IsWritableStep s → step_of_words ws ≡ Some s
    back h =
        let cut : cut_at_colon ws ≡ some_parts (map literal_text s.clause) (map decimal s.hints) =
        ap cut_at_colon h.0 ∙ cut_joined (map literal_text s.clause) (map decimal s.hints) (all_texts literal_text IsLiteral (λ x. x ≡ codes ":" → ⊥) no_colon s.clause h.1.clause) in
        ap step_of_parts cut
        ∙ ap (λ o. step_of o (each_in hint_in (map decimal s.hints))) ((each_exact literal_in literal_text IsLiteral literal_exact (map literal_text s.clause) s.clause).1 (refl, h.1.clause))
        ∙ ap (step_of (Some s.clause)) ((each_exact hint_in decimal IsHint hint_exact (map decimal s.hints) s.hints).1 (refl, h.1.hints))

pub steps_exact : StepsAreExact
steps_exact line s =
    line_exact (codes "step") step_of_words (λ t. map literal_text t.clause ++ codes ":" ∷ map decimal t.hints) IsWritableStep (free_by_test 32 (codes "step") refl)
    (λ t h. all_joined (IsFree 32) (map literal_text t.clause) (codes ":" ∷ map decimal t.hints) (all_texts literal_text IsLiteral (IsFree 32) (λ l k. (literal_word l k).free) t.clause h.clause)
    (free_by_test 32 (codes ":") refl, all_texts decimal IsHint (IsFree 32) (λ n k. (number_word n k.1).free) t.hints h.hints))
    step_words_exact line s
