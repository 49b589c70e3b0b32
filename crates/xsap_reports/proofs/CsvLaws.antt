-- What is read back from a table of sets is these sets.
use Rattle.std.proofs.Common.{◌≡◌, ℕ, zero, suc, ◌-◌, ◌/◌, ◌%◌, ◌+◌, ◌<◌, ◌≤◌, Bool, true, false, List, [], ◌∷◌, ◌++◌, length, refl, sym, ◌∙◌, ap, arith}
use Rattle.std.specs.Borrow.{Bor}
use Rattle.std.specs.Prelude.{cond, if◌then◌else◌, nat_eq, nat_lt, ◌==◌, ◌||◌, ◌&&◌, map, slice_get, All}
use Rattle.std.proofs.lemmas.Bool.{eqb-true, ltb-true, false_from_ne_true, and_parts, or_parts}
use Rattle.std.specs.List.{list_any, list_all, AllByRecursion}
use Rattle.std.specs.Fmt.{decimal, digits, digits_onto, digit_glyph}
use Rattle.std.proofs.lemmas.List.{append_assoc, append-nil}
use Rattle.std.proofs.lemmas.List.Elements.{recursion_from_All}
use Rattle.xsap_reports.specs.Csv.{is_special, quoted_byte, quoted, field, spaced, joined, row, rows, csv_text, outside, inside, closing, records_from, records, word_before, words_from, third_words, sets_read}
use Rattle.xsap_reports.specs.Reports.{is_plain, is_word, IsListed, name_at, name_or_none, names_in, set_names, HasNames}
use Rattle.xsap_reports.specs.declared.report.Report.{Report}

pub or_false : (a b : Bool) → a ≡ false → b ≡ false → (a || b) ≡ false
or_false true b e f = e
or_false false b e f = f

-- digits are not special

pub apart : (c k : ℕ) → k < c → nat_eq c k ≡ false
apart c k less = false_from_ne_true (nat_eq c k) (λ e. let same : c ≡ k = eqb-true c k e in omega (arith, less, same))

above : (c : ℕ) → 44 < c → is_special c ≡ false
above c high =
    or_false (nat_eq c 34) (nat_eq c 44 || (nat_eq c 10 || nat_eq c 13)) (apart c 34 (omega (arith, high)))
    (or_false (nat_eq c 44) (nat_eq c 10 || nat_eq c 13) (apart c 44 high)
    (or_false (nat_eq c 10) (nat_eq c 13) (apart c 10 (omega (arith, high))) (apart c 13 (omega (arith, high)))))

glyph_by : (t : Bool) (d : ℕ) → 44 < (if t then 48 + d else 87 + d)
glyph_by true d = omega arith
glyph_by false d = omega arith

either_lacks : (special : ℕ → Bool) (t : Bool) (xs ys : List ℕ) → list_any special xs ≡ false → list_any special ys ≡ false → list_any special (if t then xs else ys) ≡ false
either_lacks special true xs ys e f = e
either_lacks special false xs ys e f = f

digits_lack : (special : ℕ → Bool) → ((c : ℕ) → 44 < c → special c ≡ false) → (k n : ℕ) (acc : List ℕ) → list_any special acc ≡ false → list_any special (digits_onto k 10 false n acc) ≡ false
digits_lack special lacks zero n acc h = h
digits_lack special lacks (suc k) n acc h =
    let d : ℕ = digit_glyph false (n % 10) in
    let here : list_any special (d ∷ acc) ≡ false = or_false (special d) (list_any special acc) (lacks d (glyph_by (nat_lt (n % 10) 10) (n % 10))) h in
    either_lacks special (n / 10 == 0) (d ∷ acc) (digits_onto k 10 false (n / 10) (d ∷ acc)) here (digits_lack special lacks k (n / 10) (d ∷ acc) here)

-- a number has no byte that is special, where each special one is at most 44
pub decimal_lacks : (special : ℕ → Bool) → ((c : ℕ) → 44 < c → special c ≡ false) → (n : ℕ) → list_any special (decimal n) ≡ false
unfolding digits
decimal_lacks special lacks n = digits_lack special lacks 64 n [] refl

decimal_plain : (n : ℕ) → list_any is_special (decimal n) ≡ false
decimal_plain n = decimal_lacks is_special above n

-- fields

plain_by : {X : Type 0} (p q r s : Bool) (A B C D : X) → (p || (q || (r || s))) ≡ false → cond p A (cond q B (cond r C D)) ≡ D
plain_by true q r s A B C D e = cc
plain_by false true r s A B C D e = cc
plain_by false false true s A B C D e = cc
plain_by false false false s A B C D e = refl

plain_byte : (b : ℕ) (f : List ℕ) (fs : List (List ℕ)) (rest : List ℕ) → is_special b ≡ false → records_from outside f fs (b ∷ rest) ≡ records_from outside (f ++ b ∷ []) fs rest
plain_byte b f fs rest h =
    plain_by (nat_eq b 34) (nat_eq b 44) (nat_eq b 10) (nat_eq b 13) (records_from inside f fs rest) (records_from outside [] (fs ++ f ∷ []) rest)
    ((fs ++ f ∷ []) ∷ records_from outside [] [] rest) (records_from outside (f ++ b ∷ []) fs rest) h

plain_run : (x f : List ℕ) (fs : List (List ℕ)) (rest : List ℕ) → list_any is_special x ≡ false → records_from outside f fs (x ++ rest) ≡ records_from outside (f ++ x) fs rest
plain_run [] f fs rest h = ap (λ g. records_from outside g fs rest) (sym (append-nil f))
plain_run (b ∷ x) f fs rest h =
    plain_byte b f fs (x ++ rest) (or_parts (is_special b) (list_any is_special x) h).0
    ∙ (plain_run x (f ++ b ∷ []) fs rest (or_parts (is_special b) (list_any is_special x) h).1
    ∙ ap (λ g. records_from outside g fs rest) (append_assoc f (b ∷ []) x))

quote_is : (b : ℕ) → nat_eq b 34 ≡ true → 34 ≡ b
quote_is b e = sym (eqb-true b 34 e)

byte_by : (t : Bool) (b : ℕ) (f : List ℕ) (fs : List (List ℕ)) (rest : List ℕ) → nat_eq b 34 ≡ t →
    records_from inside f fs (cond t (34 ∷ 34 ∷ []) (b ∷ []) ++ rest) ≡ records_from inside (f ++ b ∷ []) fs rest
byte_by true b f fs rest e = ap (λ c. records_from inside (f ++ c ∷ []) fs rest) (quote_is b e)
byte_by false b f fs rest e = ap (λ t. cond t (records_from closing f fs rest) (records_from inside (f ++ b ∷ []) fs rest)) e

quoted_run : (x f : List ℕ) (fs : List (List ℕ)) (rest : List ℕ) → records_from inside f fs (quoted x ++ rest) ≡ records_from inside (f ++ x) fs rest
quoted_run [] f fs rest = ap (λ g. records_from inside g fs rest) (sym (append-nil f))
quoted_run (b ∷ x) f fs rest =
    ap (λ s. records_from inside f fs s) (append_assoc (quoted_byte b) (quoted x) rest)
    ∙ (byte_by (nat_eq b 34) b f fs (quoted x ++ rest) refl
    ∙ (quoted_run x (f ++ b ∷ []) fs rest
    ∙ ap (λ g. records_from inside g fs rest) (append_assoc f (b ∷ []) x)))

field_by : (t : Bool) (x : List ℕ) (fs : List (List ℕ)) (rest : List ℕ) → list_any is_special x ≡ t →
    records_from outside [] fs (cond t (34 ∷ (quoted x ++ 34 ∷ [])) x ++ 10 ∷ rest) ≡ (fs ++ x ∷ []) ∷ records_from outside [] [] rest
field_by true x fs rest e =
    ap (λ s. records_from inside [] fs s) (append_assoc (quoted x) (34 ∷ []) (10 ∷ rest)) ∙ quoted_run x [] fs (34 ∷ 10 ∷ rest)
field_by false x fs rest e = plain_run x [] fs (10 ∷ rest) e

number_field : (n : ℕ) (fs : List (List ℕ)) (rest : List ℕ) → records_from outside [] fs (decimal n ++ 44 ∷ rest) ≡ records_from outside [] (fs ++ decimal n ∷ []) rest
number_field n fs rest = plain_run (decimal n) [] fs (44 ∷ rest) (decimal_plain n)

row_read : (n : ℕ) (names : List (List ℕ)) (rest : List ℕ) →
    records (row n names ++ rest) ≡ (decimal n ∷ decimal (length names) ∷ joined names ∷ []) ∷ records rest
row_read n names rest =
    let last : List ℕ = field (joined names) ++ 10 ∷ [] in
    let size : List ℕ = decimal (length names) ++ 44 ∷ last in
    ap (λ s. records_from outside [] [] s) (append_assoc (decimal n) (44 ∷ size) rest)
    ∙ (number_field n [] (size ++ rest)
    ∙ (ap (λ s. records_from outside [] (decimal n ∷ []) s) (append_assoc (decimal (length names)) (44 ∷ last) rest)
    ∙ (number_field (length names) (decimal n ∷ []) (last ++ rest)
    ∙ (ap (λ s. records_from outside [] (decimal n ∷ decimal (length names) ∷ []) s) (append_assoc (field (joined names)) (10 ∷ []) rest)
    ∙ field_by (list_any is_special (joined names)) (joined names) (decimal n ∷ decimal (length names) ∷ []) rest refl))))

-- words

not_space : (b : ℕ) → is_plain b ≡ true → nat_eq b 32 ≡ false
not_space b h = apart b 32 (ltb-true 32 b (and_parts (nat_lt 32 b) (nat_lt b 127) h).0)

word_run : (n w rest : List ℕ) → list_all is_plain n ≡ true → words_from w (n ++ rest) ≡ words_from (w ++ n) rest
word_run [] w rest h = ap (λ v. words_from v rest) (sym (append-nil w))
word_run (b ∷ n) w rest h =
    byte_is (nat_eq b 32) (not_space b (and_parts (is_plain b) (list_all is_plain n) h).0)
    ∙ (word_run n (w ++ b ∷ []) rest (and_parts (is_plain b) (list_all is_plain n) h).1
    ∙ ap (λ v. words_from v rest) (append_assoc w (b ∷ []) n))
  where
    byte_is : (t : Bool) → t ≡ false → cond t (word_before w (words_from [] (n ++ rest))) (words_from (w ++ b ∷ []) (n ++ rest)) ≡ words_from (w ++ b ∷ []) (n ++ rest)
    byte_is true e = cc
    byte_is false e = refl

word_first : (n : List ℕ) (more : List (List ℕ)) → is_word n ≡ true → word_before n more ≡ n ∷ more
word_first [] more h = cc
word_first (b ∷ n) more h = refl

pub all_plain : (n : List ℕ) → is_word n ≡ true → list_all is_plain n ≡ true
all_plain [] h = refl
all_plain (b ∷ n) h = h

words_spaced : (n : List ℕ) (ns : List (List ℕ)) → is_word n ≡ true → list_all is_word ns ≡ true → words_from [] (n ++ spaced ns) ≡ n ∷ ns
words_spaced n [] h g = word_run n [] [] (all_plain n h) ∙ word_first n [] h
words_spaced n (m ∷ ms) h g =
    word_run n [] (spaced (m ∷ ms)) (all_plain n h)
    ∙ (word_first n (words_from [] (m ++ spaced ms)) h
    ∙ ap (λ ws. n ∷ ws) (words_spaced m ms (and_parts (is_word m) (list_all is_word ms) g).0 (and_parts (is_word m) (list_all is_word ms) g).1))

words_joined : (ns : List (List ℕ)) → list_all is_word ns ≡ true → words_from [] (joined ns) ≡ ns
words_joined [] h = refl
words_joined (n ∷ ns) h = words_spaced n ns (and_parts (is_word n) (list_all is_word ns) h).0 (and_parts (is_word n) (list_all is_word ns) h).1

-- tables

rows_back : (n : ℕ) (sets : List (List (List ℕ))) → AllByRecursion (λ set. list_all is_word set ≡ true) sets → map third_words (records (rows n sets)) ≡ sets
rows_back n [] h = refl
rows_back n (s ∷ ss) h =
    ap (λ rs. map third_words rs) (row_read n s (rows (suc n) ss))
    ∙ (ap (λ ws. ws ∷ map third_words (records (rows (suc n) ss))) (words_joined s h.0)
    ∙ ap (λ ws. s ∷ ws) (rows_back (suc n) ss h.1))

sets_back : (sets : List (List (List ℕ))) → AllByRecursion (λ set. list_all is_word set ≡ true) sets → sets_read (csv_text sets) ≡ sets
sets_back sets h = rows_back 1 sets h

word_at : (names : List (Bor (List ℕ))) (k : ℕ) → AllByRecursion (λ name. is_word name.now ≡ true) names → k < length names → is_word (name_or_none (slice_get names k)) ≡ true
word_at [] k a l = let none : ⊥ = omega (arith, l) in absurd none
word_at (n ∷ ns) zero a l = a.0
word_at (n ∷ ns) (suc k) a l = word_at ns k a.1 (omega arith)

words_in : (names : List (Bor (List ℕ))) (numbers : List ℕ) → AllByRecursion (λ name. is_word name.now ≡ true) names → AllByRecursion (IsListed (length names)) numbers →
    list_all is_word (names_in names numbers) ≡ true
words_in names [] a l = refl
words_in names (k ∷ ks) a l =
    both (is_word (name_at names k)) (list_all is_word (names_in names ks)) (word_at names (k - 1) a (place k (length names) l.0.0 l.0.1)) (words_in names ks a l.1)
  where
    both : (p q : Bool) → p ≡ true → q ≡ true → (p && q) ≡ true
    both true q e f = f
    both false q e f = e

    place : (n many : ℕ) → 0 < n → n ≤ many → n - 1 < many
    place n many low high = omega arith

pub sets_named : {X : Type 0} (sets : List X) (items : X → List ℕ) (names : List (Bor (List ℕ))) → AllByRecursion (λ name. is_word name.now ≡ true) names →
    AllByRecursion (λ set. All (IsListed (length names)) (items set)) sets → AllByRecursion (λ set. list_all is_word set ≡ true) (map (λ set. names_in names (items set)) sets)
sets_named [] items names a l = tt
sets_named (s ∷ ss) items names a l = (words_in names (items s) a (recursion_from_All (IsListed (length names)) (items s) l.0), sets_named ss items names a l.1)

pub csv_back : (report : Report) → HasNames report → sets_read (csv_text (set_names report)) ≡ set_names report
csv_back report named =
    sets_back (set_names report)
    (sets_named report.sets.items (λ set. set.items) report.faults.items
    (recursion_from_All (λ name. is_word name.now ≡ true) report.faults.items named.0)
    (recursion_from_All (λ set. All (IsListed (length report.faults.items)) set.items) report.sets.items named.1))

pub same : (b k : ℕ) → nat_eq b k ≡ true → k ≡ b
same b k e = sym (eqb-true b k e)
