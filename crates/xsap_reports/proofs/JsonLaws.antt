-- What stands under `sets` in a report's JSON are its sets.
use Rattle.std.proofs.Common.{◌≡◌, ℕ, zero, suc, ◌/◌, ◌%◌, ◌+◌, ◌<◌, Bool, true, false, List, [], ◌∷◌, ◌++◌, length, refl, sym, ◌∙◌, ap, arith, codes}
use Rattle.std.specs.Prelude.{cond, if◌then◌else◌, nat_eq, nat_lt, ◌==◌, ◌||◌, ◌&&◌, map, All}
use Rattle.std.proofs.lemmas.Bool.{eqb-true, lt-ltb, false_from_ne_true, and_parts, or_parts}
use Rattle.std.specs.List.{list_any, list_all, AllByRecursion}
use Rattle.std.specs.Fmt.{decimal, digits, digits_onto, digit_glyph}
use Rattle.std.proofs.lemmas.List.{append_assoc, append-nil}
use Rattle.std.proofs.lemmas.List.Elements.{recursion_from_All}
use Rattle.xsap_reports.proofs.CsvLaws.{or_false, all_plain, sets_named, same}
use Rattle.xsap_reports.specs.Json.{Token, sign, string, plain, is_sign, between, within, inside, behind, tokens_from, tokens, items_from, characters, names_of, sets_in_json}
use Rattle.xsap_reports.specs.JsonText.{escaped_byte, escaped, quoted_string, more_strings, strings, more_numbers, numbers, set_object, behind_commas, with_commas, json_text}
use Rattle.xsap_reports.specs.Reports.{is_plain, is_word, IsListed, names_in, set_names, HasNames}
use Rattle.xsap_reports.specs.declared.report.Report.{Report}
use Rattle.xsap_reports.specs.Blanks.{is_blank}

-- strings

step_by : (p q r : Bool) (b : ℕ) (t rest numbered : List ℕ) → nat_eq b 34 ≡ p → nat_eq b 92 ≡ q → r ≡ true →
    tokens_from inside t (cond p (92 ∷ 34 ∷ []) (cond q (92 ∷ 92 ∷ []) (cond r (b ∷ []) numbered)) ++ rest) ≡ tokens_from inside (t ++ b ∷ []) rest
step_by true q r b t rest numbered e f g = ap (λ c. tokens_from inside (t ++ c ∷ []) rest) (same b 34 e)
step_by false true r b t rest numbered e f g = ap (λ c. tokens_from inside (t ++ c ∷ []) rest) (same b 92 f)
step_by false false true b t rest numbered e f g =
    ap (λ p. cond p (string t ∷ tokens_from between [] rest) (cond (nat_eq b 92) (tokens_from behind t rest) (tokens_from inside (t ++ b ∷ []) rest))) e
    ∙ ap (λ q. cond q (tokens_from behind t rest) (tokens_from inside (t ++ b ∷ []) rest)) f
step_by false false false b t rest numbered e f g = cc

string_run : (x t rest : List ℕ) → list_all is_plain x ≡ true → tokens_from inside t (escaped x ++ 34 ∷ rest) ≡ string (t ++ x) ∷ tokens rest
string_run [] t rest h = ap (λ s. string s ∷ tokens rest) (sym (append-nil t))
string_run (b ∷ x) t rest h =
    ap (λ s. tokens_from inside t s) (append_assoc (escaped_byte b) (escaped x) (34 ∷ rest))
    ∙ (step_by (nat_eq b 34) (nat_eq b 92) (is_plain b) b t (escaped x ++ 34 ∷ rest) _ refl refl (and_parts (is_plain b) (list_all is_plain x) h).0
    ∙ (string_run x (t ++ b ∷ []) rest (and_parts (is_plain b) (list_all is_plain x) h).1
    ∙ ap (λ s. string s ∷ tokens rest) (append_assoc t (b ∷ []) x)))

quoted_lexed : (x rest : List ℕ) → is_word x ≡ true → tokens (quoted_string x ++ rest) ≡ string x ∷ tokens rest
quoted_lexed x rest h = ap (λ s. tokens_from inside [] s) (append_assoc (escaped x) (34 ∷ []) rest) ∙ string_run x [] rest (all_plain x h)

abbrev more_string_tokens : List (List ℕ) → List Token
more_string_tokens [] = []
more_string_tokens (n ∷ ns) = sign 44 ∷ string n ∷ more_string_tokens ns

abbrev string_tokens : List (List ℕ) → List Token
string_tokens [] = []
string_tokens (n ∷ ns) = string n ∷ more_string_tokens ns

more_strings_lexed : (ns : List (List ℕ)) (rest : List ℕ) → list_all is_word ns ≡ true → tokens (more_strings ns ++ rest) ≡ more_string_tokens ns ++ tokens rest
more_strings_lexed [] rest h = refl
more_strings_lexed (n ∷ ns) rest h =
    ap (λ s. sign 44 ∷ tokens s) (append_assoc (quoted_string n) (more_strings ns) rest)
    ∙ (ap (λ ts. sign 44 ∷ ts) (quoted_lexed n (more_strings ns ++ rest) (and_parts (is_word n) (list_all is_word ns) h).0)
    ∙ ap (λ ts. sign 44 ∷ string n ∷ ts) (more_strings_lexed ns rest (and_parts (is_word n) (list_all is_word ns) h).1))

strings_lexed : (ns : List (List ℕ)) (rest : List ℕ) → list_all is_word ns ≡ true → tokens (strings ns ++ rest) ≡ string_tokens ns ++ tokens rest
strings_lexed [] rest h = refl
strings_lexed (n ∷ ns) rest h =
    ap (λ s. tokens s) (append_assoc (quoted_string n) (more_strings ns) rest)
    ∙ (quoted_lexed n (more_strings ns ++ rest) (and_parts (is_word n) (list_all is_word ns) h).0
    ∙ ap (λ ts. string n ∷ ts) (more_strings_lexed ns rest (and_parts (is_word n) (list_all is_word ns) h).1))

-- numbers

abbrev ends : ℕ → Bool
ends b = nat_eq b 34 || (is_blank b || is_sign b)

low : (c k : ℕ) → 47 < c → k < 48 → nat_eq c k ≡ false
low c k l m = false_from_ne_true (nat_eq c k) (λ e. let s : c ≡ k = eqb-true c k e in omega (arith, l, m, s))

high : (c k : ℕ) → c < 58 → 57 < k → nat_eq c k ≡ false
high c k l m = false_from_ne_true (nat_eq c k) (λ e. let s : c ≡ k = eqb-true c k e in omega (arith, l, m, s))

digit_inside : (c : ℕ) → 47 < c → c < 58 → ends c ≡ false
digit_inside c l m =
    or_false _ _ (low c 34 l (omega arith))
    (or_false _ _
    (or_false _ _ (low c 32 l (omega arith)) (or_false _ _ (low c 9 l (omega arith)) (or_false _ _ (low c 10 l (omega arith)) (low c 13 l (omega arith)))))
    (or_false _ _ (or_false _ _ (high c 123 m (omega arith)) (high c 91 m (omega arith)))
    (or_false _ _ (or_false _ _ (high c 125 m (omega arith)) (high c 93 m (omega arith)))
    (or_false _ _ (low c 44 l (omega arith)) (high c 58 m (omega arith))))))

glyph_inside : (t : Bool) (d : ℕ) → d < 10 → nat_lt d 10 ≡ t → ends (if t then 48 + d else 87 + d) ≡ false
glyph_inside true d l e = digit_inside (48 + d) (omega arith) (omega (arith, l))
glyph_inside false d l e = let yes : nat_lt d 10 ≡ true = lt-ltb d 10 l in cc

either_of : (P : List ℕ → Type 0) (t : Bool) (xs ys : List ℕ) → P xs → P ys → P (if t then xs else ys)
either_of P true xs ys p q = p
either_of P false xs ys p q = q

abbrev IsNumber : List ℕ → Type 0
IsNumber [] = ⊥
IsNumber (b ∷ bs) = list_any ends (b ∷ bs) ≡ false

inside_of : (x : List ℕ) → IsNumber x → list_any ends x ≡ false
inside_of [] h = absurd h
inside_of (b ∷ x) h = h

digits_number : (k n : ℕ) (acc : List ℕ) → IsNumber acc → IsNumber (digits_onto k 10 false n acc)
digits_number zero n acc h = h
digits_number (suc k) n acc h =
    let d : ℕ = digit_glyph false (n % 10) in
    let here : IsNumber (d ∷ acc) = or_false (ends d) (list_any ends acc) (glyph_inside (nat_lt (n % 10) 10) (n % 10) (omega arith) refl) (inside_of acc h) in
    either_of IsNumber (n / 10 == 0) (d ∷ acc) (digits_onto k 10 false (n / 10) (d ∷ acc)) here (digits_number k (n / 10) (d ∷ acc) here)

decimal_number : (n : ℕ) → IsNumber (decimal n)
unfolding digits
decimal_number n =
    let d : ℕ = digit_glyph false (n % 10) in
    let here : IsNumber (d ∷ []) = or_false (ends d) false (glyph_inside (nat_lt (n % 10) 10) (n % 10) (omega arith) refl) refl in
    either_of IsNumber (n / 10 == 0) (d ∷ []) (digits_onto 63 10 false (n / 10) (d ∷ [])) here (digits_number 63 (n / 10) (d ∷ []) here)

pass_by : {X : Type 0} (p q r : Bool) (A B C D : X) → (p || (q || r)) ≡ false → cond p A (cond q B (cond r C D)) ≡ D
pass_by true q r A B C D e = cc
pass_by false true r A B C D e = cc
pass_by false false true A B C D e = cc
pass_by false false false A B C D e = refl

within_run : (x t rest : List ℕ) → list_any ends x ≡ false → tokens_from within t (x ++ rest) ≡ tokens_from within (t ++ x) rest
within_run [] t rest h = ap (λ s. tokens_from within s rest) (sym (append-nil t))
within_run (b ∷ x) t rest h =
    pass_by (nat_eq b 34) (is_blank b) (is_sign b) (plain t ∷ tokens_from inside [] (x ++ rest)) (plain t ∷ tokens (x ++ rest))
    (plain t ∷ sign b ∷ tokens (x ++ rest)) (tokens_from within (t ++ b ∷ []) (x ++ rest)) (or_parts (ends b) (list_any ends x) h).0
    ∙ (within_run x (t ++ b ∷ []) rest (or_parts (ends b) (list_any ends x) h).1
    ∙ ap (λ s. tokens_from within s rest) (append_assoc t (b ∷ []) x))

number_begun : (x rest : List ℕ) → IsNumber x → tokens (x ++ rest) ≡ tokens_from within x rest
number_begun [] rest h = absurd h
number_begun (b ∷ x) rest h =
    pass_by (nat_eq b 34) (is_blank b) (is_sign b) (tokens_from inside [] (x ++ rest)) (tokens (x ++ rest))
    (sign b ∷ tokens (x ++ rest)) (tokens_from within (b ∷ []) (x ++ rest)) (or_parts (ends b) (list_any ends x) h).0
    ∙ within_run x (b ∷ []) rest (or_parts (ends b) (list_any ends x) h).1

-- numbers before a comma or the end of a list

abbrev more_number_tokens : List ℕ → List Token
more_number_tokens [] = []
more_number_tokens (n ∷ ns) = sign 44 ∷ plain (decimal n) ∷ more_number_tokens ns

abbrev number_tokens : List ℕ → List Token
number_tokens [] = []
number_tokens (n ∷ ns) = plain (decimal n) ∷ more_number_tokens ns

within_ends : (ns rest t : List ℕ) → tokens_from within t (more_numbers ns ++ 93 ∷ rest) ≡ plain t ∷ tokens (more_numbers ns ++ 93 ∷ rest)
within_ends [] rest t = refl
within_ends (n ∷ ns) rest t = refl

more_numbers_lexed : (ns rest : List ℕ) → tokens (more_numbers ns ++ 93 ∷ rest) ≡ more_number_tokens ns ++ sign 93 ∷ tokens rest
more_numbers_lexed [] rest = refl
more_numbers_lexed (n ∷ ns) rest =
    ap (λ s. sign 44 ∷ tokens s) (append_assoc (decimal n) (more_numbers ns) (93 ∷ rest))
    ∙ (ap (λ ts. sign 44 ∷ ts) (number_begun (decimal n) (more_numbers ns ++ 93 ∷ rest) (decimal_number n) ∙ within_ends ns rest (decimal n))
    ∙ ap (λ ts. sign 44 ∷ plain (decimal n) ∷ ts) (more_numbers_lexed ns rest))

numbers_lexed : (ns rest : List ℕ) → tokens (numbers ns ++ 93 ∷ rest) ≡ number_tokens ns ++ sign 93 ∷ tokens rest
numbers_lexed [] rest = refl
numbers_lexed (n ∷ ns) rest =
    ap (λ s. tokens s) (append_assoc (decimal n) (more_numbers ns) (93 ∷ rest))
    ∙ (number_begun (decimal n) (more_numbers ns ++ 93 ∷ rest) (decimal_number n)
    ∙ (within_ends ns rest (decimal n) ∙ ap (λ ts. plain (decimal n) ∷ ts) (more_numbers_lexed ns rest)))

-- the object of a set

abbrev set_tokens : List (List ℕ) → List ℕ → List Token → List Token
set_tokens names ns tail =
    sign 123 ∷ string (codes "names") ∷ sign 58 ∷ sign 91
    ∷ (string_tokens names ++ sign 93 ∷ sign 44 ∷ string (codes "numbers") ∷ sign 58 ∷ sign 91 ∷ (number_tokens ns ++ sign 93 ∷ sign 125 ∷ tail))

set_lexed : (names : List (List ℕ)) (ns rest : List ℕ) → list_all is_word names ≡ true → tokens (set_object names ns ++ rest) ≡ set_tokens names ns (tokens rest)
unfolding set_object
set_lexed names ns rest h =
    let last : List ℕ = numbers ns ++ codes "]}" in
    let more : List ℕ = codes "],\"numbers\":[" ++ last in
    let first : List Token → List Token = λ ts. sign 123 ∷ string (codes "names") ∷ sign 58 ∷ sign 91 ∷ ts in
    let second : List Token → List Token = λ ts. string_tokens names ++ sign 93 ∷ sign 44 ∷ string (codes "numbers") ∷ sign 58 ∷ sign 91 ∷ ts in
    ap (λ s. first (tokens s)) (append_assoc (strings names) more rest)
    ∙ (ap first (strings_lexed names (more ++ rest) h)
    ∙ (ap (λ s. first (second (tokens s))) (append_assoc (numbers ns) (codes "]}") rest)
    ∙ ap (λ ts. first (second ts)) (numbers_lexed ns (125 ∷ rest))))

-- items of the list of sets

abbrev flat : List Token → Bool
flat [] = true
flat (string s ∷ ts) = flat ts
flat (plain w ∷ ts) = flat ts
flat (sign b ∷ ts) = nat_eq b 44 && flat ts

flat_run : (ts : List Token) (d : ℕ) (e rest : List Token) → flat ts ≡ true → items_from (suc d) e (ts ++ rest) ≡ items_from (suc d) (e ++ ts) rest
flat_run [] d e rest h = ap (λ x. items_from (suc d) x rest) (sym (append-nil e))
flat_run (string s ∷ ts) d e rest h = flat_run ts d (e ++ string s ∷ []) rest h ∙ ap (λ x. items_from (suc d) x rest) (append_assoc e (string s ∷ []) ts)
flat_run (plain w ∷ ts) d e rest h = flat_run ts d (e ++ plain w ∷ []) rest h ∙ ap (λ x. items_from (suc d) x rest) (append_assoc e (plain w ∷ []) ts)
flat_run (sign b ∷ ts) d e rest h =
    let comma : 44 ≡ b = same b 44 (and_parts (nat_eq b 44) (flat ts) h).0 in
    sym (ap (λ c. items_from (suc d) e (sign c ∷ (ts ++ rest))) comma)
    ∙ (ap (λ c. items_from (suc d) (e ++ sign c ∷ []) (ts ++ rest)) comma
    ∙ (flat_run ts d (e ++ sign b ∷ []) rest (and_parts (nat_eq b 44) (flat ts) h).1
    ∙ ap (λ x. items_from (suc d) x rest) (append_assoc e (sign b ∷ []) ts)))

more_strings_flat : (ns : List (List ℕ)) → flat (more_string_tokens ns) ≡ true
more_strings_flat [] = refl
more_strings_flat (n ∷ ns) = more_strings_flat ns

strings_flat : (ns : List (List ℕ)) → flat (string_tokens ns) ≡ true
strings_flat [] = refl
strings_flat (n ∷ ns) = more_strings_flat ns

more_numbers_flat : (ns : List ℕ) → flat (more_number_tokens ns) ≡ true
more_numbers_flat [] = refl
more_numbers_flat (n ∷ ns) = more_numbers_flat ns

numbers_flat : (ns : List ℕ) → flat (number_tokens ns) ≡ true
numbers_flat [] = refl
numbers_flat (n ∷ ns) = more_numbers_flat ns

set_item : (names : List (List ℕ)) (ns : List ℕ) (tail : List Token) → items_from 0 [] (set_tokens names ns tail) ≡ items_from 0 (set_tokens names ns []) tail
set_item names ns tail =
    let a : List Token = sign 123 ∷ string (codes "names") ∷ sign 58 ∷ sign 91 ∷ [] in
    let m : List Token = sign 93 ∷ sign 44 ∷ string (codes "numbers") ∷ sign 58 ∷ sign 91 ∷ [] in
    let z : List Token = sign 93 ∷ sign 125 ∷ [] in
    let last : List Token = number_tokens ns ++ sign 93 ∷ sign 125 ∷ tail in
    let here : List Token = (a ++ string_tokens names) ++ m in
    let first : items_from 0 [] (set_tokens names ns tail) ≡ items_from 2 (a ++ string_tokens names) (sign 93 ∷ sign 44 ∷ string (codes "numbers") ∷ sign 58 ∷ sign 91 ∷ last)
    = flat_run (string_tokens names) 1 a (sign 93 ∷ sign 44 ∷ string (codes "numbers") ∷ sign 58 ∷ sign 91 ∷ last) (strings_flat names) in
    let one : (x : List Token) → ((((x ++ sign 93 ∷ []) ++ sign 44 ∷ []) ++ string (codes "numbers") ∷ []) ++ sign 58 ∷ []) ++ sign 91 ∷ [] ≡ x ++ m
    = λ x. simp append_assoc refl in
    let two : (x : List Token) → (x ++ sign 93 ∷ []) ++ sign 125 ∷ [] ≡ x ++ z = λ x. simp append_assoc refl in
    first
    ∙ (ap (λ x. items_from 2 x last) (one (a ++ string_tokens names))
    ∙ (flat_run (number_tokens ns) 1 here (sign 93 ∷ sign 125 ∷ tail) (numbers_flat ns)
    ∙ (ap (λ x. items_from 0 x tail) (two (here ++ number_tokens ns))
    ∙ ap (λ x. items_from 0 x tail) (append_assoc here (number_tokens ns) z ∙ (append_assoc (a ++ string_tokens names) m (number_tokens ns ++ z) ∙ append_assoc a (string_tokens names) (m ++ (number_tokens ns ++ z)))))))

objects_read : {X : Type 0} (names : X → List (List ℕ)) (ns : X → List ℕ) (x : X) (xs : List X) (rest : List ℕ) → AllByRecursion (λ y. list_all is_word (names y) ≡ true) xs →
    items_from 0 (set_tokens (names x) (ns x) []) (tokens (behind_commas (map (λ y. set_object (names y) (ns y)) xs) ++ 93 ∷ rest))
    ≡ set_tokens (names x) (ns x) [] ∷ map (λ y. set_tokens (names y) (ns y) []) xs
objects_read names ns x [] rest h = refl
objects_read names ns x (y ∷ ys) rest h =
    let more : List ℕ = behind_commas (map (λ z. set_object (names z) (ns z)) ys) in
    ap (λ ts. set_tokens (names x) (ns x) [] ∷ ts)
    (ap (λ s. items_from 0 [] (tokens s)) (append_assoc (set_object (names y) (ns y)) more (93 ∷ rest))
    ∙ (ap (λ ts. items_from 0 [] ts) (set_lexed (names y) (ns y) (more ++ 93 ∷ rest) h.0)
    ∙ (set_item (names y) (ns y) (tokens (more ++ 93 ∷ rest))
    ∙ objects_read names ns y ys rest h.1)))

all_objects_read : {X : Type 0} (names : X → List (List ℕ)) (ns : X → List ℕ) (xs : List X) (rest : List ℕ) → AllByRecursion (λ y. list_all is_word (names y) ≡ true) xs →
    items_from 0 [] (tokens (with_commas (map (λ y. set_object (names y) (ns y)) xs) ++ 93 ∷ rest)) ≡ map (λ y. set_tokens (names y) (ns y) []) xs
all_objects_read names ns [] rest h = refl
all_objects_read names ns (y ∷ ys) rest h =
    let more : List ℕ = behind_commas (map (λ z. set_object (names z) (ns z)) ys) in
    ap (λ s. items_from 0 [] (tokens s)) (append_assoc (set_object (names y) (ns y)) more (93 ∷ rest))
    ∙ (ap (λ ts. items_from 0 [] ts) (set_lexed (names y) (ns y) (more ++ 93 ∷ rest) h.0)
    ∙ (set_item (names y) (ns y) (tokens (more ++ 93 ∷ rest))
    ∙ objects_read names ns y ys rest h.1))

-- names of an object

more_names_read : (n : List ℕ) (ns : List (List ℕ)) (tail : List Token) → map characters (items_from 0 (string n ∷ []) (more_string_tokens ns ++ sign 93 ∷ tail)) ≡ n ∷ ns
more_names_read n [] tail = refl
more_names_read n (m ∷ ms) tail = ap (λ xs. n ∷ xs) (more_names_read m ms tail)

names_read : (ns : List (List ℕ)) (tail : List Token) → map characters (items_from 0 [] (string_tokens ns ++ sign 93 ∷ tail)) ≡ ns
names_read [] tail = refl
names_read (n ∷ ns) tail = more_names_read n ns tail

all_names_read : {X : Type 0} (names : X → List (List ℕ)) (ns : X → List ℕ) (xs : List X) → map names_of (map (λ y. set_tokens (names y) (ns y) []) xs) ≡ map names xs
all_names_read names ns [] = refl
all_names_read names ns (x ∷ xs) =
    ap (λ n. n ∷ map names_of (map (λ y. set_tokens (names y) (ns y) []) xs)) (names_read (names x) _)
    ∙ ap (λ ts. names x ∷ ts) (all_names_read names ns xs)

unmapped : {X : Type 0} (names : X → List (List ℕ)) (xs : List X) → AllByRecursion (λ set. list_all is_word set ≡ true) (map names xs) → AllByRecursion (λ y. list_all is_word (names y) ≡ true) xs
unmapped names [] h = tt
unmapped names (x ∷ xs) h = (h.0, unmapped names xs h.1)

pub json_back : (report : Report) (rest : List ℕ) → HasNames report → sets_in_json (json_text report rest) ≡ set_names report
json_back report rest named =
    let words : AllByRecursion (λ set. list_all is_word set ≡ true) (map (λ set. names_in report.faults.items set.items) report.sets.items)
    = sets_named report.sets.items (λ set. set.items) report.faults.items
    (recursion_from_All (λ name. is_word name.now ≡ true) report.faults.items named.0)
    (recursion_from_All (λ set. All (IsListed (length report.faults.items)) set.items) report.sets.items named.1) in
    ap (λ ts. map names_of ts) (all_objects_read (λ set. names_in report.faults.items set.items) (λ set. set.items) report.sets.items rest (unmapped (λ set. names_in report.faults.items set.items) report.sets.items words))
    ∙ all_names_read (λ set. names_in report.faults.items set.items) (λ set. set.items) report.sets.items
