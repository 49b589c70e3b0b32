-- Lines are those of at most one certificate.
use Rattle.std.proofs.Common.{◌≡◌, ℕ, suc, ◌<◌, List, [], ◌∷◌, ◌++◌, length, map, Some, refl, sym, ◌∙◌, ap, subst, arith, codes, append_assoc}
use Rattle.std.proofs.lemmas.List.{length-map}
use Rattle.std.specs.Prelude.{slice_get}
use Rattle.std.specs.List.{AllByRecursion}
use Rattle.std.specs.Fmt.{decimal}
use Rattle.sat_clauses.specs.Literal.{Literal}
use Rattle.sat_clauses.specs.declared.step.Step.{Step}
use Rattle.cert_laws.specs.Certificate.{Certificate}
use Rattle.cut_text_laws.specs.Lines.{Line, counted}
use Rattle.cert_laws.specs.CertificateText.{Version, version_one, version_two, literal_text, version_line, numbers_line, set_line, set_lines, clause_line, step_line, part_lines, lines_of, IsSmall, IsCount, IsLiteral, IsHint, IsWritableStep, AreWritable, IsWritableText, IsWritable, CanSay}
use Rattle.cut_text_laws.proofs.Separators.{IsFree, same_front}
use Rattle.cert_laws.proofs.Words.{number_word, same_number, literal_word, same_literals, same_numbers}
use Rattle.cut_text_laws.proofs.Words.{free_by_test, IsWord, same_words, same_texts, all_texts}
use Rattle.cert_laws.proofs.LineReading.{no_colon as not_colon}
use Rattle.base_values.proofs.ListLaws.{all_more, all_joined}

small_counts : (n : ℕ) → IsSmall n → IsCount n
small_counts n h = omega (arith, h)

hint_counts : (n : ℕ) → IsHint n → IsCount n
hint_counts n h = h.1

word_by_test : (w : Line) → 0 < length w → IsFree 32 w → IsWord w
word_by_test w h f = record { some = h; free = f }

head_of : (x y : Line) (xs ys : List Line) → (x ∷ xs) ≡ (y ∷ ys) → x ≡ y
head_of x y xs ys e = cc

tail_of : (x y : Line) (xs ys : List Line) → (x ∷ xs) ≡ (y ∷ ys) → xs ≡ ys
tail_of x y xs ys e = cc

-- fronts of one length
same_prefix : {A : Type 0} (xs ys m n : List A) → length xs ≡ length ys → xs ++ m ≡ ys ++ n → (xs ≡ ys) × (m ≡ n)
same_prefix [] [] m n l e = (refl, e)
same_prefix [] (y ∷ ys) m n l e = absurd (omega (arith, l))
same_prefix (x ∷ xs) [] m n l e = absurd (omega (arith, l))
same_prefix {A = A} (x ∷ xs) (y ∷ ys) m n l e =
    let rest : (xs ≡ ys) × (m ≡ n) = same_prefix xs ys m n (omega (arith, l)) (tails x y (xs ++ m) (ys ++ n) e) in
    (both x y xs ys (heads x y (xs ++ m) (ys ++ n) e) rest.0, rest.1)
  where
    heads : (x y : A) (xs ys : List A) → (x ∷ xs) ≡ (y ∷ ys) → x ≡ y
    heads x y xs ys e = cc

    tails : (x y : A) (xs ys : List A) → (x ∷ xs) ≡ (y ∷ ys) → xs ≡ ys
    tails x y xs ys e = cc

    both : (x y : A) (xs ys : List A) → x ≡ y → xs ≡ ys → (x ∷ xs) ≡ (y ∷ ys)
    both x y xs ys e f = cc

-- Single lines.
same_count : (word : Line) → IsWord word → (n k : ℕ) → IsCount n → IsCount k → counted word n ≡ counted word k → n ≡ k
same_count word w n k h g e =
    same_number n k h g
    (second word (decimal n) (decimal k) (same_words (word ∷ decimal n ∷ []) (word ∷ decimal k ∷ []) (w, (number_word n h, tt)) (w, (number_word k g, tt)) e))
  where
    second : (w x y : Line) → (w ∷ x ∷ []) ≡ (w ∷ y ∷ []) → x ≡ y
    second w x y e = cc

same_set : (s t : List ℕ) → AllByRecursion IsSmall s → AllByRecursion IsSmall t → set_line s ≡ set_line t → s ≡ t
same_set s t f g e =
    same_numbers s t (counts s f) (counts t g)
    (tail_of (codes "set") (codes "set") (map decimal s) (map decimal t) (same_words (codes "set" ∷ map decimal s) (codes "set" ∷ map decimal t) (is_set, words s f) (is_set, words t g) e))
  where
    is_set : IsWord (codes "set")
    is_set = word_by_test (codes "set") (omega arith) (free_by_test 32 (codes "set") refl)

    counts : (s : List ℕ) → AllByRecursion IsSmall s → AllByRecursion IsCount s
    counts s f = all_more IsSmall IsCount small_counts s f

    words : (s : List ℕ) → AllByRecursion IsSmall s → AllByRecursion IsWord (map decimal s)
    words s f = all_texts decimal IsCount IsWord number_word s (counts s f)

same_clause_line : (c d : List Literal) → AllByRecursion IsLiteral c → AllByRecursion IsLiteral d → clause_line c ≡ clause_line d → c ≡ d
same_clause_line c d f g e =
    same_literals c d f g
    (tail_of (codes "clause") (codes "clause") (map literal_text c) (map literal_text d) (same_words (codes "clause" ∷ map literal_text c) (codes "clause" ∷ map literal_text d) (is_clause, words c f) (is_clause, words d g) e))
  where
    is_clause : IsWord (codes "clause")
    is_clause = word_by_test (codes "clause") (omega arith) (free_by_test 32 (codes "clause") refl)

    words : (c : List Literal) → AllByRecursion IsLiteral c → AllByRecursion IsWord (map literal_text c)
    words c f = all_texts literal_text IsLiteral IsWord literal_word c f

is_colon : IsWord (codes ":")
is_colon = word_by_test (codes ":") (omega arith) (free_by_test 32 (codes ":") refl)

same_step_line : (s t : Step) → IsWritableStep s → IsWritableStep t → step_line s ≡ step_line t → s ≡ t
same_step_line s t f g e =
    let words : (codes "step" ∷ (map literal_text s.clause ++ codes ":" ∷ map decimal s.hints)) ≡ (codes "step" ∷ (map literal_text t.clause ++ codes ":" ∷ map decimal t.hints)) =
    same_words (codes "step" ∷ (map literal_text s.clause ++ codes ":" ∷ map decimal s.hints)) (codes "step" ∷ (map literal_text t.clause ++ codes ":" ∷ map decimal t.hints))
    (is_step, all_words s f) (is_step, all_words t g) e in
    let parts : (map literal_text s.clause ≡ map literal_text t.clause) × (map decimal s.hints ≡ map decimal t.hints) =
    same_front (codes ":") (map literal_text s.clause) (map literal_text t.clause) (map decimal s.hints) (map decimal t.hints) (no_colons s f) (no_colons t g)
    (tail_of (codes "step") (codes "step") (map literal_text s.clause ++ codes ":" ∷ map decimal s.hints) (map literal_text t.clause ++ codes ":" ∷ map decimal t.hints) words) in
    one s.clause t.clause s.hints t.hints (same_literals s.clause t.clause f.clause g.clause parts.0)
    (same_numbers s.hints t.hints (all_more IsHint IsCount hint_counts s.hints f.hints) (all_more IsHint IsCount hint_counts t.hints g.hints) parts.1)
  where
    is_step : IsWord (codes "step")
    is_step = word_by_test (codes "step") (omega arith) (free_by_test 32 (codes "step") refl)

    no_colons : (s : Step) → IsWritableStep s → IsFree (codes ":") (map literal_text s.clause)
    no_colons s f = all_texts literal_text IsLiteral (λ x. x ≡ codes ":" → ⊥) not_colon s.clause f.clause

    all_words : (s : Step) → IsWritableStep s → AllByRecursion IsWord (map literal_text s.clause ++ codes ":" ∷ map decimal s.hints)
    all_words s f =
        all_joined IsWord (map literal_text s.clause) (codes ":" ∷ map decimal s.hints) (all_texts literal_text IsLiteral IsWord literal_word s.clause f.clause)
        (is_colon, all_texts decimal IsCount IsWord number_word s.hints (all_more IsHint IsCount hint_counts s.hints f.hints))

    one : (c d : List Literal) (h k : List ℕ) → c ≡ d → h ≡ k → (let r : Step = record { clause = c; hints = h } in r) ≡ (let r : Step = record { clause = d; hints = k } in r)
    one c d h k e f = rw (e, f) refl

-- Lists of lines.
same_sets : (ss : List (List ℕ)) (us : List (List Line)) (ts : List (List ℕ)) (vs : List (List Line)) (m n : List Line) → length us ≡ length ss → length vs ≡ length ts → length ss ≡ length ts →
    AllByRecursion (AllByRecursion IsSmall) ss → AllByRecursion (AllByRecursion IsSmall) ts → AllByRecursion IsWritableText us → AllByRecursion IsWritableText vs →
    set_lines ss us ++ m ≡ set_lines ts vs ++ n → (ss ≡ ts) × (us ≡ vs) × (m ≡ n)
same_sets [] [] [] [] m n p q r a b c d e = (refl, refl, e)
same_sets (s ∷ ss) (u ∷ us) (t ∷ ts) (v ∷ vs) m n p q r a b c d e =
    let first : set_line s ≡ set_line t = head_of (set_line s) (set_line t) (counted (codes "trace") (length u) ∷ ((u ++ set_lines ss us) ++ m)) (counted (codes "trace") (length v) ∷ ((v ++ set_lines ts vs) ++ n)) e in
    let more : (counted (codes "trace") (length u) ∷ ((u ++ set_lines ss us) ++ m)) ≡ (counted (codes "trace") (length v) ∷ ((v ++ set_lines ts vs) ++ n)) =
    tail_of (set_line s) (set_line t) (counted (codes "trace") (length u) ∷ ((u ++ set_lines ss us) ++ m)) (counted (codes "trace") (length v) ∷ ((v ++ set_lines ts vs) ++ n)) e in
    let long : length u ≡ length v = same_count (codes "trace") is_trace (length u) (length v) c.0.count d.0.count
    (head_of (counted (codes "trace") (length u)) (counted (codes "trace") (length v)) ((u ++ set_lines ss us) ++ m) ((v ++ set_lines ts vs) ++ n) more) in
    let texts : (u ≡ v) × (set_lines ss us ++ m ≡ set_lines ts vs ++ n) = same_prefix u v (set_lines ss us ++ m) (set_lines ts vs ++ n) long
    (sym (append_assoc u (set_lines ss us) m) ∙ tail_of (counted (codes "trace") (length u)) (counted (codes "trace") (length v)) ((u ++ set_lines ss us) ++ m) ((v ++ set_lines ts vs) ++ n) more
    ∙ append_assoc v (set_lines ts vs) n) in
    let rest : (ss ≡ ts) × (us ≡ vs) × (m ≡ n) = same_sets ss us ts vs m n (omega (arith, p)) (omega (arith, q)) (omega (arith, r)) a.1 b.1 c.1 d.1 texts.1 in
    (two s t ss ts (same_set s t a.0 b.0 first) rest.0, two u v us vs texts.0 rest.1, rest.2)
  where
    is_trace : IsWord (codes "trace")
    is_trace = word_by_test (codes "trace") (omega arith) (free_by_test 32 (codes "trace") refl)

    two : {A : Type 0} (x y : A) (xs ys : List A) → x ≡ y → xs ≡ ys → (x ∷ xs) ≡ (y ∷ ys)
    two x y xs ys e f = cc
same_sets ss us ts vs m n p q r a b c d e = absurd (omega (arith, p, q, r))

same_clauses : (cs ds : List (List Literal)) (m n : List Line) → length cs ≡ length ds → AllByRecursion (AllByRecursion IsLiteral) cs → AllByRecursion (AllByRecursion IsLiteral) ds →
    map clause_line cs ++ m ≡ map clause_line ds ++ n → (cs ≡ ds) × (m ≡ n)
same_clauses cs ds m n l f g e =
    let parts : (map clause_line cs ≡ map clause_line ds) × (m ≡ n) = same_prefix (map clause_line cs) (map clause_line ds) m n (length-map cs clause_line ∙ l ∙ sym (length-map ds clause_line)) e in
    (same_texts clause_line (AllByRecursion IsLiteral) same_clause_line cs ds f g parts.0, parts.1)

same_part : (word : Line) → IsWord word → (xs ys : List Step) (m n : List Line) → AreWritable xs → AreWritable ys → part_lines word xs ++ m ≡ part_lines word ys ++ n → (xs ≡ ys) × (m ≡ n)
same_part word w xs ys m n f g e =
    let long : length xs ≡ length ys = same_count word w (length xs) (length ys) f.count g.count
    (head_of (counted word (length xs)) (counted word (length ys)) (map step_line xs ++ m) (map step_line ys ++ n) e) in
    let parts : (map step_line xs ≡ map step_line ys) × (m ≡ n) = same_prefix (map step_line xs) (map step_line ys) m n (length-map xs step_line ∙ long ∙ sym (length-map ys step_line))
    (tail_of (counted word (length xs)) (counted word (length ys)) (map step_line xs ++ m) (map step_line ys ++ n) e) in
    (same_texts step_line IsWritableStep same_step_line xs ys f.each g.each parts.0, parts.1)

-- The numbers.
below_next : (n : ℕ) → n < suc n
below_next n = omega arith

same_version : (v w : Version) → version_line v ≡ version_line w → v ≡ w
same_version version_one version_one e = refl
same_version version_one version_two e = let bad : Some 49 ≡ Some 50 = ap (λ (l : Line). slice_get l 17) e in absurd (differ 49 50 (out 49 50 bad) (below_next 49))
  where
    out : (a b : ℕ) → Some a ≡ Some b → a ≡ b
    out a b e = cc

    differ : (a b : ℕ) → a ≡ b → a < b → ⊥
    differ a b e h = omega (arith, e, h)
same_version version_two version_one e = let bad : Some 50 ≡ Some 49 = ap (λ (l : Line). slice_get l 17) e in absurd (differ 49 50 (out 50 49 bad) (below_next 49))
  where
    out : (a b : ℕ) → Some a ≡ Some b → a ≡ b
    out a b e = cc

    differ : (a b : ℕ) → b ≡ a → a < b → ⊥
    differ a b e h = omega (arith, e, h)
same_version version_two version_two e = refl

is_bits : IsWord (codes "bits")
is_bits = word_by_test (codes "bits") (omega arith) (free_by_test 32 (codes "bits") refl)

is_faults : IsWord (codes "faults")
is_faults = word_by_test (codes "faults") (omega arith) (free_by_test 32 (codes "faults") refl)

is_size : IsWord (codes "size")
is_size = word_by_test (codes "size") (omega arith) (free_by_test 32 (codes "size") refl)

small_word : (n : ℕ) → IsSmall n → IsWord (decimal n)
small_word n h = number_word n (small_counts n h)

same_small : (n k : ℕ) → IsSmall n → IsSmall k → decimal n ≡ decimal k → n ≡ k
same_small n k h g e = same_number n k (small_counts n h) (small_counts k g) e

-- the numbers of bits, of faults, and the size
pub record SameNumbers (c d : Certificate) : Type 0 where
  pub bits : c.bits ≡ d.bits
  pub faults : c.faults ≡ d.faults
  pub size : c.size ≡ d.size

same_numbers_line : (v : Version) (c d : Certificate) → IsWritable c → IsWritable d → CanSay v c → CanSay v d → numbers_line v c ≡ numbers_line v d → SameNumbers c d
same_numbers_line version_one c d f g p q e =
    let words : (codes "bits" ∷ decimal c.bits ∷ codes "faults" ∷ decimal c.faults ∷ []) ≡ (codes "bits" ∷ decimal d.bits ∷ codes "faults" ∷ decimal d.faults ∷ []) =
    same_words (codes "bits" ∷ decimal c.bits ∷ codes "faults" ∷ decimal c.faults ∷ []) (codes "bits" ∷ decimal d.bits ∷ codes "faults" ∷ decimal d.faults ∷ [])
    (is_bits, (small_word c.bits f.bits, (is_faults, (small_word c.faults f.faults, tt)))) (is_bits, (small_word d.bits g.bits, (is_faults, (small_word d.faults g.faults, tt)))) e in
    let faults : c.faults ≡ d.faults = same_small c.faults d.faults f.faults g.faults (fourth (codes "bits") (decimal c.bits) (decimal d.bits) (codes "faults") (decimal c.faults) (decimal d.faults) words) in
    record {
      bits = same_small c.bits d.bits f.bits g.bits (second (codes "bits") (decimal c.bits) (decimal d.bits) (codes "faults") (decimal c.faults) (decimal d.faults) words);
      faults = faults;
      size = p ∙ faults ∙ sym q;
    }
  where
    second : (a x y b u w : Line) → (a ∷ x ∷ b ∷ u ∷ []) ≡ (a ∷ y ∷ b ∷ w ∷ []) → x ≡ y
    second a x y b u w e = cc

    fourth : (a x y b u w : Line) → (a ∷ x ∷ b ∷ u ∷ []) ≡ (a ∷ y ∷ b ∷ w ∷ []) → u ≡ w
    fourth a x y b u w e = cc
same_numbers_line version_two c d f g p q e =
    let words : (codes "bits" ∷ decimal c.bits ∷ codes "faults" ∷ decimal c.faults ∷ codes "size" ∷ decimal c.size ∷ []) ≡ (codes "bits" ∷ decimal d.bits ∷ codes "faults" ∷ decimal d.faults ∷ codes "size" ∷ decimal d.size ∷ []) =
    same_words (codes "bits" ∷ decimal c.bits ∷ codes "faults" ∷ decimal c.faults ∷ codes "size" ∷ decimal c.size ∷ []) (codes "bits" ∷ decimal d.bits ∷ codes "faults" ∷ decimal d.faults ∷ codes "size" ∷ decimal d.size ∷ [])
    (is_bits, (small_word c.bits f.bits, (is_faults, (small_word c.faults f.faults, (is_size, (small_word c.size f.size, tt))))))
    (is_bits, (small_word d.bits g.bits, (is_faults, (small_word d.faults g.faults, (is_size, (small_word d.size g.size, tt)))))) e in
    record {
      bits = same_small c.bits d.bits f.bits g.bits (second (codes "bits") (decimal c.bits) (decimal d.bits) (codes "faults") (decimal c.faults) (decimal d.faults) (codes "size") (decimal c.size) (decimal d.size) words);
      faults = same_small c.faults d.faults f.faults g.faults (fourth (codes "bits") (decimal c.bits) (decimal d.bits) (codes "faults") (decimal c.faults) (decimal d.faults) (codes "size") (decimal c.size) (decimal d.size) words);
      size = same_small c.size d.size f.size g.size (sixth (codes "bits") (decimal c.bits) (decimal d.bits) (codes "faults") (decimal c.faults) (decimal d.faults) (codes "size") (decimal c.size) (decimal d.size) words);
    }
  where
    second : (a x y b u w s z t : Line) → (a ∷ x ∷ b ∷ u ∷ s ∷ z ∷ []) ≡ (a ∷ y ∷ b ∷ w ∷ s ∷ t ∷ []) → x ≡ y
    second a x y b u w s z t e = cc

    fourth : (a x y b u w s z t : Line) → (a ∷ x ∷ b ∷ u ∷ s ∷ z ∷ []) ≡ (a ∷ y ∷ b ∷ w ∷ s ∷ t ∷ []) → u ≡ w
    fourth a x y b u w s z t e = cc

    sixth : (a x y b u w s z t : Line) → (a ∷ x ∷ b ∷ u ∷ s ∷ z ∷ []) ≡ (a ∷ y ∷ b ∷ w ∷ s ∷ t ∷ []) → z ≡ t
    sixth a x y b u w s z t e = cc

-- The whole.
is_sets : IsWord (codes "sets")
is_sets = word_by_test (codes "sets") (omega arith) (free_by_test 32 (codes "sets") refl)

is_invariant : IsWord (codes "invariant")
is_invariant = word_by_test (codes "invariant") (omega arith) (free_by_test 32 (codes "invariant") refl)

is_first : IsWord (codes "first")
is_first = word_by_test (codes "first") (omega arith) (free_by_test 32 (codes "first") refl)

is_next : IsWord (codes "next")
is_next = word_by_test (codes "next") (omega arith) (free_by_test 32 (codes "next") refl)

is_bad : IsWord (codes "bad")
is_bad = word_by_test (codes "bad") (omega arith) (free_by_test 32 (codes "bad") refl)

-- what stands after the parts and the sets
abbrev pub from_bad : Certificate → List Line
from_bad c = part_lines (codes "bad") c.bad ++ codes "end" ∷ []

abbrev pub from_next : Certificate → List Line
from_next c = part_lines (codes "next") c.next ++ from_bad c

abbrev from : Certificate → List Line
from c = part_lines (codes "first") c.first ++ from_next c

abbrev after_sets : Certificate → List Line
after_sets c = counted (codes "invariant") (length c.invariant) ∷ (map clause_line c.invariant ++ from c)

certificate_of : (b b' f f' z z' : ℕ) (ss ss' : List (List ℕ)) (ts ts' : List (List Line)) (inv inv' : List (List Literal)) (x x' y y' w w' : List Step) →
    b ≡ b' → f ≡ f' → z ≡ z' → ss ≡ ss' → ts ≡ ts' → inv ≡ inv' → x ≡ x' → y ≡ y' → w ≡ w' →
    (let r : Certificate = record { bits = b; faults = f; size = z; sets = ss; traces = ts; invariant = inv; first = x; next = y; bad = w } in r)
    ≡ (let r : Certificate = record { bits = b'; faults = f'; size = z'; sets = ss'; traces = ts'; invariant = inv'; first = x'; next = y'; bad = w' } in r)
certificate_of b b' f f' z z' ss ss' ts ts' inv inv' x x' y y' w w' e1 e2 e3 e4 e5 e6 e7 e8 e9 = rw (e1, e2, e3, e4, e5, e6, e7, e8, e9) refl

one_of_version : (v : Version) (c d : Certificate) → IsWritable c → IsWritable d → CanSay v c → CanSay v d → lines_of v c ≡ lines_of v d → c ≡ d
one_of_version v c d f g p q e =
    let body : (numbers_line v c ∷ counted (codes "sets") (length c.sets) ∷ (set_lines c.sets c.traces ++ after_sets c)) ≡ (numbers_line v d ∷ counted (codes "sets") (length d.sets) ∷ (set_lines d.sets d.traces ++ after_sets d)) =
    tail_of (version_line v) (version_line v) (numbers_line v c ∷ counted (codes "sets") (length c.sets) ∷ (set_lines c.sets c.traces ++ after_sets c)) (numbers_line v d ∷ counted (codes "sets") (length d.sets) ∷ (set_lines d.sets d.traces ++ after_sets d)) e in
    let numbers : SameNumbers c d = same_numbers_line v c d f g p q
    (head_of (numbers_line v c) (numbers_line v d) (counted (codes "sets") (length c.sets) ∷ (set_lines c.sets c.traces ++ after_sets c)) (counted (codes "sets") (length d.sets) ∷ (set_lines d.sets d.traces ++ after_sets d)) body) in
    let more : (counted (codes "sets") (length c.sets) ∷ (set_lines c.sets c.traces ++ after_sets c)) ≡ (counted (codes "sets") (length d.sets) ∷ (set_lines d.sets d.traces ++ after_sets d)) =
    tail_of (numbers_line v c) (numbers_line v d) (counted (codes "sets") (length c.sets) ∷ (set_lines c.sets c.traces ++ after_sets c)) (counted (codes "sets") (length d.sets) ∷ (set_lines d.sets d.traces ++ after_sets d)) body in
    let long : length c.sets ≡ length d.sets = same_count (codes "sets") is_sets (length c.sets) (length d.sets) f.count_of_sets g.count_of_sets
    (head_of (counted (codes "sets") (length c.sets)) (counted (codes "sets") (length d.sets)) (set_lines c.sets c.traces ++ after_sets c) (set_lines d.sets d.traces ++ after_sets d) more) in
    let sets : (c.sets ≡ d.sets) × (c.traces ≡ d.traces) × (after_sets c ≡ after_sets d) =
    same_sets c.sets c.traces d.sets d.traces (after_sets c) (after_sets d) f.one_each g.one_each long f.sets g.sets f.traces g.traces
    (tail_of (counted (codes "sets") (length c.sets)) (counted (codes "sets") (length d.sets)) (set_lines c.sets c.traces ++ after_sets c) (set_lines d.sets d.traces ++ after_sets d) more) in
    after numbers sets.0 sets.1 sets.2
  where
    after : SameNumbers c d → c.sets ≡ d.sets → c.traces ≡ d.traces → after_sets c ≡ after_sets d → c ≡ d
    after numbers sets traces e =
        let long : length c.invariant ≡ length d.invariant = same_count (codes "invariant") is_invariant (length c.invariant) (length d.invariant) f.count_of_clauses g.count_of_clauses
        (head_of (counted (codes "invariant") (length c.invariant)) (counted (codes "invariant") (length d.invariant)) (map clause_line c.invariant ++ from c) (map clause_line d.invariant ++ from d) e) in
        let clauses : (c.invariant ≡ d.invariant) × (from c ≡ from d) = same_clauses c.invariant d.invariant (from c) (from d) long f.clauses g.clauses
        (tail_of (counted (codes "invariant") (length c.invariant)) (counted (codes "invariant") (length d.invariant)) (map clause_line c.invariant ++ from c) (map clause_line d.invariant ++ from d) e) in
        let firsts : (c.first ≡ d.first) × (from_next c ≡ from_next d) = same_part (codes "first") is_first c.first d.first (from_next c) (from_next d) f.first g.first clauses.1 in
        let nexts : (c.next ≡ d.next) × (from_bad c ≡ from_bad d) = same_part (codes "next") is_next c.next d.next (from_bad c) (from_bad d) f.next g.next firsts.1 in
        let bads : (c.bad ≡ d.bad) × ((codes "end" ∷ []) ≡ (codes "end" ∷ [])) = same_part (codes "bad") is_bad c.bad d.bad (codes "end" ∷ []) (codes "end" ∷ []) f.bad g.bad nexts.1 in
        certificate_of c.bits d.bits c.faults d.faults c.size d.size c.sets d.sets c.traces d.traces c.invariant d.invariant c.first d.first c.next d.next c.bad d.bad
        numbers.bits numbers.faults numbers.size sets traces clauses.0 firsts.0 nexts.0 bads.0

pub one_certificate : (v w : Version) (c d : Certificate) → IsWritable c → IsWritable d → CanSay v c → CanSay w d → lines_of v c ≡ lines_of w d → c ≡ d
one_certificate v w c d f g p q e =
    let same : v ≡ w = same_version v w
    (head_of (version_line v) (version_line w) (numbers_line v c ∷ counted (codes "sets") (length c.sets) ∷ (set_lines c.sets c.traces ++ after_sets c)) (numbers_line w d ∷ counted (codes "sets") (length d.sets) ∷ (set_lines d.sets d.traces ++ after_sets d)) e) in
    one_of_version v c d f g p (subst (λ x. CanSay x d) (sym same) q) (e ∙ ap (λ x. lines_of x d) (sym same))
