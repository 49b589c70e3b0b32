-- A certificate's lines are those that the reading line by line takes to its end.
use Rattle.std.proofs.Common.{◌≡◌, ◌⊎◌, inl, inr, ◌↔◌, ℕ, zero, suc, ◌^◌, Bool, true, false, List, [], ◌∷◌, ◌++◌, length, map, Option, Some, None, refl, sym, ◌∙◌, ap, subst, arith, codes, append_assoc}
use Rattle.std.specs.Prelude.{if◌then◌else◌}
use Rattle.std.specs.Option.{option_map}
use Rattle.std.specs.List.{AllByRecursion}
use Rattle.std.specs.Fmt.{decimal}
use Rattle.sat_clauses.specs.Literal.{Literal}
use Rattle.sat_clauses.specs.declared.step.Step.{Step}
use Rattle.cert_laws.specs.Certificate.{Certificate, Part, part_first, part_next, part_bad}
use Rattle.cut_text_laws.specs.Lines.{Line, spaced, counted, IsLine}
use Rattle.cert_laws.specs.CertificateText.{Version, version_one, version_two, version_line, size_words, set_line, set_lines, clause_line, step_line, part_lines, lines_of, IsSmall, IsCount, IsLiteral, IsWritableStep, AreWritable, IsWritableText, CanSay, AreLinesOf}
use Rattle.cert_laws.specs.LineReading.{count_in, set_in, clause_in, step_in}
use Rattle.cert_laws.specs.ExpectedLines.{Expect, a_version, the_numbers_of, sets_count, a_set_line, trace_count, a_text_line, clauses_count, a_clause_line, steps_count, a_step_line, the_end, no_line, sets_left, text_left, clauses_left, after_part, steps_left, part_word, Numbers, numbers_from, small_in, size_of, numbers_of_words, numbers_in, after, then_after, after_lines}
use Rattle.cert_laws.proofs.Words.{number_word}
use Rattle.cut_text_laws.proofs.Words.{free_by_test}
use Rattle.cert_laws.proofs.LineReading.{chosen, number_exact, line_exact, counts_exact, sets_exact, clauses_exact, steps_exact}
use Rattle.std.proofs.lemmas.Option.{same_Some as some_same, none-some as never}
use Rattle.cut_text_laws.proofs.OneTrace.{both_of as two}
use Rattle.smv_language.proofs.BoolLaws.{if_true}
use Rattle.smv_language.specs.Texts.{same_text}
use Rattle.smv_language.proofs.ValueLaws.{same_text_equal, same_text_refl}

-- Going on.
pub none_after : (lines : List Line) → after_lines None lines ≡ None
none_after [] = refl
none_after (l ∷ lines) = none_after lines

pub after_joined : (o : Option Expect) (xs ys : List Line) → after_lines o (xs ++ ys) ≡ after_lines (after_lines o xs) ys
after_joined o [] ys = refl
after_joined o (x ∷ xs) ys = after_joined (then_after o x) xs ys

-- the reading comes to its end
abbrev pub Finishes : Option Expect → List Line → Type 0
Finishes o lines = after_lines o lines ≡ Some no_line

-- a line that was taken was read as something
taken_as : {A : Type 0} (f : A → Expect) (o : Option A) (lines : List Line) → Finishes (option_map f o) lines → (a : A) × (o ≡ Some a) × Finishes (Some (f a)) lines
taken_as f None lines h = absurd (never no_line (sym (none_after lines) ∙ h))
taken_as f (Some a) lines h = (a, refl, h)

-- what the rest of a text must be
pub record StepsThen (p : Part) (n : ℕ) (lines : List Line) : Type 0 where
  pub steps : List Step
  pub more : List Line
  pub count : length steps ≡ n
  pub writable : AllByRecursion IsWritableStep steps
  pub is : lines ≡ map step_line steps ++ more
  pub rest : Finishes (Some (after_part p)) more

-- nothing more is expected
abbrev pub is_done : Expect → Bool
is_done no_line = true
is_done _ = false

pub not_done : (e : Expect) → is_done e ≡ false → Some e ≡ Some no_line → ⊥
not_done e h f = let bad : false ≡ true = sym h ∙ ap is_done (some_same e no_line f) in cc

steps_then : (p : Part) (n : ℕ) (lines : List Line) → Finishes (Some (steps_left p n)) lines → StepsThen p n lines
steps_then p zero lines h = record { steps = []; more = lines; count = refl; writable = tt; is = refl; rest = h }
steps_then p (suc n) [] h = absurd (not_done (a_step_line p n) refl h)
steps_then p (suc n) (l ∷ lines) h =
    let read : (s : Step) × (step_in l ≡ Some s) × Finishes (Some (steps_left p n)) lines = taken_as (λ x. steps_left p n) (step_in l) lines h in
    let line : (l ≡ step_line read.0) × IsWritableStep read.0 = (steps_exact l read.0).0 read.1 in
    let later : StepsThen p n lines = steps_then p n lines read.2 in
    record {
      steps = read.0 ∷ later.steps;
      more = later.more;
      count = ap suc later.count;
      writable = (line.1, later.writable);
      is = two l (step_line read.0) lines (map step_line later.steps ++ later.more) line.0 later.is;
      rest = later.rest;
    }

pub free_word : (p : Part) → AllByRecursion (λ b. b ≡ 32 → ⊥) (part_word p)
free_word part_first = free_by_test 32 (codes "first") refl
free_word part_next = free_by_test 32 (codes "next") refl
free_word part_bad = free_by_test 32 (codes "bad") refl

pub record PartThen (p : Part) (lines : List Line) : Type 0 where
  pub steps : List Step
  pub more : List Line
  pub writable : AreWritable steps
  pub is : lines ≡ part_lines (part_word p) steps ++ more
  pub rest : Finishes (Some (after_part p)) more

part_then : (p : Part) (lines : List Line) → Finishes (Some (steps_count p)) lines → PartThen p lines
part_then p [] h = absurd (not_done (steps_count p) refl h)
part_then p (l ∷ lines) h =
    let read : (n : ℕ) × (count_in (part_word p) l ≡ Some n) × Finishes (Some (steps_left p n)) lines = taken_as (steps_left p) (count_in (part_word p) l) lines h in
    let line : (l ≡ counted (part_word p) read.0) × IsCount read.0 = (counts_exact (part_word p) l read.0 (free_word p)).0 read.1 in
    let later : StepsThen p read.0 lines = steps_then p read.0 lines read.2 in
    record {
      steps = later.steps;
      more = later.more;
      writable = record { count = subst IsCount (sym later.count) line.1; each = later.writable };
      is = two l (counted (part_word p) (length later.steps)) lines (map step_line later.steps ++ later.more) (line.0 ∙ ap (counted (part_word p)) (sym later.count)) later.is;
      rest = later.rest;
    }

pub record ClausesThen (n : ℕ) (lines : List Line) : Type 0 where
  pub clauses : List (List Literal)
  pub more : List Line
  pub count : length clauses ≡ n
  pub writable : AllByRecursion (AllByRecursion IsLiteral) clauses
  pub is : lines ≡ map clause_line clauses ++ more
  pub rest : Finishes (Some (steps_count part_first)) more

clauses_then : (n : ℕ) (lines : List Line) → Finishes (Some (clauses_left n)) lines → ClausesThen n lines
clauses_then zero lines h = record { clauses = []; more = lines; count = refl; writable = tt; is = refl; rest = h }
clauses_then (suc n) [] h = absurd (not_done (a_clause_line n) refl h)
clauses_then (suc n) (l ∷ lines) h =
    let read : (c : List Literal) × (clause_in l ≡ Some c) × Finishes (Some (clauses_left n)) lines = taken_as (λ x. clauses_left n) (clause_in l) lines h in
    let line : (l ≡ clause_line read.0) × AllByRecursion IsLiteral read.0 = (clauses_exact l read.0).0 read.1 in
    let later : ClausesThen n lines = clauses_then n lines read.2 in
    record {
      clauses = read.0 ∷ later.clauses;
      more = later.more;
      count = ap suc later.count;
      writable = (line.1, later.writable);
      is = two l (clause_line read.0) lines (map clause_line later.clauses ++ later.more) line.0 later.is;
      rest = later.rest;
    }

pub record TextThen (n k : ℕ) (lines : List Line) : Type 0 where
  pub text : List Line
  pub more : List Line
  pub count : length text ≡ n
  pub text_lines : AllByRecursion IsLine text
  pub more_lines : AllByRecursion IsLine more
  pub is : lines ≡ text ++ more
  pub rest : Finishes (Some (sets_left k)) more

text_then : (n k : ℕ) (lines : List Line) → AllByRecursion IsLine lines → Finishes (Some (text_left n k)) lines → TextThen n k lines
text_then zero k lines f h = record { text = []; more = lines; count = refl; text_lines = tt; more_lines = f; is = refl; rest = h }
text_then (suc n) k [] f h = absurd (not_done (a_text_line n k) refl h)
text_then (suc n) k (l ∷ lines) f h =
    let later : TextThen n k lines = text_then n k lines f.1 h in
    record { text = l ∷ later.text; more = later.more; count = ap suc later.count; text_lines = (f.0, later.text_lines); more_lines = later.more_lines; is = ap (λ ls. l ∷ ls) later.is; rest = later.rest }

pub record SetsThen (k : ℕ) (lines : List Line) : Type 0 where
  pub sets : List (List ℕ)
  pub texts : List (List Line)
  pub more : List Line
  pub count : length sets ≡ k
  pub one_each : length texts ≡ length sets
  pub small : AllByRecursion (AllByRecursion IsSmall) sets
  pub writable : AllByRecursion IsWritableText texts
  pub is : lines ≡ set_lines sets texts ++ more
  pub rest : Finishes (Some clauses_count) more

pub free_trace : AllByRecursion (λ b. b ≡ 32 → ⊥) (codes "trace")
free_trace = free_by_test 32 (codes "trace") refl

sets_then : (k : ℕ) (lines : List Line) → AllByRecursion IsLine lines → Finishes (Some (sets_left k)) lines → SetsThen k lines
sets_then zero lines f h = record { sets = []; texts = []; more = lines; count = refl; one_each = refl; small = tt; writable = tt; is = refl; rest = h }
sets_then (suc k) [] f h = absurd (not_done (a_set_line k) refl h)
sets_then (suc k) (l ∷ []) f h =
    let read : (s : List ℕ) × (set_in l ≡ Some s) × Finishes (Some (trace_count k)) [] = taken_as (λ x. trace_count k) (set_in l) [] h in absurd (not_done (trace_count k) refl read.2)
sets_then (suc k) (l ∷ t ∷ lines) f h =
    let read : (s : List ℕ) × (set_in l ≡ Some s) × Finishes (Some (trace_count k)) (t ∷ lines) = taken_as (λ x. trace_count k) (set_in l) (t ∷ lines) h in
    let line : (l ≡ set_line read.0) × AllByRecursion IsSmall read.0 = (sets_exact l read.0).0 read.1 in
    let count : (n : ℕ) × (count_in (codes "trace") t ≡ Some n) × Finishes (Some (text_left n k)) lines = taken_as (λ n. text_left n k) (count_in (codes "trace") t) lines read.2 in
    let head : (t ≡ counted (codes "trace") count.0) × IsCount count.0 = (counts_exact (codes "trace") t count.0 free_trace).0 count.1 in
    let text : TextThen count.0 k lines = text_then count.0 k lines f.1.1 count.2 in
    let later : SetsThen k text.more = sets_then k text.more text.more_lines text.rest in
    record {
      sets = read.0 ∷ later.sets;
      texts = text.text ∷ later.texts;
      more = later.more;
      count = ap suc later.count;
      one_each = ap suc later.one_each;
      small = (line.1, later.small);
      writable = (record { count = subst IsCount (sym text.count) head.1; each = text.text_lines }, later.writable);
      is = two l (set_line read.0) (t ∷ lines) (counted (codes "trace") (length text.text) ∷ ((text.text ++ set_lines later.sets later.texts) ++ later.more)) line.0
          (two t (counted (codes "trace") (length text.text)) lines ((text.text ++ set_lines later.sets later.texts) ++ later.more) (head.0 ∙ ap (counted (codes "trace")) (sym text.count))
          (text.is ∙ ap (λ ls. text.text ++ ls) later.is ∙ sym (append_assoc text.text (set_lines later.sets later.texts) later.more)));
      rest = later.rest;
    }

end_then : (lines : List Line) → Finishes (Some the_end) lines → lines ≡ codes "end" ∷ []
end_then [] h = absurd (not_done the_end refl h)
end_then (l ∷ lines) h = by_branch (chosen (same_text l (codes "end")) (Some no_line) None (after the_end l) refl) lines h
  where
    by_rest : (lines : List Line) → Finishes (Some no_line) lines → lines ≡ []
    by_rest [] g = refl
    by_rest (m ∷ lines) g = absurd (never no_line (sym (none_after lines) ∙ g))

    by_branch : ((same_text l (codes "end") ≡ true) × (Some no_line ≡ after the_end l)) ⊎ ((same_text l (codes "end") ≡ false) × (None ≡ after the_end l)) → (lines : List Line) → after_lines (after the_end l) lines ≡ Some no_line →
        (l ∷ lines) ≡ codes "end" ∷ []
    by_branch (inl t) lines g = two l (codes "end") lines [] (same_text_equal l (codes "end") t.0) (by_rest lines (ap (λ o. after_lines o lines) t.1 ∙ g))
    by_branch (inr t) lines g = absurd (never no_line (sym (none_after lines) ∙ ap (λ o. after_lines o lines) t.1 ∙ g))

-- The numbers.
abbrev pub words_of : Version → Numbers → List Line
words_of v x = decimal x.bits ∷ codes "faults" ∷ decimal x.faults ∷ size_words v x.size

abbrev pub SizeSays : Version → Numbers → Type 0
SizeSays version_one x = x.size ≡ x.faults
SizeSays version_two x = Unit {0}

pub record AreSmall (v : Version) (x : Numbers) : Type 0 where
  pub bits : IsSmall x.bits
  pub faults : IsSmall x.faults
  pub size : IsSmall x.size
  pub says : SizeSays v x

small_exact : (w : Line) (n : ℕ) → (small_in w ≡ Some n ↔ ((w ≡ decimal n) × IsSmall n))
small_exact w n = number_exact (2 ^ 31) (omega arith) w n

all_three : (a b c : Option ℕ) (x : Numbers) → numbers_from a b c ≡ Some x → (a ≡ Some x.bits) × (b ≡ Some x.faults) × (c ≡ Some x.size)
all_three None b c x e = absurd (never x e)
all_three (Some a) None c x e = absurd (never x e)
all_three (Some a) (Some b) None x e = absurd (never x e)
all_three (Some a) (Some b) (Some c) x e =
    let same : ◌≡◌ {A = Numbers} (record { bits = a; faults = b; size = c }) x = some_same {A = Numbers} (record { bits = a; faults = b; size = c }) x e in
    (ap (λ (y : Numbers). Some y.bits) same, ap (λ (y : Numbers). Some y.faults) same, ap (λ (y : Numbers). Some y.size) same)

size_is : (v : Version) (n : Line) (words : List Line) (x : Numbers) → small_in n ≡ Some x.faults → size_of v (small_in n) words ≡ Some x.size → (words ≡ size_words v x.size) × IsSmall x.size × SizeSays v x
size_is version_one n [] x e h =
    let same : x.faults ≡ x.size = some_same x.faults x.size (sym e ∙ h) in (refl, ((small_exact n x.size).0 h).1, sym same)
size_is version_one n (z ∷ words) x e h = absurd (never x.size h)
size_is version_two n [] x e h = absurd (never x.size h)
size_is version_two n (z ∷ []) x e h = absurd (never x.size h)
size_is version_two n (z ∷ s ∷ []) x e h = by_branch (chosen (same_text z (codes "size")) (small_in s) None (Some x.size) h)
  where
    three : (z y s t : Line) → z ≡ y → s ≡ t → (z ∷ s ∷ []) ≡ (y ∷ t ∷ [])
    three z y s t e f = cc

    by_branch : ((same_text z (codes "size") ≡ true) × (small_in s ≡ Some x.size)) ⊎ ((same_text z (codes "size") ≡ false) × (None ≡ Some x.size)) → ((z ∷ s ∷ []) ≡ size_words version_two x.size) × IsSmall x.size × SizeSays version_two x
    by_branch (inl t) = let number : (s ≡ decimal x.size) × IsSmall x.size = (small_exact s x.size).0 t.1 in (three z (codes "size") s (decimal x.size) (same_text_equal z (codes "size") t.0) number.0, number.1, tt)
    by_branch (inr t) = absurd (never x.size t.1)
size_is version_two n (z ∷ s ∷ t ∷ words) x e h = absurd (never x.size h)

size_back : (v : Version) (x : Numbers) → AreSmall v x → size_of v (Some x.faults) (size_words v x.size) ≡ Some x.size
size_back version_one x h = ap (λ n. Some n) (sym h.says)
size_back version_two x h = if_true (same_text (codes "size") (codes "size")) (small_in (decimal x.size)) None (same_text_refl (codes "size")) ∙ (small_exact (decimal x.size) x.size).1 (refl, h.size)

words_exact : (v : Version) (ws : List Line) (x : Numbers) → (numbers_of_words v ws ≡ Some x ↔ ((ws ≡ words_of v x) × AreSmall v x))
words_exact v ws x = (to ws, back)
  where
    four : (b c f g n m : Line) (ws vs : List Line) → b ≡ c → f ≡ g → n ≡ m → ws ≡ vs → (b ∷ f ∷ n ∷ ws) ≡ (c ∷ g ∷ m ∷ vs)
    four b c f g n m ws vs e1 e2 e3 e4 = cc

    to : (ws : List Line) → numbers_of_words v ws ≡ Some x → (ws ≡ words_of v x) × AreSmall v x
    to [] e = absurd (never x e)
    to (b ∷ []) e = absurd (never x e)
    to (b ∷ f ∷ []) e = absurd (never x e)
    to (b ∷ f ∷ n ∷ words) e = by_branch (chosen (same_text f (codes "faults")) (numbers_from (small_in b) (small_in n) (size_of v (small_in n) words)) None (Some x) e)
      where
        by_branch : ((same_text f (codes "faults") ≡ true) × (numbers_from (small_in b) (small_in n) (size_of v (small_in n) words) ≡ Some x)) ⊎ ((same_text f (codes "faults") ≡ false) × (None ≡ Some x)) →
            ((b ∷ f ∷ n ∷ words) ≡ words_of v x) × AreSmall v x
        by_branch (inl t) =
            let parts = all_three (small_in b) (small_in n) (size_of v (small_in n) words) x t.1 in
            let bits : (b ≡ decimal x.bits) × IsSmall x.bits = (small_exact b x.bits).0 parts.0 in
            let faults : (n ≡ decimal x.faults) × IsSmall x.faults = (small_exact n x.faults).0 parts.1 in
            let size : (words ≡ size_words v x.size) × IsSmall x.size × SizeSays v x = size_is v n words x parts.1 parts.2 in
            (four b (decimal x.bits) f (codes "faults") n (decimal x.faults) words (size_words v x.size) bits.0 (same_text_equal f (codes "faults") t.0) faults.0 size.0, record { bits = bits.1; faults = faults.1; size = size.1; says = size.2 })
        by_branch (inr t) = absurd (never x t.1)

    back : (ws ≡ words_of v x) × AreSmall v x → numbers_of_words v ws ≡ Some x
    back h =
        let bits : small_in (decimal x.bits) ≡ Some x.bits = (small_exact (decimal x.bits) x.bits).1 (refl, h.1.bits) in
        let faults : small_in (decimal x.faults) ≡ Some x.faults = (small_exact (decimal x.faults) x.faults).1 (refl, h.1.faults) in
        ap (numbers_of_words v) h.0
        ∙ if_true (same_text (codes "faults") (codes "faults")) (numbers_from (small_in (decimal x.bits)) (small_in (decimal x.faults)) (size_of v (small_in (decimal x.faults)) (size_words v x.size))) None (same_text_refl (codes "faults"))
        ∙ ap (λ o. numbers_from o (small_in (decimal x.faults)) (size_of v (small_in (decimal x.faults)) (size_words v x.size))) bits
        ∙ ap (λ o. numbers_from (Some x.bits) o (size_of v o (size_words v x.size))) faults
        ∙ ap (numbers_from (Some x.bits) (Some x.faults)) (size_back v x h.1)

pub numbers_exact : (v : Version) (line : Line) (x : Numbers) → (numbers_in v line ≡ Some x ↔ ((line ≡ spaced (codes "bits" ∷ words_of v x)) × AreSmall v x))
numbers_exact v line x = line_exact (codes "bits") (numbers_of_words v) (words_of v) (AreSmall v) (free_by_test 32 (codes "bits") refl) frees (words_exact v) line x
  where
    digits : (n : ℕ) → IsSmall n → AllByRecursion (λ b. b ≡ 32 → ⊥) (decimal n)
    digits n h = (number_word n (wide n h)).free
      where
        wide : (n : ℕ) → IsSmall n → IsCount n
        wide n h = omega (arith, h)

    of_size : (v : Version) (x : Numbers) → AreSmall v x → AllByRecursion (AllByRecursion (λ b. b ≡ 32 → ⊥)) (size_words v x.size)
    of_size version_one x h = tt
    of_size version_two x h = (free_by_test 32 (codes "size") refl, (digits x.size h.size, tt))

    frees : (x : Numbers) → AreSmall v x → AllByRecursion (AllByRecursion (λ b. b ≡ 32 → ⊥)) (words_of v x)
    frees x h = (digits x.bits h.bits, (free_by_test 32 (codes "faults") refl, (digits x.faults h.faults, of_size v x h)))

-- The whole.
record VersionThen (l : Line) (lines : List Line) : Type 0 where
  pub version : Version
  pub is : l ≡ version_line version
  pub rest : Finishes (Some (the_numbers_of version)) lines

version_then : (l : Line) (lines : List Line) → Finishes (Some a_version) (l ∷ lines) → VersionThen l lines
version_then l lines h = by_first (chosen (same_text l (version_line version_one)) (Some (the_numbers_of version_one)) (if same_text l (version_line version_two) then Some (the_numbers_of version_two) else None) (after a_version l) refl)
  where
    by_second : (o : Option Expect) → o ≡ after a_version l → ((same_text l (version_line version_two) ≡ true) × (Some (the_numbers_of version_two) ≡ o)) ⊎ ((same_text l (version_line version_two) ≡ false) × (None ≡ o)) → VersionThen l lines
    by_second o e (inl t) = record { version = version_two; is = same_text_equal l (version_line version_two) t.0; rest = ap (λ p. after_lines p lines) (t.1 ∙ e) ∙ h }
    by_second o e (inr t) = absurd (never no_line (sym (none_after lines) ∙ ap (λ p. after_lines p lines) (t.1 ∙ e) ∙ h))

    by_first : ((same_text l (version_line version_one) ≡ true) × (Some (the_numbers_of version_one) ≡ after a_version l))
        ⊎ ((same_text l (version_line version_one) ≡ false) × ((if same_text l (version_line version_two) then Some (the_numbers_of version_two) else None) ≡ after a_version l)) → VersionThen l lines
    by_first (inl t) = record { version = version_one; is = same_text_equal l (version_line version_one) t.0; rest = ap (λ p. after_lines p lines) t.1 ∙ h }
    by_first (inr t) =
        by_second (if same_text l (version_line version_two) then Some (the_numbers_of version_two) else None) t.1
        (chosen (same_text l (version_line version_two)) (Some (the_numbers_of version_two)) None (if same_text l (version_line version_two) then Some (the_numbers_of version_two) else None) refl)

record InvariantThen (lines : List Line) : Type 0 where
  pub clauses : List (List Literal)
  pub more : List Line
  pub count : IsCount (length clauses)
  pub writable : AllByRecursion (AllByRecursion IsLiteral) clauses
  pub is : lines ≡ counted (codes "invariant") (length clauses) ∷ (map clause_line clauses ++ more)
  pub rest : Finishes (Some (steps_count part_first)) more

invariant_then : (lines : List Line) → Finishes (Some clauses_count) lines → InvariantThen lines
invariant_then [] h = absurd (not_done clauses_count refl h)
invariant_then (l ∷ lines) h =
    let read : (n : ℕ) × (count_in (codes "invariant") l ≡ Some n) × Finishes (Some (clauses_left n)) lines = taken_as clauses_left (count_in (codes "invariant") l) lines h in
    let line : (l ≡ counted (codes "invariant") read.0) × IsCount read.0 = (counts_exact (codes "invariant") l read.0 (free_by_test 32 (codes "invariant") refl)).0 read.1 in
    let later : ClausesThen read.0 lines = clauses_then read.0 lines read.2 in
    record {
      clauses = later.clauses;
      more = later.more;
      count = subst IsCount (sym later.count) line.1;
      writable = later.writable;
      is = two l (counted (codes "invariant") (length later.clauses)) lines (map clause_line later.clauses ++ later.more) (line.0 ∙ ap (counted (codes "invariant")) (sym later.count)) later.is;
      rest = later.rest;
    }

abbrev certificate : Numbers → List (List ℕ) → List (List Line) → List (List Literal) → List Step → List Step → List Step → Certificate
certificate x ss us cs a b d = record { bits = x.bits; faults = x.faults; size = x.size; sets = ss; traces = us; invariant = cs; first = a; next = b; bad = d }

saying : (v : Version) (x : Numbers) → SizeSays v x → (ss : List (List ℕ)) (us : List (List Line)) (cs : List (List Literal)) (a b d : List Step) → CanSay v (certificate x ss us cs a b d)
saying version_one x h ss us cs a b d = h
saying version_two x h ss us cs a b d = tt

joined : (v : Version) (x : Numbers) (ss : List (List ℕ)) (us : List (List Line)) (cs : List (List Literal)) (a b d : List Step) (l n s : Line) (lines : List Line) → l ≡ version_line v → n ≡ spaced (codes "bits" ∷ words_of v x) →
    s ≡ counted (codes "sets") (length ss) →
    lines ≡ set_lines ss us ++ counted (codes "invariant") (length cs) ∷ (map clause_line cs ++ (part_lines (codes "first") a ++ (part_lines (codes "next") b ++ (part_lines (codes "bad") d ++ codes "end" ∷ [])))) →
    (l ∷ n ∷ s ∷ lines) ≡ lines_of v (certificate x ss us cs a b d)
joined v x ss us cs a b d l n s lines e1 e2 e3 e4 =
    three l (version_line v) n (spaced (codes "bits" ∷ words_of v x)) s (counted (codes "sets") (length ss)) lines
    (set_lines ss us ++ counted (codes "invariant") (length cs) ∷ (map clause_line cs ++ (part_lines (codes "first") a ++ (part_lines (codes "next") b ++ (part_lines (codes "bad") d ++ codes "end" ∷ []))))) e1 e2 e3 e4
  where
    three : (a b c d e f : Line) (xs ys : List Line) → a ≡ b → c ≡ d → e ≡ f → xs ≡ ys → (a ∷ c ∷ e ∷ xs) ≡ (b ∷ d ∷ f ∷ ys)
    three a b c d e f xs ys p q r t = cc

pub whole_then : (lines : List Line) → AllByRecursion IsLine lines → Finishes (Some a_version) lines → (c : Certificate) × AreLinesOf lines c
whole_then [] f h = absurd (not_done a_version refl h)
whole_then (l ∷ []) f h = let version : VersionThen l [] = version_then l [] h in absurd (not_done (the_numbers_of version.version) refl version.rest)
whole_then (l ∷ n ∷ []) f h =
    let version : VersionThen l (n ∷ []) = version_then l (n ∷ []) h in
    let numbers : (x : Numbers) × (numbers_in version.version n ≡ Some x) × Finishes (Some sets_count) [] = taken_as (λ x. sets_count) (numbers_in version.version n) [] version.rest in
    absurd (not_done sets_count refl numbers.2)
whole_then (l ∷ n ∷ s ∷ lines) f h =
    let version : VersionThen l (n ∷ s ∷ lines) = version_then l (n ∷ s ∷ lines) h in
    let numbers : (x : Numbers) × (numbers_in version.version n ≡ Some x) × Finishes (Some sets_count) (s ∷ lines) = taken_as (λ x. sets_count) (numbers_in version.version n) (s ∷ lines) version.rest in
    let numbers_are : (n ≡ spaced (codes "bits" ∷ words_of version.version numbers.0)) × AreSmall version.version numbers.0 = (numbers_exact version.version n numbers.0).0 numbers.1 in
    let count : (k : ℕ) × (count_in (codes "sets") s ≡ Some k) × Finishes (Some (sets_left k)) lines = taken_as sets_left (count_in (codes "sets") s) lines numbers.2 in
    let count_is : (s ≡ counted (codes "sets") count.0) × IsCount count.0 = (counts_exact (codes "sets") s count.0 (free_by_test 32 (codes "sets") refl)).0 count.1 in
    let sets : SetsThen count.0 lines = sets_then count.0 lines f.1.1.1 count.2 in
    let invariant : InvariantThen sets.more = invariant_then sets.more sets.rest in
    let first : PartThen part_first invariant.more = part_then part_first invariant.more invariant.rest in
    let next : PartThen part_next first.more = part_then part_next first.more first.rest in
    let bad : PartThen part_bad next.more = part_then part_bad next.more next.rest in
    let end : bad.more ≡ codes "end" ∷ [] = end_then bad.more bad.rest in (
      record {
        bits = numbers.0.bits;
        faults = numbers.0.faults;
        size = numbers.0.size;
        sets = sets.sets;
        traces = sets.texts;
        invariant = invariant.clauses;
        first = first.steps;
        next = next.steps;
        bad = bad.steps;
      },
      (
        record {
          one_each = sets.one_each;
          bits = numbers_are.1.bits;
          faults = numbers_are.1.faults;
          size = numbers_are.1.size;
          count_of_sets = subst IsCount (sym sets.count) count_is.1;
          sets = sets.small;
          traces = sets.writable;
          count_of_clauses = invariant.count;
          clauses = invariant.writable;
          first = first.writable;
          next = next.writable;
          bad = bad.writable;
        },
        (
          version.version,
          saying version.version numbers.0 numbers_are.1.says sets.sets sets.texts invariant.clauses first.steps next.steps bad.steps,
          joined version.version numbers.0 sets.sets sets.texts invariant.clauses first.steps next.steps bad.steps l n s lines version.is numbers_are.0 (count_is.0 ∙ ap (counted (codes "sets")) (sym sets.count))
              (sets.is ∙ ap (λ m. set_lines sets.sets sets.texts ++ m) (invariant.is ∙ ap (λ m. counted (codes "invariant") (length invariant.clauses) ∷ (map clause_line invariant.clauses ++ m))
              (first.is ∙ ap (λ m. part_lines (codes "first") first.steps ++ m) (next.is ∙ ap (λ m. part_lines (codes "next") next.steps ++ m) (bad.is ∙ ap (λ m. part_lines (codes "bad") bad.steps ++ m) end))))),
        ),
      ),
    )
