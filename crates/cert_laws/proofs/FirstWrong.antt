-- Bytes spell at most one certificate, and of those that spell none at most one line is the first wrong one.
use Rattle.std.proofs.Common.{◌≡◌, ◌⊎◌, inl, inr, ℕ, suc, List, [], ◌∷◌, ◌++◌, length, map, refl, sym, ◌∙◌, ap, subst, arith, codes, append_assoc}
use Rattle.std.specs.List.{AllByRecursion}
use Rattle.std.specs.Fmt.{decimal}
use Rattle.sat_clauses.specs.Literal.{Literal}
use Rattle.sat_clauses.specs.declared.step.Step.{Step}
use Rattle.cert_laws.specs.Certificate.{Certificate}
use Rattle.cut_text_laws.specs.Lines.{Line, counted, fed, IsLine}
use Rattle.cert_laws.specs.CertificateText.{Version, version_one, version_two, literal_text, version_line, numbers_line, set_lines, clause_line, step_line, part_lines, lines_of, IsSmall, IsCount, IsLiteral, IsHint, IsWritableStep, AreWritable, IsWritableText, IsWritable, AreLinesOf, BeginsOne, IsBadLine, EndsBefore}
use Rattle.cert_laws.specs.TextLaws.{OneCertificate, OneWrongLine, SpelledHasNone}
use Rattle.cut_text_laws.proofs.Separators.{IsFree, same_front, comparable, all_front}
use Rattle.cert_laws.proofs.Words.{number_free, literal_free}
use Rattle.cut_text_laws.proofs.Words.{free_by_test, spaced_line, all_texts}
use Rattle.cert_laws.proofs.OneText.{one_certificate}
use Rattle.cut_text_laws.proofs.Cuts.{grouped, no_feed, same_fed}
use Rattle.std.proofs.lemmas.List.{append-nil as append_none}
use Rattle.base_values.proofs.ListLaws.{all_joined}

-- No line of a certificate has a line feed.
small_line : (n : ℕ) → IsSmall n → IsFree 10 (decimal n)
small_line n h = number_free 10 (inl (omega arith)) n (omega (arith, h))

count_line : (n : ℕ) → IsCount n → IsFree 10 (decimal n)
count_line n h = number_free 10 (inl (omega arith)) n h

literal_line : (l : Literal) → IsLiteral l → IsFree 10 (literal_text l)
literal_line l h = literal_free 10 (inl (omega arith)) l h

hint_line : (n : ℕ) → IsHint n → IsFree 10 (decimal n)
hint_line n h = count_line n h.1

pub counted_line : (word : Line) → IsFree 10 word → (n : ℕ) → IsCount n → IsLine (counted word n)
counted_line word w n h = spaced_line (word ∷ decimal n ∷ []) (w, (count_line n h, tt))

pub version_lines : (v : Version) → IsLine (version_line v)
version_lines version_one = free_by_test 10 (codes "xsap-certificate 1") refl
version_lines version_two = free_by_test 10 (codes "xsap-certificate 2") refl

pub numbers_lines : (v : Version) (c : Certificate) → IsWritable c → IsLine (numbers_line v c)
numbers_lines version_one c f =
    spaced_line (codes "bits" ∷ decimal c.bits ∷ codes "faults" ∷ decimal c.faults ∷ [])
    (free_by_test 10 (codes "bits") refl, (small_line c.bits f.bits, (free_by_test 10 (codes "faults") refl, (small_line c.faults f.faults, tt))))
numbers_lines version_two c f =
    spaced_line (codes "bits" ∷ decimal c.bits ∷ codes "faults" ∷ decimal c.faults ∷ codes "size" ∷ decimal c.size ∷ [])
    (free_by_test 10 (codes "bits") refl, (small_line c.bits f.bits, (free_by_test 10 (codes "faults") refl, (small_line c.faults f.faults, (free_by_test 10 (codes "size") refl, (small_line c.size f.size, tt))))))

sets_lines : (sets : List (List ℕ)) (texts : List (List Line)) → AllByRecursion (AllByRecursion IsSmall) sets → AllByRecursion IsWritableText texts → AllByRecursion IsLine (set_lines sets texts)
sets_lines [] texts f g = tt
sets_lines (set ∷ sets) [] f g = tt
sets_lines (set ∷ sets) (text ∷ texts) f g = (
  spaced_line (codes "set" ∷ map decimal set) (free_by_test 10 (codes "set") refl, all_texts decimal IsSmall (IsFree 10) small_line set f.0),
  (
    counted_line (codes "trace") (free_by_test 10 (codes "trace") refl) (length text) g.0.count,
    all_joined IsLine text (set_lines sets texts) g.0.each (sets_lines sets texts f.1 g.1),
  ),
)

pub clause_lines : (clause : List Literal) → AllByRecursion IsLiteral clause → IsLine (clause_line clause)
clause_lines clause f = spaced_line (codes "clause" ∷ map literal_text clause) (free_by_test 10 (codes "clause") refl, all_texts literal_text IsLiteral (IsFree 10) literal_line clause f)

pub step_lines : (s : Step) → IsWritableStep s → IsLine (step_line s)
step_lines s f =
    spaced_line (codes "step" ∷ (map literal_text s.clause ++ codes ":" ∷ map decimal s.hints)) (
      free_by_test 10 (codes "step") refl,
      all_joined (IsFree 10) (map literal_text s.clause) (codes ":" ∷ map decimal s.hints) (all_texts literal_text IsLiteral (IsFree 10) literal_line s.clause f.clause)
          (free_by_test 10 (codes ":") refl, all_texts decimal IsHint (IsFree 10) hint_line s.hints f.hints),
    )

parts_lines : (word : Line) → IsFree 10 word → (steps : List Step) → AreWritable steps → AllByRecursion IsLine (part_lines word steps)
parts_lines word w steps f = (counted_line word w (length steps) f.count, all_texts step_line IsWritableStep IsLine step_lines steps f.each)

all_lines : (v : Version) (c : Certificate) → IsWritable c → AllByRecursion IsLine (lines_of v c)
all_lines v c f = (
  version_lines v,
  (
    numbers_lines v c f,
    (
      counted_line (codes "sets") (free_by_test 10 (codes "sets") refl) (length c.sets) f.count_of_sets,
      all_joined IsLine (set_lines c.sets c.traces) _ (sets_lines c.sets c.traces f.sets f.traces) (
        counted_line (codes "invariant") (free_by_test 10 (codes "invariant") refl) (length c.invariant) f.count_of_clauses,
        all_joined IsLine (map clause_line c.invariant) _ (all_texts clause_line (AllByRecursion IsLiteral) IsLine clause_lines c.invariant f.clauses)
            (all_joined IsLine (part_lines (codes "first") c.first) _ (parts_lines (codes "first") (free_by_test 10 (codes "first") refl) c.first f.first)
            (all_joined IsLine (part_lines (codes "next") c.next) _ (parts_lines (codes "next") (free_by_test 10 (codes "next") refl) c.next f.next)
            (all_joined IsLine (part_lines (codes "bad") c.bad) _ (parts_lines (codes "bad") (free_by_test 10 (codes "bad") refl) c.bad f.bad) (free_by_test 10 (codes "end") refl, tt)))),
      ),
    ),
  ),
)

pub are_lines : (lines : List Line) (c : Certificate) → AreLinesOf lines c → AllByRecursion IsLine lines
are_lines lines c h = subst (AllByRecursion IsLine) (sym h.1.2) (all_lines h.1.0 c h.0)

pub begun_lines : (lines : List Line) → BeginsOne lines → AllByRecursion IsLine lines
begun_lines lines b = all_front IsLine lines b.1 (are_lines (lines ++ b.1) b.0 b.2)

-- lines that begin a certificate are begun by lines that begin one
begun_before : (xs ys : List Line) → BeginsOne (xs ++ ys) → BeginsOne xs
begun_before xs ys b = (b.0, ys ++ b.1, subst (λ lines. AreLinesOf lines b.0) (append_assoc xs ys b.1) b.2)

pub whole_begun : (lines : List Line) (c : Certificate) → AreLinesOf lines c → BeginsOne lines
whole_begun lines c h = (c, [], subst (λ ls. AreLinesOf ls c) (sym (append_none lines)) h)

-- The lines of a certificate after those before a bad line would have the bad line first.
no_later : (bytes : List ℕ) (number : ℕ) (bad : IsBadLine bytes number) (z : Line) (zs : List Line) (m : List ℕ) → bad.line ++ bad.after ≡ fed (z ∷ zs) ++ m → BeginsOne (bad.before ++ z ∷ zs) → ⊥
no_later bytes number bad z zs m e begun = by_cause bad.cause
  where
    regrouped : bad.before ++ z ∷ zs ≡ (bad.before ++ z ∷ []) ++ zs
    regrouped = sym (append_assoc bad.before (z ∷ []) zs)

    one_more : BeginsOne (bad.before ++ z ∷ [])
    one_more = begun_before (bad.before ++ z ∷ []) zs (subst BeginsOne regrouped begun)

    last_of_all : (xs : List Line) → AllByRecursion IsLine (xs ++ z ∷ []) → IsLine z
    last_of_all [] h = h.0
    last_of_all (x ∷ xs) h = last_of_all xs h.1

    is_line : IsLine z
    is_line = last_of_all bad.before (begun_lines (bad.before ++ z ∷ []) one_more)

    by_cause : ((more : List ℕ) × (bad.after ≡ 10 ∷ more) × (BeginsOne (bad.before ++ bad.line ∷ []) → ⊥)) ⊎ ((bad.after ≡ []) × (bad.line ≡ [] → ⊥)) → ⊥
    by_cause (inl c) =
        let fronts : (bad.line ≡ z) × (c.0 ≡ fed zs ++ m) =
        same_front 10 bad.line z c.0 (fed zs ++ m) bad.is_line is_line (ap (λ a. bad.line ++ a) (sym c.1) ∙ e ∙ grouped z zs m) in
        c.2 (subst (λ l. BeginsOne (bad.before ++ l ∷ [])) (sym fronts.0) one_more)
    by_cause (inr c) = no_feed bad.line z zs m bad.is_line (sym (append_none bad.line) ∙ ap (λ a. bad.line ++ a) (sym c.0) ∙ e)

-- a bad line has some bytes, or a line feed
some_bytes : (bytes : List ℕ) (number : ℕ) (bad : IsBadLine bytes number) → bad.line ++ bad.after ≡ [] → ⊥
some_bytes bytes number bad e = by_cause bad.cause
  where
    nothing_before : (xs ys : List ℕ) → xs ++ ys ≡ [] → (xs ≡ []) × (ys ≡ [])
    nothing_before [] ys e = (refl, e)
    nothing_before (x ∷ xs) ys e = let bad : length (x ∷ (xs ++ ys)) ≡ length {A = ℕ} [] = ap (length {A = ℕ}) e in absurd (omega (arith, bad))

    by_cause : ((more : List ℕ) × (bad.after ≡ 10 ∷ more) × (BeginsOne (bad.before ++ bad.line ∷ []) → ⊥)) ⊎ ((bad.after ≡ []) × (bad.line ≡ [] → ⊥)) → ⊥
    by_cause (inl c) =
        let short : length (10 ∷ c.0) ≡ length {A = ℕ} [] = ap (length {A = ℕ}) (sym c.1 ∙ (nothing_before bad.line bad.after e).1) in omega (arith, short)
    by_cause (inr c) = c.1 (nothing_before bad.line bad.after e).0

bad_not_begun : (bytes : List ℕ) (number : ℕ) → IsBadLine bytes number → (lines : List Line) → bytes ≡ fed lines → BeginsOne lines → ⊥
bad_not_begun bytes number bad lines e begun =
    by_side (comparable bad.before lines (bad.line ++ bad.after) [] (begun_lines bad.before bad.begun) (begun_lines lines begun) (sym bad.lie ∙ e ∙ sym (append_none (fed lines))))
  where
    by_rest : (zs : List Line) → lines ≡ bad.before ++ zs → bad.line ++ bad.after ≡ fed zs ++ [] → ⊥
    by_rest [] f h = some_bytes bytes number bad h
    by_rest (z ∷ zs) f h = no_later bytes number bad z zs [] h (subst BeginsOne f begun)

    by_other : (zs : List Line) → [] ≡ fed zs ++ (bad.line ++ bad.after) → ⊥
    by_other [] h = some_bytes bytes number bad (sym h)
    by_other (z ∷ zs) h = no_feed [] z zs (bad.line ++ bad.after) tt h

    by_side : ((zs : List Line) × (lines ≡ bad.before ++ zs) × (bad.line ++ bad.after ≡ fed zs ++ [])) ⊎ ((zs : List Line) × (bad.before ≡ lines ++ zs) × ([] ≡ fed zs ++ (bad.line ++ bad.after))) → ⊥
    by_side (inl h) = by_rest h.0 h.1 h.2
    by_side (inr h) = by_other h.0 h.2

one_bad : (bytes : List ℕ) (i j : ℕ) → IsBadLine bytes i → IsBadLine bytes j → i ≡ j
one_bad bytes i j a b =
    by_side (comparable a.before b.before (a.line ++ a.after) (b.line ++ b.after) (begun_lines a.before a.begun) (begun_lines b.before b.begun) (sym a.lie ∙ b.lie))
  where
    by_rest : (i j : ℕ) (a : IsBadLine bytes i) (b : IsBadLine bytes j) (zs : List Line) → b.before ≡ a.before ++ zs → a.line ++ a.after ≡ fed zs ++ (b.line ++ b.after) → i ≡ j
    by_rest i j a b [] f h = a.place ∙ ap (λ (ls : List Line). suc (length ls)) (sym (append_none a.before) ∙ sym f) ∙ sym b.place
    by_rest i j a b (z ∷ zs) f h = absurd (no_later bytes i a z zs (b.line ++ b.after) h (subst BeginsOne f b.begun))

    by_side : ((zs : List Line) × (b.before ≡ a.before ++ zs) × (a.line ++ a.after ≡ fed zs ++ (b.line ++ b.after))) ⊎ ((zs : List Line) × (a.before ≡ b.before ++ zs) × (b.line ++ b.after ≡ fed zs ++ (a.line ++ a.after))) → i ≡ j
    by_side (inl h) = by_rest i j a b h.0 h.1 h.2
    by_side (inr h) = sym (by_rest j i b a h.0 h.1 h.2)

one_end : (bytes : List ℕ) (i j : ℕ) → EndsBefore bytes i → EndsBefore bytes j → i ≡ j
one_end bytes i j a b =
    a.place ∙ ap (λ (ls : List Line). suc (length ls)) (same_fed bytes a.lines b.lines (begun_lines a.lines a.begun) (begun_lines b.lines b.begun) a.lie b.lie) ∙ sym b.place

pub one_wrong_line : OneWrongLine
one_wrong_line = (one_bad, one_end, λ bytes i j a b. bad_not_begun bytes i a b.lines b.lie b.begun)

pub spelled_has_none : SpelledHasNone
spelled_has_none = (
  λ bytes c i spells bad. bad_not_begun bytes i bad spells.0 spells.1 (whole_begun spells.0 c spells.2),
  λ bytes c i spells ends.
      ends.unfinished c
      (subst (λ ls. AreLinesOf ls c) (same_fed bytes spells.0 ends.lines (are_lines spells.0 c spells.2) (begun_lines ends.lines ends.begun) spells.1 ends.lie) spells.2),
)

pub one_spelled : OneCertificate
one_spelled bytes c d h k =
    let same : h.0 ≡ k.0 = same_fed bytes h.0 k.0 (are_lines h.0 c h.2) (are_lines k.0 d k.2) h.1 k.1 in
    one_certificate h.2.1.0 k.2.1.0 c d h.2.0 k.2.0 h.2.1.1 k.2.1.1 (sym h.2.1.2 ∙ same ∙ k.2.1.2)
