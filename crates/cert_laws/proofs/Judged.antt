-- Each bytes spell a certificate, have a first bad line, or end before a line.
use Rattle.std.proofs.Common.{◌≡◌, ◌⊎◌, inl, inr, ℕ, zero, suc, false, List, [], ◌∷◌, ◌++◌, length, map, Option, Some, None, refl, sym, ◌∙◌, ap, subst, arith, codes, append_assoc}
use Rattle.std.specs.Option.{option_map}
use Rattle.std.specs.List.{AllByRecursion}
use Rattle.sat_clauses.specs.Literal.{Literal}
use Rattle.sat_clauses.specs.declared.step.Step.{Step}
use Rattle.cert_laws.specs.Certificate.{Certificate, Part, part_first, part_next, part_bad}
use Rattle.cut_text_laws.specs.Lines.{Line, counted, fed, IsLine}
use Rattle.cert_laws.specs.CertificateText.{Version, version_one, version_two, version_line, numbers_line, set_line, set_lines, clause_line, step_line, part_lines, lines_of, IsSmall, IsCount, IsLiteral, IsWritableStep, AreWritable, IsWritableText, IsWritable, CanSay, AreLinesOf, SpellsCertificate, BeginsOne, IsBadLine, EndsBefore}
use Rattle.cert_laws.specs.LineReading.{count_in, set_in, clause_in, step_in}
use Rattle.cert_laws.specs.ExpectedLines.{Expect, a_version, the_numbers_of, sets_count, a_set_line, trace_count, a_text_line, clauses_count, a_clause_line, steps_count, a_step_line, the_end, no_line, sets_left, text_left, clauses_left, after_part, steps_left, part_word, numbers_in, after, after_lines, TakenLinesBegin, EachTextIsJudged}
use Rattle.cut_text_laws.proofs.Words.{free_by_test}
use Rattle.cert_laws.proofs.LineReading.{counts_exact, sets_exact, clauses_exact, steps_exact}
use Rattle.cert_laws.proofs.FirstWrong.{counted_line, clause_lines, step_lines, numbers_lines}
use Rattle.cut_text_laws.proofs.Cuts.{grouped, Cut, cut, fed_joined}
use Rattle.cert_laws.proofs.Expecting.{Finishes, none_after, after_joined, is_done, not_done, free_word, free_trace, numbers_exact, whole_then}
use Rattle.std.proofs.lemmas.List.{append-nil as append_none}
use Rattle.std.proofs.lemmas.Option.{none-some as never}
use Rattle.cut_text_laws.proofs.Separators.{all_front}
use Rattle.base_values.proofs.ListLaws.{all_joined}

-- Forwards: a certificate's lines are taken.
step_on : {A : Type 0} (f : A → Expect) (o : Option A) (a : A) (lines : List Line) → o ≡ Some a → after_lines (option_map f o) lines ≡ after_lines (Some (f a)) lines
step_on f o a lines e = ap (λ p. after_lines (option_map f p) lines) e

steps_on : (p : Part) (steps : List Step) (more : List Line) → AllByRecursion IsWritableStep steps → after_lines (Some (steps_left p (length steps))) (map step_line steps ++ more) ≡ after_lines (Some (after_part p)) more
steps_on p [] more h = refl
steps_on p (s ∷ steps) more h =
    step_on (λ x. steps_left p (length steps)) (step_in (step_line s)) s (map step_line steps ++ more) ((steps_exact (step_line s) s).1 (refl, h.0)) ∙ steps_on p steps more h.1

part_on : (p : Part) (steps : List Step) (more : List Line) → AreWritable steps → after_lines (Some (steps_count p)) (part_lines (part_word p) steps ++ more) ≡ after_lines (Some (after_part p)) more
part_on p steps more h =
    step_on (steps_left p) (count_in (part_word p) (counted (part_word p) (length steps))) (length steps) (map step_line steps ++ more)
    ((counts_exact (part_word p) (counted (part_word p) (length steps)) (length steps) (free_word p)).1 (refl, h.count)) ∙ steps_on p steps more h.each

clauses_on : (clauses : List (List Literal)) (more : List Line) → AllByRecursion (AllByRecursion IsLiteral) clauses → after_lines (Some (clauses_left (length clauses))) (map clause_line clauses ++ more) ≡ after_lines (Some (steps_count part_first)) more
clauses_on [] more h = refl
clauses_on (c ∷ clauses) more h =
    step_on (λ x. clauses_left (length clauses)) (clause_in (clause_line c)) c (map clause_line clauses ++ more) ((clauses_exact (clause_line c) c).1 (refl, h.0)) ∙ clauses_on clauses more h.1

text_on : (text : List Line) (k : ℕ) (more : List Line) → after_lines (Some (text_left (length text) k)) (text ++ more) ≡ after_lines (Some (sets_left k)) more
text_on [] k more = refl
text_on (l ∷ text) k more = text_on text k more

sets_on : (sets : List (List ℕ)) (texts : List (List Line)) (more : List Line) → length texts ≡ length sets → AllByRecursion (AllByRecursion IsSmall) sets → AllByRecursion IsWritableText texts →
    after_lines (Some (sets_left (length sets))) (set_lines sets texts ++ more) ≡ after_lines (Some clauses_count) more
sets_on [] texts more e f g = refl
sets_on (s ∷ sets) [] more e f g = absurd (omega (arith, e))
sets_on (s ∷ sets) (t ∷ texts) more e f g =
    step_on (λ x. trace_count (length sets)) (set_in (set_line s)) s (counted (codes "trace") (length t) ∷ ((t ++ set_lines sets texts) ++ more)) ((sets_exact (set_line s) s).1 (refl, f.0))
    ∙ step_on (λ n. text_left n (length sets)) (count_in (codes "trace") (counted (codes "trace") (length t))) (length t) ((t ++ set_lines sets texts) ++ more)
    ((counts_exact (codes "trace") (counted (codes "trace") (length t)) (length t) free_trace).1 (refl, g.0.count))
    ∙ ap (after_lines (Some (text_left (length t) (length sets)))) (append_assoc t (set_lines sets texts) more)
    ∙ text_on t (length sets) (set_lines sets texts ++ more) ∙ sets_on sets texts more (omega (arith, e)) f.1 g.1

end_on : after_lines (Some the_end) (codes "end" ∷ []) ≡ Some no_line
end_on = refl

version_on : (v : Version) → after a_version (version_line v) ≡ Some (the_numbers_of v)
version_on version_one = refl
version_on version_two = refl

pub numbers_on : (v : Version) (c : Certificate) → IsWritable c → CanSay v c → numbers_in v (numbers_line v c) ≡ Some (record { bits = c.bits; faults = c.faults; size = c.size })
numbers_on version_one c w s = (numbers_exact version_one (numbers_line version_one c) (record { bits = c.bits; faults = c.faults; size = c.size })).1 (refl, record { bits = w.bits; faults = w.faults; size = w.size; says = s })
numbers_on version_two c w s = (numbers_exact version_two (numbers_line version_two c) (record { bits = c.bits; faults = c.faults; size = c.size })).1 (refl, record { bits = w.bits; faults = w.faults; size = w.size; says = tt })

abbrev parts_lines : Certificate → List Line
parts_lines c = part_lines (codes "first") c.first ++ (part_lines (codes "next") c.next ++ (part_lines (codes "bad") c.bad ++ codes "end" ∷ []))

abbrev after_numbers : Certificate → List Line
after_numbers c = counted (codes "sets") (length c.sets) ∷ (set_lines c.sets c.traces ++ counted (codes "invariant") (length c.invariant) ∷ (map clause_line c.invariant ++ parts_lines c))

whole_on : (v : Version) (c : Certificate) → IsWritable c → CanSay v c → Finishes (Some a_version) (lines_of v c)
whole_on v c w s =
    ap (λ o. after_lines o (numbers_line v c ∷ after_numbers c)) (version_on v)
    ∙ step_on (λ x. sets_count) (numbers_in v (numbers_line v c)) (record { bits = c.bits; faults = c.faults; size = c.size }) (after_numbers c) (numbers_on v c w s)
    ∙ step_on sets_left (count_in (codes "sets") (counted (codes "sets") (length c.sets))) (length c.sets) (set_lines c.sets c.traces ++ counted (codes "invariant") (length c.invariant) ∷ (map clause_line c.invariant ++ parts_lines c))
    ((counts_exact (codes "sets") (counted (codes "sets") (length c.sets)) (length c.sets) (free_by_test 32 (codes "sets") refl)).1 (refl, w.count_of_sets))
    ∙ sets_on c.sets c.traces (counted (codes "invariant") (length c.invariant) ∷ (map clause_line c.invariant ++ parts_lines c)) w.one_each w.sets w.traces
    ∙ step_on clauses_left (count_in (codes "invariant") (counted (codes "invariant") (length c.invariant))) (length c.invariant) (map clause_line c.invariant ++ parts_lines c)
    ((counts_exact (codes "invariant") (counted (codes "invariant") (length c.invariant)) (length c.invariant) (free_by_test 32 (codes "invariant") refl)).1 (refl, w.count_of_clauses))
    ∙ clauses_on c.invariant (parts_lines c) w.clauses
    ∙ part_on part_first c.first (part_lines (codes "next") c.next ++ (part_lines (codes "bad") c.bad ++ codes "end" ∷ [])) w.first
    ∙ part_on part_next c.next (part_lines (codes "bad") c.bad ++ codes "end" ∷ []) w.next
    ∙ part_on part_bad c.bad (codes "end" ∷ []) w.bad ∙ end_on

lines_finish : (lines : List Line) (c : Certificate) → AreLinesOf lines c → Finishes (Some a_version) lines
lines_finish lines c h = subst (Finishes (Some a_version)) (sym h.1.2) (whole_on h.1.0 c h.0 h.1.1)

-- Whatever is expected, some lines lead to the end.
record Completion (e : Expect) : Type 0 where
  pub lines : List Line
  pub are_lines : AllByRecursion IsLine lines
  pub finishes : Finishes (Some e) lines

complete_by : (e f : Expect) (l : Line) → IsLine l → after e l ≡ Some f → Completion f → Completion e
complete_by e f l h t c = record { lines = l ∷ c.lines; are_lines = (h, c.are_lines); finishes = ap (λ o. after_lines o c.lines) t ∙ c.finishes }

no_count : IsCount 0
no_count = omega arith

nothing_wanted : Completion no_line
nothing_wanted = record { lines = []; are_lines = tt; finishes = refl }

complete_end : Completion the_end
complete_end = complete_by the_end no_line (codes "end") (free_by_test 10 (codes "end") refl) refl nothing_wanted

word_lines : (p : Part) → IsLine (part_word p)
word_lines part_first = free_by_test 10 (codes "first") refl
word_lines part_next = free_by_test 10 (codes "next") refl
word_lines part_bad = free_by_test 10 (codes "bad") refl

complete_count : (p : Part) → Completion (after_part p) → Completion (steps_count p)
complete_count p c =
    complete_by (steps_count p) (after_part p) (counted (part_word p) 0) (counted_line (part_word p) (word_lines p) 0 no_count)
    (ap (option_map (steps_left p)) ((counts_exact (part_word p) (counted (part_word p) 0) 0 (free_word p)).1 (refl, no_count))) c

complete_part : (p : Part) → Completion (steps_count p)
complete_part part_bad = complete_count part_bad complete_end
complete_part part_next = complete_count part_next (complete_count part_bad complete_end)
complete_part part_first = complete_count part_first (complete_count part_next (complete_count part_bad complete_end))

complete_after : (p : Part) → Completion (after_part p)
complete_after part_first = complete_part part_next
complete_after part_next = complete_part part_bad
complete_after part_bad = complete_end

abbrev no_step : Step
no_step = record { clause = []; hints = [] }

complete_steps : (p : Part) (n : ℕ) → Completion (steps_left p n)
complete_steps p zero = complete_after p
complete_steps p (suc n) =
    complete_by (a_step_line p n) (steps_left p n) (step_line no_step) (step_lines no_step (record { clause = tt; hints = tt }))
    (ap (option_map (λ x. steps_left p n)) ((steps_exact (step_line no_step) no_step).1 (refl, record { clause = tt; hints = tt }))) (complete_steps p n)

complete_clauses : (n : ℕ) → Completion (clauses_left n)
complete_clauses zero = complete_part part_first
complete_clauses (suc n) =
    complete_by (a_clause_line n) (clauses_left n) (clause_line []) (clause_lines [] tt) (ap (option_map (λ x. clauses_left n)) ((clauses_exact (clause_line []) []).1 (refl, tt))) (complete_clauses n)

complete_invariant : Completion clauses_count
complete_invariant =
    complete_by clauses_count (clauses_left 0) (counted (codes "invariant") 0) (counted_line (codes "invariant") (free_by_test 10 (codes "invariant") refl) 0 no_count)
    (ap (option_map clauses_left) ((counts_exact (codes "invariant") (counted (codes "invariant") 0) 0 (free_by_test 32 (codes "invariant") refl)).1 (refl, no_count))) (complete_clauses 0)

complete_trace : (k : ℕ) → Completion (sets_left k) → Completion (trace_count k)
complete_trace k c =
    complete_by (trace_count k) (sets_left k) (counted (codes "trace") 0) (counted_line (codes "trace") (free_by_test 10 (codes "trace") refl) 0 no_count)
    (ap (option_map (λ n. text_left n k)) ((counts_exact (codes "trace") (counted (codes "trace") 0) 0 free_trace).1 (refl, no_count))) c

complete_sets : (k : ℕ) → Completion (sets_left k)
complete_sets zero = complete_invariant
complete_sets (suc k) =
    complete_by (a_set_line k) (trace_count k) (set_line []) (free_by_test 10 (codes "set") refl) (ap (option_map (λ x. trace_count k)) ((sets_exact (set_line []) []).1 (refl, tt))) (complete_trace k (complete_sets k))

complete_text : (n k : ℕ) → Completion (text_left n k)
complete_text zero k = complete_sets k
complete_text (suc n) k = complete_by (a_text_line n k) (text_left n k) [] tt refl (complete_text n k)

complete_counts : Completion sets_count
complete_counts =
    complete_by sets_count (sets_left 0) (counted (codes "sets") 0) (counted_line (codes "sets") (free_by_test 10 (codes "sets") refl) 0 no_count)
    (ap (option_map sets_left) ((counts_exact (codes "sets") (counted (codes "sets") 0) 0 (free_by_test 32 (codes "sets") refl)).1 (refl, no_count))) (complete_sets 0)

-- a certificate of nothing
abbrev nothing_certified : Certificate
nothing_certified = record { bits = 0; faults = 0; size = 0; sets = []; traces = []; invariant = []; first = []; next = []; bad = [] }

no_steps : AreWritable []
no_steps = record { count = omega arith; each = tt }

nothing_writable : IsWritable nothing_certified
nothing_writable = record {
  one_each = refl;
  bits = omega arith;
  faults = omega arith;
  size = omega arith;
  count_of_sets = omega arith;
  sets = tt;
  traces = tt;
  count_of_clauses = omega arith;
  clauses = tt;
  first = no_steps;
  next = no_steps;
  bad = no_steps;
}

nothing_said : (v : Version) → CanSay v nothing_certified
nothing_said version_one = refl
nothing_said version_two = tt

complete_numbers : (v : Version) → Completion (the_numbers_of v)
complete_numbers v =
    complete_by (the_numbers_of v) sets_count (numbers_line v nothing_certified) (numbers_lines v nothing_certified nothing_writable)
    (ap (option_map (λ x. sets_count)) (numbers_on v nothing_certified nothing_writable (nothing_said v))) complete_counts

complete : (e : Expect) → Completion e
complete a_version = complete_by a_version (the_numbers_of version_two) (version_line version_two) (free_by_test 10 (codes "xsap-certificate 2") refl) refl (complete_numbers version_two)
complete (the_numbers_of v) = complete_numbers v
complete sets_count = complete_counts
complete (a_set_line k) = complete_sets (suc k)
complete (trace_count k) = complete_trace k (complete_sets k)
complete (a_text_line n k) = complete_text (suc n) k
complete clauses_count = complete_invariant
complete (a_clause_line n) = complete_clauses (suc n)
complete (steps_count p) = complete_part p
complete (a_step_line p n) = complete_steps p (suc n)
complete the_end = complete_end
complete no_line = nothing_wanted

-- Lines that are taken begin a certificate, and others don't.
begins : (lines : List Line) (e : Expect) → AllByRecursion IsLine lines → after_lines (Some a_version) lines ≡ Some e → BeginsOne lines
begins lines e f h =
    let c : Completion e = complete e in
    let whole : (d : Certificate) × AreLinesOf (lines ++ c.lines) d =
    whole_then (lines ++ c.lines) (all_joined IsLine lines c.lines f c.are_lines) (after_joined (Some a_version) lines c.lines ∙ ap (λ o. after_lines o c.lines) h ∙ c.finishes) in
    (whole.0, c.lines, whole.1)

not_begun : (lines : List Line) → after_lines (Some a_version) lines ≡ None → BeginsOne lines → ⊥
not_begun lines h b =
    never no_line (sym (none_after b.1) ∙ ap (λ o. after_lines o b.1) (sym h) ∙ sym (after_joined (Some a_version) lines b.1) ∙ lines_finish (lines ++ b.1) b.0 b.2)

-- Lines are taken to their end, or up to a first one that is not.
record Stops (e : Expect) (lines : List Line) : Type 0 where
  pub good : List Line
  pub line : Line
  pub more : List Line
  pub expected : Expect
  pub is : lines ≡ good ++ line ∷ more
  pub taken_so_far : after_lines (Some e) good ≡ Some expected
  pub not_taken : after expected line ≡ None

scan : (e : Expect) (lines : List Line) → ((f : Expect) × (after_lines (Some e) lines ≡ Some f)) ⊎ Stops e lines
scan e [] = inl (e, refl)
scan e (l ∷ lines) = by_next (after e l) refl (λ f. scan f lines)
  where
    on : (f : Expect) → after e l ≡ Some f → ((g : Expect) × (after_lines (Some f) lines ≡ Some g)) ⊎ Stops f lines → ((g : Expect) × (after_lines (Some e) (l ∷ lines) ≡ Some g)) ⊎ Stops e (l ∷ lines)
    on f t (inl h) = inl (h.0, ap (λ o. after_lines o lines) t ∙ h.1)
    on f t (inr s) = inr (record {
      good = l ∷ s.good;
      line = s.line;
      more = s.more;
      expected = s.expected;
      is = ap (λ ls. l ∷ ls) s.is;
      taken_so_far = ap (λ o. after_lines o s.good) t ∙ s.taken_so_far;
      not_taken = s.not_taken;
    })

    by_next : (o : Option Expect) → after e l ≡ o → ((f : Expect) → ((g : Expect) × (after_lines (Some f) lines ≡ Some g)) ⊎ Stops f lines) → ((g : Expect) × (after_lines (Some e) (l ∷ lines) ≡ Some g)) ⊎ Stops e (l ∷ lines)
    by_next None t rest = inr (record { good = []; line = l; more = lines; expected = e; is = refl; taken_so_far = refl; not_taken = t })
    by_next (Some f) t rest = on f t (rest f)

all_last : {A : Type 0} (P : A → Type 0) (xs ys : List A) → AllByRecursion P (xs ++ ys) → AllByRecursion P ys
all_last P [] ys h = h
all_last P (x ∷ xs) ys h = all_last P xs ys h.1

done_or_not : (e : Expect) → (e ≡ no_line) ⊎ (is_done e ≡ false)
done_or_not no_line = inl refl
done_or_not a_version = inr refl
done_or_not (the_numbers_of v) = inr refl
done_or_not sets_count = inr refl
done_or_not (a_set_line k) = inr refl
done_or_not (trace_count k) = inr refl
done_or_not (a_text_line n k) = inr refl
done_or_not clauses_count = inr refl
done_or_not (a_clause_line n) = inr refl
done_or_not (steps_count p) = inr refl
done_or_not (a_step_line p n) = inr refl
done_or_not the_end = inr refl

module _ (bytes : List ℕ) where
  abbrev Judged : Type 0
  Judged = ((c : Certificate) × SpellsCertificate bytes c) ⊎ (((n : ℕ) × IsBadLine bytes n) ⊎ ((n : ℕ) × EndsBefore bytes n))

  bad_line : (c : Cut bytes) → Stops a_version c.lines → Judged
  bad_line c s =
      let all : AllByRecursion IsLine (s.good ++ s.line ∷ s.more) = subst (AllByRecursion IsLine) s.is c.are_lines in
      inr (inl (
        suc (length s.good),
        record {
          before = s.good;
          line = s.line;
          after = 10 ∷ (fed s.more ++ c.tail);
          is_line = (all_last IsLine s.good (s.line ∷ s.more) all).0;
          lie = c.lie ∙ ap (λ ls. fed ls ++ c.tail) s.is ∙ ap (λ bs. bs ++ c.tail) (fed_joined s.good (s.line ∷ s.more)) ∙ append_assoc (fed s.good) (fed (s.line ∷ s.more)) c.tail
              ∙ ap (λ bs. fed s.good ++ bs) (grouped s.line s.more c.tail);
          begun = begins s.good s.expected (all_front IsLine s.good (s.line ∷ s.more) all) s.taken_so_far;
          place = refl;
          cause = inl (fed s.more ++ c.tail, refl, not_begun (s.good ++ s.line ∷ []) (after_joined (Some a_version) s.good (s.line ∷ []) ∙ ap (λ o. after_lines o (s.line ∷ [])) s.taken_so_far ∙ s.not_taken));
        },
      ))

  all_taken : (lines : List Line) (tail : Line) → bytes ≡ fed lines ++ tail → AllByRecursion IsLine lines → IsLine tail → (e : Expect) → after_lines (Some a_version) lines ≡ Some e → (e ≡ no_line) ⊎ (is_done e ≡ false) → Judged
  all_taken lines [] lie f g e h (inl d) =
      let whole : (c : Certificate) × AreLinesOf lines c = whole_then lines f (h ∙ ap (λ x. Some x) d) in
      inl (whole.0, (lines, lie ∙ append_none (fed lines), whole.1))
  all_taken lines [] lie f g e h (inr d) = inr (inr (
    suc (length lines),
    record {
      lines = lines;
      lie = lie ∙ append_none (fed lines);
      begun = begins lines e f h;
      unfinished = λ c are. not_done e d (sym h ∙ lines_finish lines c are);
      place = refl;
    },
  ))
  all_taken lines (t ∷ tail) lie f g e h d = inr (inl (
    suc (length lines),
    record {
      before = lines;
      line = t ∷ tail;
      after = [];
      is_line = g;
      lie = lie ∙ ap (λ bs. fed lines ++ bs) (sym (append_none (t ∷ tail)));
      begun = begins lines e f h;
      place = refl;
      cause = inr (refl, λ x. not_empty x);
    },
  ))
    where
      not_empty : (t ∷ tail) ≡ [] → ⊥
      not_empty x = let bad : length (t ∷ tail) ≡ length {A = ℕ} [] = ap (length {A = ℕ}) x in omega (arith, bad)

pub each_text_judged : EachTextIsJudged
each_text_judged bytes = by_scan (cut bytes) (scan a_version (cut bytes).lines)
  where
    by_scan : (c : Cut bytes) → ((f : Expect) × (after_lines (Some a_version) c.lines ≡ Some f)) ⊎ Stops a_version c.lines → Judged bytes
    by_scan c (inl h) = all_taken bytes c.lines c.tail c.lie c.are_lines c.is_line h.0 h.1 (done_or_not h.0)
    by_scan c (inr s) = bad_line bytes c s

pub taken_lines_begin : TakenLinesBegin
taken_lines_begin lines f = (
  ((λ h. begins lines h.0 f h.1), (λ b. some (after_lines (Some a_version) lines) refl b)),
  ((λ h. whole_then lines f h), (λ h. lines_finish lines h.0 h.1)),
)
  where
    some : (o : Option Expect) → after_lines (Some a_version) lines ≡ o → BeginsOne lines → (e : Expect) × (after_lines (Some a_version) lines ≡ Some e)
    some None h b = absurd (not_begun lines h b)
    some (Some e) h b = (e, h)
