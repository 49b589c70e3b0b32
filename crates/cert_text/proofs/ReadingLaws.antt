-- The reading line by line, and the lines of a certificate.
use Rattle.std.proofs.Common.{◌≡◌, ℕ, zero, suc, Bool, true, false, List, [], ◌∷◌, ◌++◌, length, map, Option, Some, None, refl, sym, ◌∙◌, ap, arith, codes, append_assoc, append-nil}
use Rattle.std.specs.Prelude.{if◌then◌else◌}
use Rattle.std.specs.Option.{option_map}
use Rattle.std.specs.List.{AllByRecursion}
use Rattle.sat_clauses.specs.Literal.{Literal}
use Rattle.sat_clauses.specs.declared.step.Step.{Step}
use Rattle.cut_text_laws.specs.Lines.{Line, counted}
use Rattle.cut_text_laws.proofs.Words.{free_by_test}
use Rattle.cert_laws.specs.Certificate.{Certificate}
use Rattle.cert_laws.specs.CertificateText.{version_one, version_two, version_line, numbers_line, set_line, set_lines, clause_line, step_line, part_lines, lines_of, IsSmall, IsLiteral, IsWritableStep, AreWritable, IsWritableText, IsWritable, CanSay}
use Rattle.cert_laws.specs.CertificateText.{Version as Named}
use Rattle.cert_laws.specs.LineReading.{count_in, set_in, clause_in, step_in}
use Rattle.cert_laws.specs.ExpectedLines.{numbers_in, part_word, after, after_lines, then_after, a_version, sets_count, trace_count, no_line}
use Rattle.cert_laws.specs.ExpectedLines.{Expect as Awaited, sets_left as sets_awaited, text_left as text_awaited, clauses_left as clauses_awaited, steps_left as steps_awaited}
use Rattle.cert_laws.proofs.LineReading.{counts_exact, sets_exact, clauses_exact, steps_exact}
use Rattle.cert_laws.proofs.Expecting.{free_word, free_trace}
use Rattle.cert_text.specs.declared.certificate.Certificate.{Certificate as Read}
use Rattle.cert_text.specs.declared.lines.Version.TheVariants as version
use Rattle.cert_text.specs.declared.reading.TextPart.{TextPart}
use Rattle.cert_text.specs.declared.reading.TextPart.TheVariants as part
use Rattle.cert_text.specs.declared.reading.Expect.{Expect}
use Rattle.cert_text.specs.declared.reading.Expect.TheVariants as expect
use Rattle.cert_text.specs.declared.reading.CertificateReading.{CertificateReading}
use Rattle.cert_text.specs.Expectations.{told, told_version, told_part}
use Rattle.cert_text.specs.CertificateReading.{sets_left, clauses_left, after_part, steps_left, text_left, with_numbers, with_set, with_clause, keeping, with_step, then_expecting, read_as, then_read, read_lines, unread}
use Rattle.cert_laws.proofs.Judged.{numbers_on}
use Rattle.smv_language.specs.Texts.{same_text}
use Rattle.cert_laws.proofs.OneText.{from_bad, from_next}

-- The reading expects what the definitions do.
fused : {A B C : Type 0} (f : A → B) (g : B → C) (h : A → C) → ((a : A) → h a ≡ g (f a)) → (o : Option A) → option_map h o ≡ option_map g (option_map f o)
fused f g h e None = refl
fused f g h e (Some a) = ap (λ c. Some c) (e a)

told_sets : (k : ℕ) → told (sets_left k) ≡ sets_awaited k
told_sets zero = refl
told_sets (suc k) = refl

told_clauses : (n : ℕ) → told (clauses_left n) ≡ clauses_awaited n
told_clauses zero = refl
told_clauses (suc n) = refl

told_steps : (p : TextPart) (n : ℕ) → told (steps_left p n) ≡ steps_awaited (told_part p) n
told_steps part.First zero = refl
told_steps part.Next zero = refl
told_steps part.Bad zero = refl
told_steps p (suc n) = refl

told_text : (n k : ℕ) (r : CertificateReading) → told (text_left n k r).expect ≡ text_awaited n k
told_text zero k r = told_sets k
told_text (suc n) k r = refl

abbrev awaited : CertificateReading → Awaited
awaited r = told r.expect

told_as : (e : Expect) (r : CertificateReading) (line : Line) → after (told e) line ≡ option_map awaited (read_as e r line)
told_as expect.Version r line = by (same_text line (version_line version_one)) (same_text line (version_line version_two))
  where
    by : (t u : Bool) → (if t then Some (told (expect.Numbers version.One)) else (if u then Some (told (expect.Numbers version.Two)) else None))
        ≡ option_map awaited (option_map (λ v. then_expecting r (expect.Numbers v)) (if t then Some version.One else (if u then Some version.Two else None)))
    by true u = refl
    by false true = refl
    by false false = refl
told_as (expect.Numbers v) r line = fused (with_numbers r) awaited (λ x. sets_count) (λ x. refl) (numbers_in (told_version v) line)
told_as expect.SetsCount r line = fused (λ n. then_expecting r (sets_left n)) awaited sets_awaited (λ n. sym (told_sets n)) (count_in (codes "sets") line)
told_as (expect.SetLine k) r line = fused (with_set k r) awaited (λ x. trace_count k) (λ s. refl) (set_in line)
told_as (expect.TraceCount k) r line = fused (λ n. text_left n k r) awaited (λ n. text_awaited n k) (λ n. sym (told_text n k r)) (count_in (codes "trace") line)
told_as (expect.TextLine n k) r line = ap (λ e. Some e) (sym (told_text n k (record r { trace = r.trace ++ line ∷ [] })))
told_as expect.ClausesCount r line = fused (λ n. then_expecting r (clauses_left n)) awaited clauses_awaited (λ n. sym (told_clauses n)) (count_in (codes "invariant") line)
told_as (expect.ClauseLine n) r line = fused (with_clause n r) awaited (λ x. clauses_awaited n) (λ c. sym (told_clauses n)) (clause_in line)
told_as (expect.StepsCount p) r line = fused (λ n. then_expecting r (steps_left p n)) awaited (steps_awaited (told_part p)) (λ n. sym (told_steps p n)) (count_in (part_word (told_part p)) line)
told_as (expect.StepLine p n) r line = fused (with_step p n r) awaited (λ x. steps_awaited (told_part p) n) (λ s. sym (told_steps p n)) (step_in line)
told_as expect.End r line = by (same_text line (codes "end"))
  where
    by : (t : Bool) → (if t then Some no_line else None) ≡ option_map awaited (option_map (then_expecting r) (if t then Some expect.NoLine else None))
    by true = refl
    by false = refl
told_as expect.NoLine r line = refl

told_then : (o : Option CertificateReading) (line : Line) → then_after (option_map awaited o) line ≡ option_map awaited (then_read o line)
told_then None line = refl
told_then (Some r) line = told_as r.expect r line

told_lines : (o : Option CertificateReading) (lines : List Line) → after_lines (option_map awaited o) lines ≡ option_map awaited (read_lines o lines)
told_lines o [] = refl
told_lines o (line ∷ lines) = ap (λ e. after_lines e lines) (told_then o line) ∙ told_lines (then_read o line) lines

pub reading_expects : (lines : List Line) → after_lines (Some a_version) lines ≡ option_map awaited (read_lines (Some unread) lines)
reading_expects lines = told_lines (Some unread) lines

pub read_joined : (o : Option CertificateReading) (xs ys : List Line) → read_lines o (xs ++ ys) ≡ read_lines (read_lines o xs) ys
read_joined o [] ys = refl
read_joined o (x ∷ xs) ys = read_joined (then_read o x) xs ys

-- The lines of a certificate give it.
-- a line that says something
says : {A : Type 0} (f : A → CertificateReading) (o : Option A) (a : A) (lines : List Line) → o ≡ Some a → read_lines (option_map f o) lines ≡ read_lines (Some (f a)) lines
says f o a lines e = ap (λ p. read_lines (option_map f p) lines) e

-- the steps of a derivation so far
abbrev kept : TextPart → Read → List Step → Read
kept part.First c steps = record c { first = steps }
kept part.Next c steps = record c { next = steps }
kept part.Bad c steps = record c { bad = steps }

abbrev in_part : TextPart → Expect → CertificateReading → List Step → CertificateReading
in_part p e r steps = record r { expect = e; certificate = kept p r.certificate steps }

kept_more : (p : TextPart) (c : Read) (steps : List Step) (s : Step) → keeping p (kept p c steps) s ≡ kept p c (steps ++ s ∷ [])
kept_more part.First c steps s = refl
kept_more part.Next c steps s = refl
kept_more part.Bad c steps s = refl

steps_on : (p : TextPart) (steps : List Step) (more : List Line) (r : CertificateReading) (done : List Step) → AllByRecursion IsWritableStep steps →
    read_lines (Some (in_part p (steps_left p (length steps)) r done)) (map step_line steps ++ more) ≡ read_lines (Some (in_part p (after_part p) r (done ++ steps))) more
steps_on p [] more r done h = ap (λ xs. read_lines (Some (in_part p (after_part p) r xs)) more) (sym (append-nil done))
steps_on p (s ∷ steps) more r done h =
    says (with_step p (length steps) (in_part p (expect.StepLine p (length steps)) r done)) (step_in (step_line s)) s (map step_line steps ++ more) ((steps_exact (step_line s) s).1 (refl, h.0))
    ∙ ap (λ c. read_lines (Some (let q : CertificateReading = record r { expect = steps_left p (length steps); certificate = c } in q)) (map step_line steps ++ more)) (kept_more p r.certificate done s)
    ∙ steps_on p steps more r (done ++ s ∷ []) h.1 ∙ ap (λ xs. read_lines (Some (in_part p (after_part p) r xs)) more) (append_assoc done (s ∷ []) steps)

part_on : (p : TextPart) (steps : List Step) (more : List Line) (r : CertificateReading) → AreWritable steps →
    read_lines (Some (in_part p (expect.StepsCount p) r [])) (part_lines (part_word (told_part p)) steps ++ more) ≡ read_lines (Some (in_part p (after_part p) r steps)) more
part_on p steps more r h =
    says (λ n. then_expecting (in_part p (expect.StepsCount p) r []) (steps_left p n)) (count_in (part_word (told_part p)) (counted (part_word (told_part p)) (length steps))) (length steps) (map step_line steps ++ more)
    ((counts_exact (part_word (told_part p)) (counted (part_word (told_part p)) (length steps)) (length steps) (free_word (told_part p))).1 (refl, h.count)) ∙ steps_on p steps more r [] h.each

-- the clauses so far
abbrev in_clauses : Expect → CertificateReading → List (List Literal) → CertificateReading
in_clauses e r clauses = record r { expect = e; certificate = record r.certificate { invariant = clauses } }

clauses_on : (clauses : List (List Literal)) (more : List Line) (r : CertificateReading) (done : List (List Literal)) → AllByRecursion (AllByRecursion IsLiteral) clauses →
    read_lines (Some (in_clauses (clauses_left (length clauses)) r done)) (map clause_line clauses ++ more) ≡ read_lines (Some (in_clauses (expect.StepsCount part.First) r (done ++ clauses))) more
clauses_on [] more r done h = ap (λ xs. read_lines (Some (in_clauses (expect.StepsCount part.First) r xs)) more) (sym (append-nil done))
clauses_on (c ∷ clauses) more r done h =
    says (with_clause (length clauses) (in_clauses (expect.ClauseLine (length clauses)) r done)) (clause_in (clause_line c)) c (map clause_line clauses ++ more) ((clauses_exact (clause_line c) c).1 (refl, h.0))
    ∙ clauses_on clauses more r (done ++ c ∷ []) h.1 ∙ ap (λ xs. read_lines (Some (in_clauses (expect.StepsCount part.First) r xs)) more) (append_assoc done (c ∷ []) clauses)

-- the lines of a trace so far, the sets and the traces
abbrev in_sets : Expect → List Line → CertificateReading → List (List ℕ) → List (List Line) → CertificateReading
in_sets e text r sets texts = record r { expect = e; trace = text; certificate = record r.certificate { sets = sets; traces = texts } }

text_on : (text more : List Line) (k : ℕ) (e : Expect) (done : List Line) (r : CertificateReading) (sets : List (List ℕ)) (texts : List (List Line)) →
    read_lines (Some (text_left (length text) k (in_sets e done r sets texts))) (text ++ more) ≡ read_lines (Some (in_sets (sets_left k) [] r sets (texts ++ (done ++ text) ∷ []))) more
text_on [] more k e done r sets texts = ap (λ t. read_lines (Some (in_sets (sets_left k) [] r sets (texts ++ t ∷ []))) more) (sym (append-nil done))
text_on (l ∷ text) more k e done r sets texts =
    text_on text more k (expect.TextLine (length text) k) (done ++ l ∷ []) r sets texts ∙ ap (λ t. read_lines (Some (in_sets (sets_left k) [] r sets (texts ++ t ∷ []))) more) (append_assoc done (l ∷ []) text)

sets_on : (sets : List (List ℕ)) (texts : List (List Line)) (more : List Line) (r : CertificateReading) (ss : List (List ℕ)) (ts : List (List Line)) → length texts ≡ length sets →
    AllByRecursion (AllByRecursion IsSmall) sets → AllByRecursion IsWritableText texts →
    read_lines (Some (in_sets (sets_left (length sets)) [] r ss ts)) (set_lines sets texts ++ more) ≡ read_lines (Some (in_sets expect.ClausesCount [] r (ss ++ sets) (ts ++ texts))) more
sets_on [] [] more r ss ts e f g =
    ap (λ xs. read_lines (Some (in_sets expect.ClausesCount [] r xs ts)) more) (sym (append-nil ss)) ∙ ap (λ ys. read_lines (Some (in_sets expect.ClausesCount [] r (ss ++ []) ys)) more) (sym (append-nil ts))
sets_on [] (t ∷ texts) more r ss ts e f g = absurd (omega (arith, e))
sets_on (s ∷ sets) [] more r ss ts e f g = absurd (omega (arith, e))
sets_on (s ∷ sets) (t ∷ texts) more r ss ts e f g =
    let k : ℕ = length sets in
    let after_set : CertificateReading = in_sets (expect.TraceCount k) [] r (ss ++ s ∷ []) ts in
    says (with_set k (in_sets (expect.SetLine k) [] r ss ts)) (set_in (set_line s)) s (counted (codes "trace") (length t) ∷ ((t ++ set_lines sets texts) ++ more)) ((sets_exact (set_line s) s).1 (refl, f.0))
    ∙ says (λ n. text_left n k after_set) (count_in (codes "trace") (counted (codes "trace") (length t))) (length t) ((t ++ set_lines sets texts) ++ more)
    ((counts_exact (codes "trace") (counted (codes "trace") (length t)) (length t) free_trace).1 (refl, g.0.count))
    ∙ ap (read_lines (Some (text_left (length t) k after_set))) (append_assoc t (set_lines sets texts) more)
    ∙ text_on t (set_lines sets texts ++ more) k (expect.TraceCount k) [] r (ss ++ s ∷ []) ts
    ∙ sets_on sets texts more r (ss ++ s ∷ []) (ts ++ t ∷ []) (omega (arith, e)) f.1 g.1
    ∙ ap (λ xs. read_lines (Some (in_sets expect.ClausesCount [] r xs ((ts ++ t ∷ []) ++ texts))) more) (append_assoc ss (s ∷ []) sets)
    ∙ ap (λ ys. read_lines (Some (in_sets expect.ClausesCount [] r (ss ++ s ∷ sets) ys)) more) (append_assoc ts (t ∷ []) texts)

-- the whole
abbrev unseen : Certificate → Read
unseen c = record { bits = c.bits; faults = c.faults; size = c.size; sets = c.sets; traces = c.traces; invariant = c.invariant; first = c.first; next = c.next; bad = c.bad }

abbrev pub wholly_read : Certificate → CertificateReading
wholly_read c = record { expect = expect.NoLine; trace = []; certificate = unseen c }

abbrev with_head : Expect → Certificate → CertificateReading
with_head e c = record unread { expect = e; certificate = record unread.certificate { bits = c.bits; faults = c.faults; size = c.size } }

abbrev from_first : Certificate → List Line
from_first c = part_lines (codes "first") c.first ++ from_next c

abbrev from_invariant : Certificate → List Line
from_invariant c = counted (codes "invariant") (length c.invariant) ∷ (map clause_line c.invariant ++ from_first c)

abbrev from_sets : Certificate → List Line
from_sets c = counted (codes "sets") (length c.sets) ∷ (set_lines c.sets c.traces ++ from_invariant c)

head_on : (v : Named) (c : Certificate) → IsWritable c → CanSay v c → read_lines (Some unread) (version_line v ∷ numbers_line v c ∷ from_sets c) ≡ read_lines (Some (with_head expect.SetsCount c)) (from_sets c)
head_on version_one c w s = says (with_numbers (then_expecting unread (expect.Numbers version.One))) (numbers_in version_one (numbers_line version_one c)) (record { bits = c.bits; faults = c.faults; size = c.size }) (from_sets c) (numbers_on version_one c w s)
head_on version_two c w s = says (with_numbers (then_expecting unread (expect.Numbers version.Two))) (numbers_in version_two (numbers_line version_two c)) (record { bits = c.bits; faults = c.faults; size = c.size }) (from_sets c) (numbers_on version_two c w s)

-- what the reading is after the sets, after the clauses, and after each derivation
abbrev after_sets : Expect → Certificate → CertificateReading
after_sets e c = in_sets e [] (with_head e c) c.sets c.traces

abbrev after_clauses : Expect → Certificate → CertificateReading
after_clauses e c = in_clauses e (after_sets e c) c.invariant

abbrev after_first : Expect → Certificate → CertificateReading
after_first e c = in_part part.First e (after_clauses e c) c.first

abbrev after_next : Expect → Certificate → CertificateReading
after_next e c = in_part part.Next e (after_first e c) c.next

sets_read : (c : Certificate) → IsWritable c → read_lines (Some (with_head expect.SetsCount c)) (from_sets c) ≡ read_lines (Some (after_sets expect.ClausesCount c)) (from_invariant c)
sets_read c w =
    says (λ n. then_expecting (with_head expect.SetsCount c) (sets_left n)) (count_in (codes "sets") (counted (codes "sets") (length c.sets))) (length c.sets) (set_lines c.sets c.traces ++ from_invariant c)
    ((counts_exact (codes "sets") (counted (codes "sets") (length c.sets)) (length c.sets) (free_by_test 32 (codes "sets") refl)).1 (refl, w.count_of_sets))
    ∙ sets_on c.sets c.traces (from_invariant c) (with_head expect.SetsCount c) [] [] w.one_each w.sets w.traces

clauses_read : (c : Certificate) → IsWritable c → read_lines (Some (after_sets expect.ClausesCount c)) (from_invariant c) ≡ read_lines (Some (after_clauses (expect.StepsCount part.First) c)) (from_first c)
clauses_read c w =
    says (λ n. then_expecting (after_sets expect.ClausesCount c) (clauses_left n)) (count_in (codes "invariant") (counted (codes "invariant") (length c.invariant))) (length c.invariant) (map clause_line c.invariant ++ from_first c)
    ((counts_exact (codes "invariant") (counted (codes "invariant") (length c.invariant)) (length c.invariant) (free_by_test 32 (codes "invariant") refl)).1 (refl, w.count_of_clauses))
    ∙ clauses_on c.invariant (from_first c) (after_sets expect.ClausesCount c) [] w.clauses

parts_read : (c : Certificate) → IsWritable c → read_lines (Some (after_clauses (expect.StepsCount part.First) c)) (from_first c) ≡ Some (wholly_read c)
parts_read c w =
    part_on part.First c.first (from_next c) (after_clauses (expect.StepsCount part.First) c) w.first
    ∙ part_on part.Next c.next (from_bad c) (after_first (expect.StepsCount part.Next) c) w.next
    ∙ part_on part.Bad c.bad (codes "end" ∷ []) (after_next (expect.StepsCount part.Bad) c) w.bad

pub whole_read : (v : Named) (c : Certificate) → IsWritable c → CanSay v c → read_lines (Some unread) (lines_of v c) ≡ Some (wholly_read c)
whole_read v c w s = head_on v c w s ∙ sets_read c w ∙ clauses_read c w ∙ parts_read c w
