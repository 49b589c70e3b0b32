-- The certificate of a model with one bit that is FALSE first and keeps its value: its lines, and that it is accepted.
use Rattle.std.proofs.Common.{◌≡◌, ℕ, zero, suc, ◌≤◌, ◌<◌, true, false, List, [], ◌∷◌, Some, refl, ap, subst, arith, length, codes, inr, sym, ◌++◌}
use Rattle.std.specs.Fmt.{digits}
use Rattle.std.specs.Prelude.{Contains, All, slice_get, slice_index_or}
use Rattle.std.proofs.lemmas.List.Elements.{All-nil, All-cons, Contains-get_or}
use Rattle.sat_clauses.specs.Literal.{Literal, plain, opposite}
use Rattle.sat_clauses.specs.Derivation.{IsUpTo}
use Rattle.sat_clauses.specs.Hints.{LacksOpposite, HasNoOpposites, EndsFalse, assumed_false}
use Rattle.sat_clauses.specs.Steps.{with_steps}
use Rattle.sat_clauses.specs.declared.step.Step.{Step}
use Rattle.sat_clauses.proofs.FaultLemmas.{fault-None, fault-NoConflict}
use Rattle.sat_clauses.specs.declared.system.System.{System}
use Rattle.sat_clauses.specs.States.{IsOverBits}
use Rattle.cert_laws.specs.Certificate.{Certificate, Part, part_first, part_next, part_bad, a_step, an_end, line_of}
use Rattle.cut_text_laws.specs.Lines.{Line, fed}
use Rattle.cert_laws.specs.CertificateText.{version_one, version_two, lines_of, IsCount, IsLiteral, IsHint, IsWritable, IsBadLine}
use Rattle.cert_laws.specs.Acceptance.{Subject, Covers, no_conflict, IsAccepted, BreaksAt, givens, known_at}
use Rattle.cert_laws.specs.Derivations.{IsDerived}
use Rattle.cert_laws.proofs.Steps.{covers_by}
use Rattle.cut_text_laws.proofs.Words.{free_by_test}
use Rattle.cert_laws.proofs.Made.{made_is_accepted}

abbrev no : ℕ → Literal
no x = opposite (plain x)

abbrev yes' : ℕ → Literal
yes' x = plain x

-- x in FALSE is the gate 4, which is not (x xor FALSE), and so for next(x) in x
abbrev tiny_system : System
tiny_system = record {
  state_bits = 1;
  input_bits = 0;
  first =
      (yes' 1 ∷ []) ∷ (no 4 ∷ yes' 2 ∷ no 1 ∷ []) ∷ (no 4 ∷ no 2 ∷ yes' 1 ∷ []) ∷ (yes' 4 ∷ no 2 ∷ no 1 ∷ []) ∷ (yes' 4 ∷ yes' 2 ∷ yes' 1 ∷ []) ∷ (no 4 ∷ []) ∷ [];
  step =
      (yes' 1 ∷ []) ∷ (no 4 ∷ yes' 3 ∷ yes' 2 ∷ []) ∷ (no 4 ∷ no 3 ∷ no 2 ∷ []) ∷ (yes' 4 ∷ no 3 ∷ yes' 2 ∷ []) ∷ (yes' 4 ∷ yes' 3 ∷ no 2 ∷ []) ∷ (no 4 ∷ []) ∷ [];
}

abbrev tiny_subject : Subject
tiny_subject = record { system = tiny_system; faults = 0; bad = λ sets size. (yes' 1 ∷ []) ∷ (yes' 2 ∷ []) ∷ [] }

abbrev step_by : List Literal → List ℕ → Step
step_by c hints = record { clause = c; hints = hints }

abbrev tiny_with : List ℕ → Certificate
tiny_with hints = record {
  bits = 1;
  faults = 0;
  size = 0;
  sets = [];
  traces = [];
  invariant = (no 2 ∷ []) ∷ [];
  first = step_by (no 2 ∷ []) hints ∷ [];
  next = step_by (no 3 ∷ []) (6 ∷ 4 ∷ 7 ∷ []) ∷ [];
  bad = step_by [] (2 ∷ 3 ∷ []) ∷ [];
}

abbrev tiny : Certificate
tiny = tiny_with (1 ∷ 6 ∷ 4 ∷ [])

tiny_lines : lines_of version_one tiny ≡ codes "xsap-certificate 1" ∷ codes "bits 1 faults 0" ∷ codes "sets 0" ∷ codes "invariant 1" ∷ codes "clause -2" ∷ codes "first 1" ∷ codes "step -2 : 1 6 4" ∷ codes "next 1" ∷ codes "step -3 : 6 4 7" ∷ codes "bad 1" ∷ codes "step : 2 3" ∷ codes "end" ∷ []
unfolding digits
tiny_lines = refl

second_line : slice_get (lines_of version_two tiny) 1 ≡ Some (codes "bits 1 faults 0 size 0")
unfolding digits
second_line = refl

line_of_first_step : line_of tiny (a_step part_first 0 (step_by (no 2 ∷ []) (1 ∷ 6 ∷ 4 ∷ []))) ≡ 7
line_of_first_step = refl

line_of_end : line_of tiny (an_end part_bad) ≡ 12
line_of_end = refl

-- Each step follows.
one_up : (vars : ℕ) (l : Literal) → l.var ≤ vars → All (IsUpTo vars) (l ∷ [])
one_up vars l h = All-cons (IsUpTo vars) l [] h (All-nil (IsUpTo vars))

one_apart : (l : Literal) → (l ≡ opposite l → ⊥) → HasNoOpposites (l ∷ [])
one_apart l h = All-cons (LacksOpposite (l ∷ [])) l [] (record { absent = λ m. place m.0 m.1 m.2 }) (All-nil (LacksOpposite (l ∷ [])))
  where
    place : (i : ℕ) → i < length (l ∷ []) → slice_index_or (l ∷ []) i (opposite l) ≡ opposite l → ⊥
    place zero within e = h e
    place (suc i) within e = absurd (omega (arith, within))

no_not_yes : (x : ℕ) → no x ≡ yes' x → ⊥
no_not_yes x e = let bad : true ≡ false = ap (λ (l : Literal). l.negated) e in cc

first_ends : EndsFalse (givens tiny_subject tiny part_first) (assumed_false 4 (no 2 ∷ [])) (1 ∷ 6 ∷ 4 ∷ [])
first_ends = (fault-None (givens tiny_subject tiny part_first) (assumed_false 4 (no 2 ∷ [])) (1 ∷ 6 ∷ 4 ∷ [])).0 refl

next_ends : EndsFalse (givens tiny_subject tiny part_next) (assumed_false 4 (no 3 ∷ [])) (6 ∷ 4 ∷ 7 ∷ [])
next_ends = (fault-None (givens tiny_subject tiny part_next) (assumed_false 4 (no 3 ∷ [])) (6 ∷ 4 ∷ 7 ∷ [])).0 refl

bad_ends : EndsFalse (givens tiny_subject tiny part_bad) (assumed_false 2 []) (2 ∷ 3 ∷ [])
bad_ends = (fault-None (givens tiny_subject tiny part_bad) (assumed_false 2 []) (2 ∷ 3 ∷ [])).0 refl

itself : (c : List Literal) → All (Contains c) c
itself c = λ k d within. Contains-get_or c k d within

-- a goal is the one there is
only_one : (goal needed : List Literal) → Contains (goal ∷ []) needed → goal ≡ needed
only_one goal needed m = place m.0 m.1 m.2
  where
    place : (i : ℕ) → i < length (goal ∷ []) → slice_index_or (goal ∷ []) i needed ≡ needed → goal ≡ needed
    place zero within e = e
    place (suc i) within e = absurd (omega (arith, within))

-- the last of some clauses covers itself
covers_at : (clauses : List (List Literal)) (i : ℕ) (c needed : List Literal) → i < length clauses → slice_index_or clauses i c ≡ c → c ≡ needed → Covers clauses needed
covers_at clauses i c needed within at e = subst (Covers clauses) e (covers_by clauses c c (i, within, at) (itself c))

tiny_derived : (part : Part) → IsDerived tiny_subject tiny part
tiny_derived part_first = record {
  are_steps = (record { ends = first_ends; in_range = one_up 4 (no 2) (omega arith); no_opposites = one_apart (no 2) (no_not_yes 2) }, tt);
  covered = λ needed m. covers_at (with_steps (givens tiny_subject tiny part_first) tiny.first) 6 (no 2 ∷ []) needed (omega arith) refl (only_one (no 2 ∷ []) needed m);
}
tiny_derived part_next = record {
  are_steps = (record { ends = next_ends; in_range = one_up 4 (no 3) (omega arith); no_opposites = one_apart (no 3) (no_not_yes 3) }, tt);
  covered = λ needed m. covers_at (with_steps (givens tiny_subject tiny part_next) tiny.next) 7 (no 3 ∷ []) needed (omega arith) refl (only_one (no 3 ∷ []) needed m);
}
tiny_derived part_bad = record {
  are_steps = (record { ends = bad_ends; in_range = All-nil (IsUpTo 2); no_opposites = All-nil (LacksOpposite []) }, tt);
  covered = λ needed m. covers_at (with_steps (givens tiny_subject tiny part_bad) tiny.bad) 3 [] needed (omega arith) refl (only_one [] needed m);
}

module _ (T : Type 0) (reads : List Line → T → Type 0) (is_trace reaches : T → Type 0) (has_failed : T → ℕ → Type 0) where
  tiny_is_accepted : IsAccepted T reads is_trace reaches has_failed tiny_subject tiny
  tiny_is_accepted = made_is_accepted T reads is_trace reaches has_failed tiny_subject tiny (record {
    numbers = record { bits = refl; faults = refl; size = omega arith };
    sets = λ k set at. cc;
    apart = λ k set at. cc;
    traces = λ k set text at there. cc;
    over_bits = All-cons (IsOverBits tiny_system) (no 2 ∷ []) [] (All-cons (λ l. (2 ≤ l.var) × (l.var < 3)) (no 2) [] (omega arith, omega arith) (All-nil (λ l. (2 ≤ l.var) × (l.var < 3)))) (All-nil (IsOverBits tiny_system));
    no_opposites = All-cons HasNoOpposites (no 2 ∷ []) [] (one_apart (no 2) (no_not_yes 2)) (All-nil HasNoOpposites);
    derived = tiny_derived;
  })

  -- without the hint 4 no hint of the first step is false
  short_breaks : BreaksAt T reads is_trace reaches has_failed tiny_subject (tiny_with (6 ∷ [])) 7 no_conflict
  short_breaks = record {
    site = a_step part_first 0 (step_by (no 2 ∷ []) (6 ∷ []));
    is_site = refl;
    at_line = refl;
    broken = λ keeps. keeps ((fault-NoConflict (known_at tiny_subject (tiny_with (6 ∷ [])) part_first 0) (assumed_false 4 (no 2 ∷ [])) (6 ∷ [])).0 refl);
  }

-- Cut within the last step's line, that line is the first wrong one.
abbrev ten_lines : List Line
ten_lines =
    codes "xsap-certificate 1" ∷ codes "bits 1 faults 0" ∷ codes "sets 0" ∷ codes "invariant 1" ∷ codes "clause -2" ∷ codes "first 1" ∷ codes "step -2 : 1 6 4" ∷ codes "next 1" ∷ codes "step -3 : 6 4 7" ∷ codes "bad 1" ∷ []

count_by_test : (n : ℕ) → n < 9 → IsCount n
count_by_test n h = omega (arith, h)

small_literal : (l : Literal) → 1 ≤ l.var → l.var < 9 → IsLiteral l
small_literal l a b = (a, count_by_test l.var b)

small_hint : (n : ℕ) → 1 ≤ n → n < 9 → IsHint n
small_hint n a b = (a, count_by_test n b)

tiny_writable : IsWritable tiny
tiny_writable = record {
  one_each = refl;
  bits = omega arith;
  faults = omega arith;
  size = omega arith;
  count_of_sets = omega arith;
  sets = tt;
  traces = tt;
  count_of_clauses = omega arith;
  clauses = ((small_literal (no 2) (omega arith) (omega arith), tt), tt);
  first = record { count = omega arith; each = (record { clause = (small_literal (no 2) (omega arith) (omega arith), tt); hints = (small_hint 1 (omega arith) (omega arith), (small_hint 6 (omega arith) (omega arith), (small_hint 4 (omega arith) (omega arith), tt))) }, tt) };
  next = record { count = omega arith; each = (record { clause = (small_literal (no 3) (omega arith) (omega arith), tt); hints = (small_hint 6 (omega arith) (omega arith), (small_hint 4 (omega arith) (omega arith), (small_hint 7 (omega arith) (omega arith), tt))) }, tt) };
  bad = record { count = omega arith; each = (record { clause = tt; hints = (small_hint 2 (omega arith) (omega arith), (small_hint 3 (omega arith) (omega arith), tt)) }, tt) };
}

cut_within_line : IsBadLine (fed ten_lines ++ codes "ste") 11
cut_within_line = record {
  before = ten_lines;
  line = codes "ste";
  after = [];
  is_line = free_by_test 10 (codes "ste") refl;
  lie = refl;
  begun = (tiny, codes "step : 2 3" ∷ codes "end" ∷ [], (tiny_writable, (version_one, refl, sym tiny_lines)));
  place = refl;
  cause = inr (refl, λ e. absurd (omega (arith, ap (length {A = ℕ}) e)));
}
