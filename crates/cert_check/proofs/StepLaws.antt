-- What is found of a step, as the rules ask it of a derivation.
use Rattle.std.proofs.Common.{◌≡◌, ℕ, ◌+◌, ◌<◌, ◌≤◌, Bool, IsTrue, List, [], ◌∷◌, ◌++◌, length, take, Option, Some, None, Result, refl, sym, ap, subst, ◌∙◌, arith, append_assoc, append-nil}
use Rattle.std.specs.Prelude.{◌↔◌, map, All, IfOk, slice_get}
use Rattle.std.proofs.lemmas.List.{map_more, get_or-map, length-map}
use Rattle.std.proofs.lemmas.List.Elements.{All-map}
use Rattle.std.proofs.lemmas.Result.{IfOk-weaker}
use Rattle.sat_clauses.specs.States.{moved_on}
use Rattle.std.proofs.lemmas.Option.{slice_get_within, get_or_from_slice_get}
use Rattle.sat_clauses.specs.Literal.{Literal}
use Rattle.sat_clauses.specs.Derivation.{Derivation}
use Rattle.sat_clauses.specs.declared.step.Step.{Step}
use Rattle.cert_laws.specs.Certificate.{Certificate, Part, part_first, part_next, part_bad, a_step, an_end, steps_in, head_line, line_of}
use Rattle.cert_laws.specs.Acceptance.{Covers, highest, known_before, known_at, vars_of, givens, goals, IsCovered}
use Rattle.cert_check.specs.Matter.{Matter}
use Rattle.cert_check.specs.SiteFindings.{IsKeptAt, IsBrokenAt, Finds}
use Rattle.cert_check.specs.declared.judged.Judged.TheVariants.{Yes, No}
use Rattle.cert_check.proofs.Finding.{kept_none, kept_then, broken_here}
use Rattle.cert_derivations.specs.Steps.{BreaksStep, foreign, hint, no_false, IsTaken, FindsStep}
use Rattle.cert_check.specs.Parts.{list_of, also_given}
use Rattle.cert_check.proofs.SiteLaws.{step_kept, literals_broken, hints_broken, conflict_broken, end_kept, end_broken}
use Rattle.cert_check.proofs.SetLaws.{each_in}
use Rattle.base_values.proofs.ListLaws.{all_from}

module _ (a : Matter) (part : Part) (i : ℕ) (s : Step) (most : ℕ) (known : List (List Literal)) (vars : most ≡ vars_of a.subject a.certificate part) (clauses : known ≡ known_at a.subject a.certificate part i) where
  found_same : (new : Derivation) (o : Option ℕ) → FindsStep most known s new o → FindsStep (vars_of a.subject a.certificate part) (known_at a.subject a.certificate part i) s new o
  found_same new o f = subst (λ v. FindsStep v (known_at a.subject a.certificate part i) s new o) vars (subst (λ k. FindsStep most k s new o) clauses f)

  kept_there : (new : Derivation) → IsTaken (vars_of a.subject a.certificate part) (known_at a.subject a.certificate part i) s new → IsKeptAt a (a_step part i s)
  kept_there new t = step_kept a part i s t.literals t.hints t.conflict

  broken_there : (n : ℕ) → BreaksStep (vars_of a.subject a.certificate part) (known_at a.subject a.certificate part i) s n → IsBrokenAt a (a_step part i s) n
  broken_there n (foreign f) = literals_broken a part i s f
  broken_there n (hint l f) = hints_broken a part i s l f
  broken_there n (no_false l g f) = conflict_broken a part i s l g f

  pub taken_is_kept : (new : Derivation) → IsTaken most known s new → IsKeptAt a (a_step part i s)
  taken_is_kept new t = kept_there new (found_same new None t)

  pub step_is_broken : (new : Derivation) (n : ℕ) → BreaksStep most known s n → IsBrokenAt a (a_step part i s) n
  step_is_broken new n b = broken_there n (found_same new (Some n) b)

-- One more clause is known after a step.
pub known_more : (known : List (List Literal)) (steps : List Step) (i : ℕ) (s : Step) → slice_get steps i ≡ Some s → known_before known steps (i + 1) ≡ known_before known steps i ++ s.clause ∷ []
known_more known steps i s e =
    ap (λ xs. known ++ xs) (map_more (λ (t : Step). t.clause) steps i s (slice_get_within steps i s e) ∙ ap (λ (t : Step). map (λ (u : Step). u.clause) (take i steps) ++ t.clause ∷ []) (get_or_from_slice_get steps i s s e))
    ∙ sym (append_assoc known (map (λ (u : Step). u.clause) (take i steps)) (s.clause ∷ []))

pub known_none : (known : List (List Literal)) (steps : List Step) → known_before known steps 0 ≡ known
known_none known steps = append-nil known

-- What a derivation starts from.
pub givens_are : (a : Matter) (part : Part) → list_of a part ++ also_given a part ≡ givens a.subject a.certificate part
givens_are a part_first = append-nil a.subject.system.first
givens_are a part_next = refl
givens_are a part_bad = refl

-- Its end.
module _ (a : Matter) (part : Part) (known : List (List Literal)) (clauses : known ≡ known_at a.subject a.certificate part (length (steps_in a.certificate part))) (needed : List (List Literal)) (are : needed ≡ goals a.subject a.certificate part) where
  covered_same : All (Covers known) needed → IsCovered a.subject a.certificate part
  covered_same h = each_in (Covers (known_at a.subject a.certificate part (length (steps_in a.certificate part)))) (goals a.subject a.certificate part) (subst (λ k. All (Covers k) (goals a.subject a.certificate part)) clauses (subst (All (Covers known)) are h))

  covered_back : IsCovered a.subject a.certificate part → All (Covers known) needed
  covered_back h = subst (All (Covers known)) (sym are) (subst (λ k. All (Covers k) (goals a.subject a.certificate part)) (sym clauses) (all_from (Covers (known_at a.subject a.certificate part (length (steps_in a.certificate part)))) (goals a.subject a.certificate part) h))

  pub covered_is_kept : All (Covers known) needed → IsKeptAt a (an_end part)
  covered_is_kept h = end_kept a part (covered_same h)

  pub uncovered_is_broken : (All (Covers known) needed → ⊥) → IsBrokenAt a (an_end part) 11
  uncovered_is_broken f = end_broken a part (λ h. f (covered_back h))

-- What the end finds, where the first step has a line and so many come.
pub uncovered_ends : (a : Matter) (part : Part) (known : List (List Literal)) → known ≡ known_at a.subject a.certificate part (length (steps_in a.certificate part)) →
    (needed : List (List Literal)) → needed ≡ goals a.subject a.certificate part → (line n : ℕ) → line ≡ head_line a.certificate part + 1 → n ≡ length (steps_in a.certificate part) →
    (All (Covers known) needed → ⊥) → Finds a (an_end part ∷ []) (No (line + n) 11)
uncovered_ends a part known clauses needed are line n p q f = broken_here a (an_end part) [] (line + n) 11 (λ j. sym p j + sym q j) (uncovered_is_broken a part known clauses needed are f)

pub covered_ends : (a : Matter) (part : Part) (known : List (List Literal)) → known ≡ known_at a.subject a.certificate part (length (steps_in a.certificate part)) →
    (needed : List (List Literal)) → needed ≡ goals a.subject a.certificate part → All (Covers known) needed → Finds a (an_end part ∷ []) Yes
covered_ends a part known clauses needed are h = kept_then a (an_end part) [] (covered_is_kept a part known clauses needed are h) Yes (kept_none a)

-- A checker's variables and clauses are those that a derivation starts with.
module _ (a : Matter) (part : Part) (given more : List (List Literal)) (p : given ≡ list_of a part) (q : more ≡ also_given a part) where
  both : given ++ more ≡ givens a.subject a.certificate part
  both = (λ j. p j ++ q j) ∙ givens_are a part

  pub vars_begin : highest (given ++ more) ≡ vars_of a.subject a.certificate part
  vars_begin = ap highest both

  pub known_begin : given ++ more ≡ known_at a.subject a.certificate part 0
  known_begin = both ∙ sym (known_none (givens a.subject a.certificate part) (steps_in a.certificate part))

-- All lines are below the last.
pub lines_within : (c : Certificate) (part : Part) → head_line c part + 1 + length (steps_in c part) ≤ line_of c (an_end part_bad)
lines_within c part_first = omega arith
lines_within c part_next = omega arith
lines_within c part_bad = omega arith

-- What holds of all that a list is mapped to holds of what each of it is mapped to.
all_unmapped : {X Y : Type 0} (P : X → Type 0) (f : Y → X) (ys : List Y) → All P (map f ys) → All (λ y. P (f y)) ys
all_unmapped P f ys h = λ k y within. subst P (get_or-map f ys k y (f y) within) (h k (f y) (subst (λ n. k < n) (sym (length-map ys f)) within))

-- Clauses that are covered over the state next, one by one or as a list.
pub covers_moved : {E : Type 0} (known : List (List Literal)) (bits : ℕ) (clauses : List (List Literal)) (r : Result Bool E) →
    IfOk r (λ covers. IsTrue covers ↔ All (λ (lits : List Literal). Covers known (map (moved_on bits) lits)) clauses) →
    IfOk r (λ covers. IsTrue covers ↔ All (Covers known) (map (map (moved_on bits)) clauses))
covers_moved known bits clauses r h =
    let next : List Literal → List Literal = map (moved_on bits) in
    IfOk-weaker r (λ covers. IsTrue covers ↔ All (λ (lits : List Literal). Covers known (next lits)) clauses) (λ covers. IsTrue covers ↔ All (Covers known) (map next clauses))
    (λ covers p. ((λ is. All-map (Covers known) next clauses (p.0 is)), (λ all. p.1 (all_unmapped (Covers known) next clauses all)))) h
