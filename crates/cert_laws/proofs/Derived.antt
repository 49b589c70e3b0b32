-- The steps of an accepted certificate are true wherever its givens are, and so is what they cover.
use Rattle.std.proofs.Common.{◌≡◌, ℕ, zero, suc, ◌≤◌, true, List, [], ◌∷◌, ◌++◌, length, map, take, Option, Some, None, refl, sym, ◌∙◌, ap, subst, arith, append_assoc}
use Rattle.std.specs.Prelude.{Contains, slice_get}
use Rattle.sat_clauses.specs.Literal.{Literal}
use Rattle.sat_clauses.specs.Models.{TotalAssignment, clause_value, Satisfies, FollowsFrom}
use Rattle.sat_clauses.specs.Hints.{EndsFalse, EndsOpen, FailsAt, assumed_false}
use Rattle.sat_clauses.specs.Fault.{fault_of}
use Rattle.sat_clauses.specs.declared.step.Step.{Step}
use Rattle.sat_clauses.specs.declared.step.StepFault.{StepFault}
use Rattle.sat_clauses.specs.declared.step.StepFault.TheVariants.{BadHint, NoConflict}
use Rattle.sat_clauses.proofs.FaultLemmas.{fault-None, fault-BadHint, fault-NoConflict}
use Rattle.sat_clauses.proofs.DeriveModelLemmas.{FollowsFrom-EndsFalse}
use Rattle.cert_laws.specs.Certificate.{Certificate, Part, a_step, an_end, steps_in}
use Rattle.cut_text_laws.specs.Lines.{Line}
use Rattle.cert_laws.specs.Acceptance.{Subject, bad_hint, no_conflict, not_covered, known_before, Covers, givens, goals, known_at, vars_of, IsAccepted}
use Rattle.cert_laws.proofs.Values.{satisfies_one}
use Rattle.sat_clauses.proofs.ModelLemmas.{Satisfies-append}
use Rattle.smv_language.proofs.ListLaws.{take_there}
use Rattle.sat_clauses.proofs.ClauseLists.{member_true, covered_true}
use Rattle.base_values.proofs.ListLaws.{get_within}

-- hints that are neither bad nor all open end false
ends_false : (clauses : List (List Literal)) (vars : ℕ) (c : List Literal) (hints : List ℕ) →
    ((n : ℕ) → FailsAt clauses (assumed_false vars c) hints n → ⊥) → (EndsOpen clauses (assumed_false vars c) hints → ⊥) → EndsFalse clauses (assumed_false vars c) hints
ends_false clauses vars c hints good closed = by_fault (fault_of clauses (assumed_false vars c) 1 hints) refl
  where
    by_fault : (o : Option StepFault) → fault_of clauses (assumed_false vars c) 1 hints ≡ o → EndsFalse clauses (assumed_false vars c) hints
    by_fault None e = (fault-None clauses (assumed_false vars c) hints).0 e
    by_fault (Some (BadHint n)) e = absurd (good n ((fault-BadHint clauses (assumed_false vars c) hints n).0 e))
    by_fault (Some NoConflict) e = absurd (closed ((fault-NoConflict clauses (assumed_false vars c) hints).0 e))

map_end : (f : Step → List Literal) (xs : List Step) (x : Step) → map f (xs ++ x ∷ []) ≡ map f xs ++ f x ∷ []
map_end f [] x = refl
map_end f (y ∷ xs) x = ap (λ zs. f y ∷ zs) (map_end f xs x)

known_next : (gs : List (List Literal)) (steps : List Step) (i : ℕ) (s : Step) → slice_get steps i ≡ Some s → known_before gs steps (suc i) ≡ known_before gs steps i ++ s.clause ∷ []
known_next gs steps i s at =
    ap (λ ss. gs ++ map (λ (s : Step). s.clause) ss) (take_there steps i s at) ∙ ap (λ cs. gs ++ cs) (map_end (λ (s : Step). s.clause) (take i steps) s)
    ∙ sym (append_assoc gs (map (λ (s : Step). s.clause) (take i steps)) (s.clause ∷ []))

module _ (T : Type 0) (reads : List Line → T → Type 0) (is_trace reaches : T → Type 0) (has_failed : T → ℕ → Type 0) (subject : Subject) (c : Certificate)
    (accepted : IsAccepted T reads is_trace reaches has_failed subject c) where
  step_follows : (part : Part) (i : ℕ) (s : Step) → slice_get (steps_in c part) i ≡ Some s → FollowsFrom (known_at subject c part i) s.clause
  step_follows part i s at =
      FollowsFrom-EndsFalse (vars_of subject c part) (known_at subject c part i) s.clause s.hints
      (ends_false (known_at subject c part i) (vars_of subject c part) s.clause s.hints (accepted (a_step part i s) at bad_hint) (accepted (a_step part i s) at no_conflict))

  all_follow : (part : Part) (v : TotalAssignment) → Satisfies v (givens subject c part) → (i : ℕ) → i ≤ length (steps_in c part) → Satisfies v (known_at subject c part i)
  all_follow part v h zero le = Satisfies-append v (givens subject c part) [] h refl
  all_follow part v h (suc i) le =
      let there : (s : Step) × (slice_get (steps_in c part) i ≡ Some s) = get_within (steps_in c part) i (omega (arith, le)) in
      let before : Satisfies v (known_at subject c part i) = all_follow part v h i (omega (arith, le)) in
      subst (Satisfies v) (sym (known_next (givens subject c part) (steps_in c part) i there.0 there.1))
      (Satisfies-append v (known_at subject c part i) (there.0.clause ∷ []) before (satisfies_one v there.0.clause (step_follows part i there.0 there.1 v before)))

  -- what the steps of a part are to show is true wherever the part's givens are
  pub goal_true : (part : Part) (v : TotalAssignment) → Satisfies v (givens subject c part) → (needed : List Literal) → Contains (goals subject c part) needed → clause_value v needed ≡ true
  goal_true part v h needed m =
      let covers : Covers (known_at subject c part (length (steps_in c part))) needed = accepted (an_end part) tt not_covered needed m in
      let all : Satisfies v (known_at subject c part (length (steps_in c part))) = all_follow part v h (length (steps_in c part)) (omega arith) in
      covered_true v covers.1 needed covers.4
      (member_true v (known_at subject c part (length (steps_in c part))) covers.1 all (covers.0, covers.2, covers.3))
