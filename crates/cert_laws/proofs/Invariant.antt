-- The invariant of an accepted certificate is one.
use Rattle.std.proofs.Common.{◌≡◌, ℕ, ◌+◌, ◌-◌, ◌≤◌, ◌<◌, true, List, [], map, Some, refl, sym, ◌∙◌, ap, arith}
use Rattle.std.specs.Prelude.{Contains, slice_get, slice_index_or}
use Rattle.std.proofs.lemmas.List.Elements.{Contains-get_or}
use Rattle.sat_clauses.specs.Literal.{Literal, signed}
use Rattle.sat_clauses.specs.Models.{TotalAssignment, clause_value, Satisfies}
use Rattle.sat_clauses.specs.declared.system.System.{System}
use Rattle.sat_clauses.specs.States.{State, Agrees, moved_on, IsState, state_values, InFrame, IsOverBits}
use Rattle.cut_right_laws.proofs.Places.{place_of_member}
use Rattle.cert_laws.specs.Certificate.{Part, part_first, part_next, part_bad, a_clause}
use Rattle.cut_text_laws.specs.Lines.{Line}
use Rattle.cert_laws.specs.Acceptance.{givens, goals, foreign_literal}
use Rattle.cert_laws.specs.CertificateLaws.{AcceptedIsInvariant}
use Rattle.cert_laws.proofs.Values.{agrees_at, same_clause, map_same}
use Rattle.cert_laws.proofs.Derived.{goal_true}
use Rattle.sat_clauses.proofs.ModelLemmas.{Satisfies-append, Satisfies-from_All}
use Rattle.sat_clauses.proofs.ClauseLists.{map_contains, member_true}
use Rattle.smv_language.proofs.BoolLaws.{never}

module _ (system : System) (s : State) (is_state : IsState system s) where
  -- the value of a state bit under an assignment that agrees from n on
  at_bit : (v : TotalAssignment) (n x : ℕ) → Agrees v (n + 2) s → 2 ≤ x → x < system.state_bits + 2 → v (x + n) ≡ state_values system s x
  at_bit v n x agrees low high =
      let place : x + n ≡ n + 2 + (x - 2) = omega (arith, low) in
      ap v place ∙ agrees_at v (n + 2) (x - 2) s agrees (omega (arith, low, high, is_state))

  -- clauses over state bits have the value that the state gives them
  pub now_value : (v : TotalAssignment) → Agrees v 2 s → (c : List Literal) → IsOverBits system c → clause_value v c ≡ clause_value (state_values system s) c
  now_value v agrees c over =
      ap (clause_value v) (sym (map_same c)) ∙ same_clause v (state_values system s) (λ l. l) c
      (λ k d within. let h : (2 ≤ (slice_index_or c k d).var) × ((slice_index_or c k d).var < system.state_bits + 2) = over k d within in
      ap (signed (slice_index_or c k d).negated) (ap v (no_more (slice_index_or c k d).var) ∙ at_bit v 0 (slice_index_or c k d).var agrees h.0 h.1))
    where
      no_more : (x : ℕ) → x ≡ x + 0
      no_more x = omega arith

  pub next_value : (v : TotalAssignment) → Agrees v (system.state_bits + 2) s → (c : List Literal) → IsOverBits system c →
      clause_value v (map (moved_on system.state_bits) c) ≡ clause_value (state_values system s) c
  next_value v agrees c over =
      same_clause v (state_values system s) (moved_on system.state_bits) c
      (λ k d within. let h : (2 ≤ (slice_index_or c k d).var) × ((slice_index_or c k d).var < system.state_bits + 2) = over k d within in
      ap (signed (slice_index_or c k d).negated) (at_bit v system.state_bits (slice_index_or c k d).var agrees h.0 h.1))

  -- a state makes the clauses true where each of them has the value true
  pub in_frame : (clauses : List (List Literal)) → ((c : List Literal) → Contains clauses c → clause_value (state_values system s) c ≡ true) → InFrame system clauses s
  in_frame clauses h = (is_state, Satisfies-from_All (state_values system s) clauses (λ k d within. h (slice_index_or clauses k d) (Contains-get_or clauses k d within)))

module _ (T : Type 0) (reads : List Line → T → Type 0) (is_trace reaches : T → Type 0) (has_failed : T → ℕ → Type 0) where
  pub accepted_is_invariant : AcceptedIsInvariant T reads is_trace reaches has_failed
  accepted_is_invariant subject c accepted = record {
    holds_first = λ s first.
        in_frame subject.system s first.0 c.invariant
        (λ d m. sym (now_value subject.system s first.0 first.1.0 first.1.1 d (over d m)) ∙ shown part_first first.1.0 first.1.2 d m);
    is_kept = λ s t inside step.
        in_frame subject.system t step.1 c.invariant
        (λ d m. sym (next_value subject.system t step.1 step.2.0 step.2.2 d (over d m))
        ∙ shown part_next step.2.0 (Satisfies-append step.2.0 subject.system.step c.invariant step.2.3 (keeps s inside step.2.0 step.2.1)) (map (moved_on subject.system.state_bits) d)
        (map_contains (map (moved_on subject.system.state_bits)) c.invariant d m));
    excludes = λ s inside bad.
        never (clause_value bad.1.0 []) refl
        (shown part_bad bad.1.0 (Satisfies-append bad.1.0 (subject.bad c.sets c.size) c.invariant bad.1.2 (keeps s inside bad.1.0 bad.1.1)) [] (0, omega arith, refl));
  }
    where
      over : (d : List Literal) → Contains c.invariant d → IsOverBits subject.system d
      over d m = let place : (i : ℕ) × (slice_get c.invariant i ≡ Some d) = place_of_member c.invariant d m in (accepted (a_clause place.0 d) place.1 foreign_literal).0

      shown : (part : Part) (v : TotalAssignment) → Satisfies v (givens subject c part) → (needed : List Literal) → Contains (goals subject c part) needed → clause_value v needed ≡ true
      shown = goal_true T reads is_trace reaches has_failed subject c accepted

      -- an assignment that agrees with a state of the invariant makes it true
      keeps : (s : State) → InFrame subject.system c.invariant s → (v : TotalAssignment) → Agrees v 2 s → Satisfies v c.invariant
      keeps s inside v agrees =
          Satisfies-from_All v c.invariant
          (λ k d within. let m : Contains c.invariant (slice_index_or c.invariant k d) = Contains-get_or c.invariant k d within in
          now_value subject.system s inside.0 v agrees (slice_index_or c.invariant k d) (over (slice_index_or c.invariant k d) m)
          ∙ member_true (state_values subject.system s) c.invariant (slice_index_or c.invariant k d) inside.1 m)
