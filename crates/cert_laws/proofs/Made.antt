-- A certificate that was made is accepted, and what its parts are to show follows from what is given there.
use Rattle.std.proofs.Common.{◌≡◌, ℕ, zero, suc, ◌+◌, true, List, [], ◌∷◌, ◌++◌, length, map, Some, None, refl, sym, ◌∙◌, ap, subst}
use Rattle.std.specs.Prelude.{Contains, All, slice_get}
use Rattle.std.proofs.lemmas.List.Elements.{All-contains}
use Rattle.sat_clauses.specs.Literal.{Literal}
use Rattle.sat_clauses.specs.Models.{TotalAssignment, clause_value, Satisfies}
use Rattle.sat_clauses.specs.Hints.{HasNoOpposites, EndsFalse, EndsOpen, FailsAt, assumed_false}
use Rattle.sat_clauses.specs.Steps.{IsStep}
use Rattle.sat_clauses.specs.declared.step.Step.{Step}
use Rattle.sat_clauses.specs.declared.step.StepFault.TheVariants.{BadHint, NoConflict}
use Rattle.sat_clauses.proofs.FaultLemmas.{fault-None, fault-BadHint, fault-NoConflict}
use Rattle.sat_clauses.specs.States.{State, Agrees, IsState, InFrame, IsOverBits, IsInvariant, state_values, moved_on}
use Rattle.cut_right_laws.proofs.Places.{member_at_place}
use Rattle.cert_laws.specs.Certificate.{Certificate, Part, part_first, part_next, part_bad, Site, IsSite, the_numbers, a_set, a_trace, a_clause, a_step, an_end, steps_in}
use Rattle.cut_text_laws.specs.Lines.{Line}
use Rattle.cert_laws.specs.Acceptance.{Subject, Rule, Keeps, other_numbers, no_set, contains_a_set, foreign_literal, bad_hint, no_conflict, not_covered, givens, vars_of, known_at, Covers}
use Rattle.cert_laws.specs.Derivations.{IsMade, MadeIsAccepted, GoalsFollow}
use Rattle.cert_laws.proofs.Invariant.{now_value, next_value, in_frame}
use Rattle.cert_laws.proofs.Steps.{step_at, all_known}
use Rattle.sat_clauses.proofs.ModelLemmas.{Satisfies-front, Satisfies-back}
use Rattle.sat_clauses.proofs.ClauseLists.{from_mapped, member_true}

-- hints that end false are not bad, and not all open
not_bad : (clauses : List (List Literal)) (vars : ℕ) (c : List Literal) (hints : List ℕ) → EndsFalse clauses (assumed_false vars c) hints → (n : ℕ) → FailsAt clauses (assumed_false vars c) hints n → ⊥
not_bad clauses vars c hints ends n fails =
    let bad : None ≡ Some (BadHint n) = sym ((fault-None clauses (assumed_false vars c) hints).1 ends) ∙ (fault-BadHint clauses (assumed_false vars c) hints n).1 fails in cc

not_open : (clauses : List (List Literal)) (vars : ℕ) (c : List Literal) (hints : List ℕ) → EndsFalse clauses (assumed_false vars c) hints → EndsOpen clauses (assumed_false vars c) hints → ⊥
not_open clauses vars c hints ends open' =
    let bad : None ≡ Some NoConflict = sym ((fault-None clauses (assumed_false vars c) hints).1 ends) ∙ (fault-NoConflict clauses (assumed_false vars c) hints).1 open' in cc

module _ (T : Type 0) (reads : List Line → T → Type 0) (is_trace reaches : T → Type 0) (has_failed : T → ℕ → Type 0) (subject : Subject) (c : Certificate) (made : IsMade T reads is_trace reaches has_failed subject c) where
  numbers_keep : (rule : Rule) → Keeps T reads is_trace reaches has_failed subject c the_numbers rule
  numbers_keep other_numbers = made.numbers
  numbers_keep _ = tt

  set_keeps : (k : ℕ) (set : List ℕ) → slice_get c.sets k ≡ Some set → (rule : Rule) → Keeps T reads is_trace reaches has_failed subject c (a_set k set) rule
  set_keeps k set is no_set = made.sets k set is
  set_keeps k set is contains_a_set = made.apart k set is
  set_keeps k set is _ = tt

  clause_keeps : (i : ℕ) (clause : List Literal) → slice_get c.invariant i ≡ Some clause → (rule : Rule) → Keeps T reads is_trace reaches has_failed subject c (a_clause i clause) rule
  clause_keeps i clause is foreign_literal =
      let m : Contains c.invariant clause = member_at_place c.invariant i clause is in
      (All-contains (IsOverBits subject.system) c.invariant clause made.over_bits m, All-contains HasNoOpposites c.invariant clause made.no_opposites m)
  clause_keeps i clause is _ = tt

  this_step : (part : Part) (i : ℕ) (s : Step) → slice_get (steps_in c part) i ≡ Some s → IsStep (vars_of subject c part) (known_at subject c part i) s
  this_step part i s is = step_at (vars_of subject c part) (givens subject c part) (steps_in c part) i s (made.derived part).are_steps is

  step_keeps : (part : Part) (i : ℕ) (s : Step) → slice_get (steps_in c part) i ≡ Some s → (rule : Rule) → Keeps T reads is_trace reaches has_failed subject c (a_step part i s) rule
  step_keeps part i s is foreign_literal = ((this_step part i s is).in_range, (this_step part i s is).no_opposites)
  step_keeps part i s is bad_hint = not_bad (known_at subject c part i) (vars_of subject c part) s.clause s.hints (this_step part i s is).ends
  step_keeps part i s is no_conflict = not_open (known_at subject c part i) (vars_of subject c part) s.clause s.hints (this_step part i s is).ends
  step_keeps part i s is _ = tt

  end_keeps : (part : Part) (rule : Rule) → Keeps T reads is_trace reaches has_failed subject c (an_end part) rule
  end_keeps part not_covered = λ needed m. subst (λ cs. Covers cs needed) (sym (all_known (givens subject c part) (steps_in c part))) ((made.derived part).covered needed m)
  end_keeps part _ = tt

  all_keep : (site : Site) → IsSite c site → (rule : Rule) → Keeps T reads is_trace reaches has_failed subject c site rule
  all_keep the_numbers is rule = numbers_keep rule
  all_keep (a_set k set) is rule = set_keeps k set is rule
  all_keep (a_trace k set text) is rule = made.traces k set text is.0 is.1 rule
  all_keep (a_clause i clause) is rule = clause_keeps i clause is rule
  all_keep (a_step part i s) is rule = step_keeps part i s is rule
  all_keep (an_end part) is rule = end_keeps part rule

module _ (T : Type 0) (reads : List Line → T → Type 0) (is_trace reaches : T → Type 0) (has_failed : T → ℕ → Type 0) where
  pub made_is_accepted : MadeIsAccepted T reads is_trace reaches has_failed
  made_is_accepted subject c made = all_keep T reads is_trace reaches has_failed subject c made

-- The values of so many variables from one on.
abbrev bits_from : ℕ → ℕ → TotalAssignment → State
bits_from n zero v = []
bits_from n (suc k) v = v n ∷ bits_from (n + 1) k v

length_bits : (n k : ℕ) (v : TotalAssignment) → length (bits_from n k v) ≡ k
length_bits n zero v = refl
length_bits n (suc k) v = ap suc (length_bits (n + 1) k v)

agrees_bits : (n k : ℕ) (v : TotalAssignment) → Agrees v n (bits_from n k v)
agrees_bits n zero v = tt
agrees_bits n (suc k) v = (refl, agrees_bits (n + 1) k v)

module _ (subject : Subject) (c : Certificate) (over : All (IsOverBits subject.system) c.invariant) (invariant : IsInvariant subject.system (subject.bad c.sets c.size) c.invariant) where
  abbrev now : TotalAssignment → State
  now v = bits_from 2 subject.system.state_bits v

  is_now : (v : TotalAssignment) → IsState subject.system (now v)
  is_now v = length_bits 2 subject.system.state_bits v

  over_one : (d : List Literal) → Contains c.invariant d → IsOverBits subject.system d
  over_one d m = All-contains (IsOverBits subject.system) c.invariant d over m

  inside : (v : TotalAssignment) → Satisfies v c.invariant → InFrame subject.system c.invariant (now v)
  inside v holds = in_frame subject.system (now v) (is_now v) c.invariant
      (λ d m. sym (now_value subject.system (now v) (is_now v) v (agrees_bits 2 subject.system.state_bits v) d (over_one d m)) ∙ member_true v c.invariant d holds m)

  first_follows : (v : TotalAssignment) → Satisfies v subject.system.first → (d : List Literal) → Contains c.invariant d → clause_value v d ≡ true
  first_follows v holds d m =
      let frame : InFrame subject.system c.invariant (now v) = invariant.holds_first (now v) (is_now v, (v, agrees_bits 2 subject.system.state_bits v, holds)) in
      now_value subject.system (now v) (is_now v) v (agrees_bits 2 subject.system.state_bits v) d (over_one d m)
      ∙ member_true (state_values subject.system (now v)) c.invariant d frame.1 m

  next_follows : (v : TotalAssignment) → Satisfies v (subject.system.step ++ c.invariant) → (d : List Literal) → Contains c.invariant d → clause_value v (map (moved_on subject.system.state_bits) d) ≡ true
  next_follows v holds d m =
      let next : State = bits_from (subject.system.state_bits + 2) subject.system.state_bits v in
      let is_next : IsState subject.system next = length_bits (subject.system.state_bits + 2) subject.system.state_bits v in
      let agrees : Agrees v (subject.system.state_bits + 2) next = agrees_bits (subject.system.state_bits + 2) subject.system.state_bits v in
      let frame : InFrame subject.system c.invariant next =
      invariant.is_kept (now v) next (inside v (Satisfies-back v subject.system.step c.invariant holds))
      (is_now v, is_next, (v, agrees_bits 2 subject.system.state_bits v, agrees, Satisfies-front v subject.system.step c.invariant holds)) in
      next_value subject.system next is_next v agrees d (over_one d m) ∙ member_true (state_values subject.system next) c.invariant d frame.1 m

  bad_follows : (v : TotalAssignment) → Satisfies v (subject.bad c.sets c.size ++ c.invariant) → ⊥
  bad_follows v holds =
      invariant.excludes (now v) (inside v (Satisfies-back v (subject.bad c.sets c.size) c.invariant holds))
      (is_now v, (v, agrees_bits 2 subject.system.state_bits v, Satisfies-front v (subject.bad c.sets c.size) c.invariant holds))

pub goals_follow : GoalsFollow
goals_follow subject c over invariant part_first needed m = λ v holds. first_follows subject c over invariant v holds needed m
goals_follow subject c over invariant part_next needed m =
    λ v holds. let d : (d : List Literal) × Contains c.invariant d × (map (moved_on subject.system.state_bits) d ≡ needed) = from_mapped (map (moved_on subject.system.state_bits)) c.invariant needed m in
    subst (λ e. clause_value v e ≡ true) d.2 (next_follows subject c over invariant v holds d.0 d.1)
goals_follow subject c over invariant part_bad needed m = λ v holds. absurd (bad_follows subject c over invariant v holds)
