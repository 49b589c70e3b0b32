-- From the last step of a search to its verdict.
use Rattle.std.proofs.Common.{◌≡◌, ◌≢◌, ⊎_elim, ℕ, ◌+◌, ◌<◌, ◌≤◌, Bool, true, false, List, [], ◌∷◌, ◌++◌, length, get_or, unwrap_or, Option, Some, None, All, Any, Contains, refl, sym, ap, ◌∙◌, subst, arith}
use Rattle.std.specs.Option.{option_map}
use Rattle.std.specs.List.{list_any}
use Rattle.std.proofs.lemmas.Bool.{cases_Bool}
use Rattle.std.proofs.lemmas.Option.{none-some}
use Rattle.std.proofs.lemmas.List.{get_or_append_left, length-append}
use Rattle.std.proofs.lemmas.List.Elements.{All-nil, All-push}
use Rattle.std.proofs.lemmas.List.Folds.{Any-from_list_any}
use Rattle.sat_clauses.specs.Literal.{Literal, signed}
use Rattle.sat_clauses.specs.Assignment.{Assignment, IsInRange, value_of, is_true_in}
use Rattle.sat_clauses.specs.Truth.{truth_of}
use Rattle.sat_clauses.specs.Models.{TotalAssignment, clause_value, Satisfies}
use Rattle.sat_clauses.specs.declared.clause.Truth.{Truth}
use Rattle.sat_clauses.specs.declared.clause.Truth.TheVariants.{True, False, Unit as UnitClause, Unknown}
use Rattle.sat_clauses.proofs.ListLemmas.{All-from_list_any}
use Rattle.sat_clauses.proofs.ModelLemmas.{All-from_Satisfies, Satisfies-from_All}
use Rattle.sat_clauses.proofs.TruthLemmas.{truth_of-True, truth_of-False, value_true}
use Rattle.sat_clauses.proofs.DeriveModelLemmas.{FollowsFrom-EndsFalse}
use Rattle.sat_clauses.specs.declared.step.Step.{Step}
use Rattle.sat_solver.specs.ClauseFindings.{IsTrueIn}
use Rattle.sat_solver.specs.LearnedClauses.{IsRefuted, IsAnswer}
use Rattle.sat_solver.specs.Search.{AreSteps, with_steps, Grows, IsSolution}
use Rattle.sat_solver.specs.Verdict.{IsFull, IsCore, IsAdvance, IsAmong, IsVerdict}
use Rattle.sat_solver.specs.TrailRecord.{TrailValue}
use Rattle.sat_solver.specs.declared.solve.Verdict.{Verdict}
use Rattle.sat_solver.specs.declared.solve.Verdict.TheVariants.{Sat, Unsat}

value_false : (o : Option Bool) → unwrap_or o false ≡ false → o ≢ None → o ≡ Some false
value_false None e ne = absurd (ne refl)
value_false (Some b) e ne = ap Some e

-- a clause whose variables have values is true or false
clause_holds : (a : Assignment) (c : List Literal) → All (λ l. value_of a l ≢ None) c → truth_of a c ≢ False → Any (λ l. value_of a l ≡ Some true) c
clause_holds a c taken quiet =
    ⊎_elim
    (λ some. let w = Any-from_list_any (is_true_in a) c some in (w.0, w.1, w.2, w.3, value_true (value_of a w.1) w.4))
    (λ none.
    let not_true = All-from_list_any (is_true_in a) c none in
    absurd (quiet ((truth_of-False a c).1 (λ k d lt. value_false (value_of a (get_or c k d)) (not_true k d lt) (taken k d lt)))))
    (cases_Bool (list_any (is_true_in a) c))

has_value : (a : Assignment) (l : Literal) → get_or a l.var None ≢ None → value_of a l ≢ None
has_value a l ne e = by_place (get_or a l.var None) ne e where
  by_place : (o : Option Bool) → o ≢ None → option_map (signed l.negated) o ≡ None → ⊥
  by_place None ne e = ne refl
  by_place (Some b) ne e = none-some _ (sym e)

-- where every variable has a value, no clause is unknown
pub never_unknown : (a : Assignment) (c : List Literal) → All (IsInRange a) c → ((x : ℕ) → 0 < x → x < length a → get_or a x None ≢ None) → All (λ (l : Literal). 1 ≤ l.var) c → truth_of a c ≡ Unknown → ⊥
never_unknown a c in_range taken positive is =
    let any = clause_holds a c (λ j e lt. has_value a (get_or c j e) (taken (get_or c j e).var (positive j e lt) (in_range j e lt))) (λ f. not_false (sym f ∙ is)) in
    not_true (sym ((truth_of-True a c).1 any) ∙ is)
  where
    not_false : ◌≡◌ {A = Truth} False Unknown → ⊥
    not_false e = cc

    not_true : ◌≡◌ {A = Truth} True Unknown → ⊥
    not_true e = cc

pub only_true : (t : Truth) → (t ≡ False → ⊥) → ((l : Literal) → t ≡ UnitClause l → ⊥) → (t ≡ Unknown → ⊥) → t ≡ True
only_true True f u n = refl
only_true False f u n = absurd (f refl)
only_true (UnitClause l) f u n = absurd (u l refl)
only_true Unknown f u n = absurd (n refl)

pub All-first : (P : List Literal → Type 0) (ss : List Step) (cs : List (List Literal)) → All P (with_steps cs ss) → All P cs
All-first P [] cs all = all
All-first P (s ∷ ss) cs all = front cs (All-first P ss (cs ++ s.clause ∷ []) all) where
  front : (ds : List (List Literal)) → All P (ds ++ s.clause ∷ []) → All P ds
  front [] all = All-nil P
  front (d ∷ ds) all = λ k e lt. from_front k e lt where
    from_front : (k : ℕ) (e : List Literal) → k < length (d ∷ ds) → P (get_or (d ∷ ds) k e)
    from_front k e lt = subst P ((get_or_append_left (d ∷ ds) (s.clause ∷ []) e k lt)) (all k e (omega (arith, length-append (d ∷ ds) (s.clause ∷ []))))

pub solution : (vars : ℕ) (givens ds : List (List Literal)) (assumptions : List Literal) (a : Assignment) (kept_old kept_new : Option (List Step)) → Grows vars givens kept_old ds kept_new → length a ≡ vars + 1 → IsFull ds assumptions a → IsSolution vars givens assumptions a
solution vars givens ds assumptions a kept_old kept_new grows places full = record {
  places = places;
  clauses_true = λ k d lt. (truth_of-True a (get_or givens k d)).0 (All-first (IsTrueIn a) grows.steps givens (subst (All (IsTrueIn a)) grows.clauses full.all_true) k d lt);
  assumptions_true = full.assumed;
}

-- steps keep all models
pub all_follow : (vars : ℕ) (v : TotalAssignment) (ss : List Step) (cs : List (List Literal)) → AreSteps vars cs ss → Satisfies v cs → Satisfies v (with_steps cs ss)
all_follow vars v [] cs steps model = model
all_follow vars v (s ∷ ss) cs steps model =
    all_follow vars v ss (cs ++ s.clause ∷ []) steps.1
    (Satisfies-from_All v (cs ++ s.clause ∷ [])
    (All-push (λ c. clause_value v c ≡ true) cs s.clause (All-from_Satisfies v cs model) (FollowsFrom-EndsFalse vars cs s.clause s.hints steps.0.ends v model)))

-- what refutes where clauses have grown by steps refutes those that they grew from
refuted : (cores : Bool) (vars : ℕ) (givens ds : List (List Literal)) (assumptions c : List Literal) (kept_old kept_new : Option (List Step)) → Grows vars givens kept_old ds kept_new → IsCore cores ds assumptions c → IsRefuted cores givens ds assumptions c
refuted cores vars givens ds assumptions c kept_old kept_new grows core = record {
  negated = core.negated;
  follows = λ v model. core.follows v (subst (Satisfies v) (sym grows.clauses) (all_follow vars v grows.steps givens grows.are_steps model));
  listed = core.listed;
}

pub answer_from : (cores : Bool) (vars : ℕ) (givens ds : List (List Literal)) (assumptions : List Literal) (old new : TrailValue) (kept_old kept_new : Option (List Step)) (v : Verdict) → Grows vars givens kept_old ds kept_new → length old.values ≡ vars + 1 → IsAdvance cores ds assumptions old new (Some v) → IsAnswer cores vars givens ds assumptions v
answer_from cores vars givens ds assumptions old new kept_old kept_new (Sat a) grows places h =
    solution vars givens ds assumptions a kept_old kept_new grows (h.1 ∙ places) h.0
answer_from cores vars givens ds assumptions old new kept_old kept_new (Unsat c) grows places h =
    refuted cores vars givens ds assumptions c kept_old kept_new grows h

-- where cores are kept, an answer is a verdict whose steps were kept
pub verdict_of : (vars : ℕ) (givens ds : List (List Literal)) (assumptions : List Literal) (kept_old kept_new : Option (List Step)) (v : Verdict) → Grows vars givens kept_old ds kept_new → IsAnswer true vars givens ds assumptions v → IsVerdict vars givens assumptions kept_old kept_new v
verdict_of vars givens ds assumptions kept_old kept_new (Sat a) grows h = h
verdict_of vars givens ds assumptions kept_old kept_new (Unsat c) grows h = record {
  negated = h.negated;
  follows = h.follows;
  steps = grows.steps;
  are_steps = grows.are_steps;
  kept = grows.kept;
  listed = subst (λ (xs : List (List Literal)). Contains xs c) grows.clauses (h.listed refl);
}

-- and what refutes is one of the clauses
pub among : (vars : ℕ) (givens ds : List (List Literal)) (assumptions : List Literal) (v : Verdict) → IsAnswer true vars givens ds assumptions v → IsAmong ds v
among vars givens ds assumptions (Sat a) h = tt
among vars givens ds assumptions (Unsat c) h = h.listed refl
