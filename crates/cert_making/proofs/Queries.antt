-- One query for each goal makes a derivation.
use Rattle.std.proofs.Common.{◌≡◌, ◌⊎◌, inl, inr, ℕ, ◌≤◌, List, [], ◌∷◌, ◌++◌, max, Option, refl, subst, arith}
use Rattle.std.specs.Prelude.{Contains, All, slice_index_or}
use Rattle.std.proofs.lemmas.List.Elements.{All-nil, All-cons, All-append, Contains-push_cases}
use Rattle.sat_clauses.specs.Literal.{Literal}
use Rattle.sat_clauses.specs.Models.{FollowsFrom}
use Rattle.sat_clauses.specs.Derivation.{IsUpTo}
use Rattle.sat_clauses.specs.Hints.{HasNoOpposites}
use Rattle.sat_clauses.specs.Steps.{AreSteps, with_steps}
use Rattle.sat_clauses.specs.declared.step.Step.{Step}
use Rattle.sat_solver.specs.Verdict.{IsVerdict}
use Rattle.sat_solver.specs.declared.solve.Verdict.{Verdict}
use Rattle.sat_solver.specs.declared.solve.Verdict.TheVariants.{Sat, Unsat}
use Rattle.cert_laws.specs.Acceptance.{highest_in, highest, Covers}
use Rattle.cert_laws.specs.Derivations.{asked, IsContinued}
use Rattle.cert_laws.proofs.Asked.{derivations_go_on}
use Rattle.cert_making.specs.Queries.{IsSoFar, IsOneFurther, QueriesDerive, AllCoveredIsDerived}

-- the highest variable bounds the clauses
clause_bounded : (c : List Literal) → All (IsUpTo (highest_in c)) c
clause_bounded [] = All-nil (IsUpTo 1)
clause_bounded (l ∷ ls) =
    All-cons (IsUpTo (max l.var (highest_in ls))) l ls (omega arith)
    (λ k d within. let h : (slice_index_or ls k d).var ≤ highest_in ls = clause_bounded ls k d within in omega (arith, h))

pub clauses_bounded : (cs : List (List Literal)) → All (All (IsUpTo (highest cs))) cs
clauses_bounded [] = All-nil (All (IsUpTo 1))
clauses_bounded (c ∷ cs) =
    All-cons (All (IsUpTo (max (highest_in c) (highest cs)))) c cs
    (λ k d within. let h : (slice_index_or c k d).var ≤ highest_in c = clause_bounded c k d within in omega (arith, h))
    (λ i e inside k d within. let h : (slice_index_or (slice_index_or cs i e) k d).var ≤ highest cs = clauses_bounded cs i e inside k d within in omega (arith, h))

-- and steps over variables up to it stay within it
pub steps_bounded : (vars : ℕ) (cs : List (List Literal)) (steps : List Step) → All (All (IsUpTo vars)) cs → AreSteps vars cs steps → All (All (IsUpTo vars)) (with_steps cs steps)
steps_bounded vars cs [] h are = h
steps_bounded vars cs (s ∷ ss) h are =
    steps_bounded vars (cs ++ s.clause ∷ []) ss (All-append (All (IsUpTo vars)) cs (s.clause ∷ []) h (All-cons (All (IsUpTo vars)) s.clause [] are.0.in_range (All-nil (All (IsUpTo vars))))) are.1

module _ (clauses : List (List Literal)) (done : List Step) (covered : List (List Literal)) (goal : List Literal) (so_far : IsSoFar clauses done covered) (apart : HasNoOpposites goal) (follows : FollowsFrom clauses goal) where
  further : (kept_old kept_new : Option (List Step)) (verdict : Verdict) → IsVerdict (highest clauses) (with_steps clauses done) (asked (highest clauses) goal) kept_old kept_new verdict →
      IsOneFurther clauses done covered goal kept_old kept_new verdict
  further kept_old kept_new (Sat a) h =
      absurd ((derivations_go_on (highest clauses) clauses done goal so_far.are_steps apart follows).1 a (record { places = h.places; clauses_true = h.clauses_true; assumptions_true = h.assumptions_true }))
  further kept_old kept_new (Unsat core) h =
      let next : IsContinued (highest clauses) clauses done h.steps goal =
      (derivations_go_on (highest clauses) clauses done goal so_far.are_steps apart follows).2 h.steps (record { core = core; are_steps = h.are_steps; negated = h.negated; listed = h.listed }) in
      record {
        core = core;
        is_unsat = refl;
        steps = h.steps;
        kept = h.kept;
        so_far = record { are_steps = next.are_steps; covers = λ d m. one d next (Contains-push_cases covered goal d m) };
      }
    where
      one : (d : List Literal) → IsContinued (highest clauses) clauses done h.steps goal → Contains covered d ⊎ (goal ≡ d) → Covers (with_steps clauses (done ++ h.steps)) d
      one d next (inl m) = next.earlier d (so_far.covers d m)
      one d next (inr e) = subst (Covers (with_steps clauses (done ++ h.steps))) e next.covers

pub queries_derive : QueriesDerive
queries_derive clauses done covered goal low so_far apart follows =
    let may = (derivations_go_on (highest clauses) clauses done goal so_far.are_steps apart follows).0 in (
      record {
        vars = low;
        clauses_in_range = steps_bounded (highest clauses) clauses done (clauses_bounded clauses) so_far.are_steps;
        assumptions_in_range = may.in_range;
        apart = may.no_opposites;
      },
      further clauses done covered goal so_far apart follows,
    )

pub all_covered_derived : AllCoveredIsDerived
all_covered_derived subject c part so_far = record { are_steps = so_far.are_steps; covered = so_far.covers }
