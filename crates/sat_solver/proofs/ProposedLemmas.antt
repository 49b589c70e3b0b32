-- What is right of what a kernel proposes.
use Rattle.std.proofs.Common.{suc, ◌≡◌, ℕ, ◌<◌, Bool, true, false, List, [], ◌∷◌, length, get_or, Option, Some, None, All, IfSome, refl, sym, subst, arith}
use Rattle.std.proofs.lemmas.List.Elements.{All-nil, All-cons}
use Rattle.sat_clauses.specs.Literal.{Literal}
use Rattle.sat_clauses.specs.Assignment.{Assignment}
use Rattle.sat_clauses.specs.Models.{Satisfies, FollowsFrom}
use Rattle.sat_clauses.specs.StoreRecord.{StoreValue}
use Rattle.sat_clauses.specs.Derivation.{IsUpTo}
use Rattle.sat_clauses.specs.declared.step.Step.{Step}
use Rattle.sat_solver.specs.Search.{Grows}
use Rattle.sat_solver.specs.LearnedClauses.{added_of, IsKept, IsAnswer, IsRefuted}
use Rattle.sat_solver.specs.Proposals.{HasTrue, IsRight}
use Rattle.sat_solver.specs.declared.solve.Verdict.{Verdict}
use Rattle.sat_solver.specs.declared.solve.Verdict.TheVariants.{Sat, Unsat}
use Rattle.sat_solver.proofs.VerdictLemmas.{all_follow, All-first}
use Rattle.sat_solver.proofs.KeptLemmas.{models, all_added, steps_in_range}

-- what was learned is in range
pub grown_in_range : (vars : ℕ) (cs ds : List (List Literal)) (k l : Option (List Step)) → Grows vars cs k ds l → All (All (IsUpTo vars)) cs → All (All (IsUpTo vars)) ds
grown_in_range vars cs ds k l g all = subst (All (All (IsUpTo vars))) (sym g.clauses) (steps_in_range vars g.steps cs g.are_steps all)

-- what follows from clauses that have grown by steps follows from those that they grew from
pub follows_before : (vars : ℕ) (cs ds : List (List Literal)) (k l : Option (List Step)) (c : List Literal) → Grows vars cs k ds l → FollowsFrom ds c → FollowsFrom cs c
follows_before vars cs ds k l c g follows = λ v model. follows v (subst (Satisfies v) (sym g.clauses) (all_follow vars v g.steps cs g.are_steps model))

pub refuted_before : (cores : Bool) (vars : ℕ) (cs ds es : List (List Literal)) (k l : Option (List Step)) (assumptions c : List Literal) → Grows vars cs k ds l → IsRefuted cores ds es assumptions c → IsRefuted cores cs es assumptions c
refuted_before cores vars cs ds es k l assumptions c g r = record {
  negated = r.negated;
  follows = follows_before vars cs ds k l c g r.follows;
  listed = r.listed;
}

-- what is right once clauses were learned is right
pub right_before : (cores : Bool) (vars : ℕ) (added cs ds es : List (List Literal)) (k l : Option (List Step)) (assumptions : List Literal) (v : Verdict) → Grows vars cs k ds l → IsRight cores vars added ds es assumptions v → IsRight cores vars added cs es assumptions v
right_before cores vars added cs ds es k l assumptions (Sat a) g right = right
right_before cores vars added cs ds es k l assumptions (Unsat c) g right = refuted_before cores vars cs ds es k l assumptions c g right

pub right_some : (cores : Bool) (vars : ℕ) (added cs ds es : List (List Literal)) (k l : Option (List Step)) (assumptions : List Literal) (o : Option Verdict) → Grows vars cs k ds l → IfSome o (IsRight cores vars added ds es assumptions) → IfSome o (IsRight cores vars added cs es assumptions)
right_some cores vars added cs ds es k l assumptions None g right = right
right_some cores vars added cs ds es k l assumptions (Some v) g right = right_before cores vars added cs ds es k l assumptions v g right

-- an answer of the search over clauses that have grown is right
pub right_from_answer : (cores : Bool) (vars : ℕ) (cs ds es : List (List Literal)) (ms : List Bool) (k l : Option (List Step)) (assumptions : List Literal) (v : Verdict) → Grows vars cs k ds l → IsAnswer cores vars ds es assumptions v → IsRight cores vars (added_of cs ms) cs es assumptions v
right_from_answer cores vars cs ds es ms k l assumptions (Sat a) g s = record {
  places = s.places;
  clauses_true = all_added (HasTrue a) cs ms (All-first (HasTrue a) g.steps cs (subst (All (HasTrue a)) g.clauses s.clauses_true));
  assumptions_true = s.assumptions_true;
}
right_from_answer cores vars cs ds es ms k l assumptions (Unsat c) g r = refuted_before cores vars cs ds es k l assumptions c g r

-- what is right is an answer about the added clauses
pub answer_from_right : (cores : Bool) (s : StoreValue) (es : List (List Literal)) (ms : List Bool) (assumptions : List Literal) (v : Verdict) → IsKept s ms → IsRight cores s.vars (added_of s.clauses ms) s.clauses es assumptions v → IsAnswer cores s.vars (added_of s.clauses ms) es assumptions v
answer_from_right cores s es ms assumptions (Sat a) kept right = right
answer_from_right cores s es ms assumptions (Unsat c) kept r = record {
  negated = r.negated;
  follows = λ v model. r.follows v (models s ms v kept model);
  listed = r.listed;
}

-- the clause of a verdict that is right
pub refuted_from_right : (cores : Bool) (s : StoreValue) (es : List (List Literal)) (ms : List Bool) (assumptions : List Literal) (r : Option (List Literal)) (told : Option Verdict) →
    IsKept s ms → IfSome r (λ core. told ≡ Some (Unsat core)) → IfSome told (IsRight cores s.vars (added_of s.clauses ms) s.clauses es assumptions) → IfSome r (λ core. IsAnswer cores s.vars (added_of s.clauses ms) es assumptions (Unsat core))
refuted_from_right cores s es ms assumptions None told kept e right = tt
refuted_from_right cores s es ms assumptions (Some core) told kept e right =
    answer_from_right cores s es ms assumptions (Unsat core) kept (subst (λ (t : Option Verdict). IfSome t (IsRight cores s.vars (added_of s.clauses ms) s.clauses es assumptions)) e right)

-- each added clause up to a place has a true literal
abbrev pub AreTrueUpTo : Assignment → List (List Literal) → List Bool → ℕ → Type 0
AreTrueUpTo a cs ms i = (k : ℕ) → k < i → get_or ms k true ≡ false → HasTrue a (get_or cs k [])

-- all added ones have, where those have that are not marked
pub all_true_from : (a : Assignment) (cs : List (List Literal)) (ms : List Bool) → ((k : ℕ) → k < length cs → get_or ms k true ≡ false → HasTrue a (get_or cs k [])) → All (HasTrue a) (added_of cs ms)
all_true_from a [] ms each = All-nil (HasTrue a)
all_true_from a (c ∷ cs) [] each = All-nil (HasTrue a)
all_true_from a (c ∷ cs) (true ∷ ms) each = all_true_from a cs ms (λ k lt is. each (suc k) (omega arith) is)
all_true_from a (c ∷ cs) (false ∷ ms) each = All-cons (HasTrue a) c (added_of cs ms) (each 0 (omega arith) refl) (all_true_from a cs ms (λ k lt is. each (suc k) (omega arith) is))
