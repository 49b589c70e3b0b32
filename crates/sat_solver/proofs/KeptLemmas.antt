-- The clauses of a search that is kept, by arrival.
use Rattle.std.proofs.Common.{◌≡◌, ℕ, ◌+◌, ◌<◌, ◌^◌, Bool, true, false, List, [], ◌∷◌, ◌++◌, length, replicate, All, refl, sym, ap, ◌∙◌, subst, append_assoc, length-append, arith}
use Rattle.std.proofs.lemmas.List.{append-nil, length-replicate, get_or_append_left, get_or_push}
use Rattle.std.proofs.lemmas.List.Elements.{All-nil, All-cons, All-head, All-tail, All-push}
use Rattle.sat_clauses.specs.Literal.{Literal}
use Rattle.sat_clauses.specs.Models.{TotalAssignment, Satisfies, FollowsFrom, clause_value}
use Rattle.sat_clauses.proofs.ModelLemmas.{All-from_Satisfies, Satisfies-from_All}
use Rattle.sat_clauses.specs.StoreRecord.{StoreValue}
use Rattle.sat_clauses.specs.Derivation.{IsUpTo}
use Rattle.sat_clauses.specs.declared.step.Step.{Step}
use Rattle.sat_solver.specs.TrailRecord.{TrailValue}
use Rattle.sat_solver.specs.Trail.{IsIdle}
use Rattle.sat_solver.specs.Search.{AreSteps, with_steps}
use Rattle.sat_solver.specs.LearnedClauses.{added_of, IsKept, IsSearch}
use Rattle.sat_solver.proofs.VerdictLemmas.{all_follow}

pub kept_from_search : (b : Bool) (s : StoreValue) (ms : List Bool) (t : TrailValue) → IsSearch b s ms t → b ≡ false → IsKept s ms × IsIdle s.vars t
kept_from_search false s ms t h e = h
kept_from_search true s ms t h e = absurd (differ e) where
  differ : true ≡ false → ⊥
  differ e = cc

pub length_with_steps : (cs : List (List Literal)) (ls : List Step) → length (with_steps cs ls) ≡ length cs + length ls
length_with_steps cs [] = omega arith
length_with_steps cs (l ∷ ls) = omega (arith, length_with_steps (cs ++ l.clause ∷ []) ls, length-append cs (l.clause ∷ []))

-- what holds of all clauses holds of those that were added
pub all_added : (P : List Literal → Type 0) (cs : List (List Literal)) (ms : List Bool) → All P cs → All P (added_of cs ms)
all_added P [] ms all = All-nil P
all_added P (c ∷ cs) [] all = All-nil P
all_added P (c ∷ cs) (true ∷ ms) all = all_added P cs ms (All-tail P c cs all)
all_added P (c ∷ cs) (false ∷ ms) all = All-cons P c (added_of cs ms) (All-head P c cs all) (all_added P cs ms (All-tail P c cs all))

-- a list after another
pub added_append : (cs ds : List (List Literal)) (ms ns : List Bool) → length ms ≡ length cs → added_of (cs ++ ds) (ms ++ ns) ≡ added_of cs ms ++ added_of ds ns
added_append [] ds [] ns e = refl
added_append [] ds (m ∷ ms) ns e = absurd (omega (arith, e))
added_append (c ∷ cs) ds [] ns e = absurd (omega (arith, e))
added_append (c ∷ cs) ds (true ∷ ms) ns e = added_append cs ds ms ns (omega (arith, e))
added_append (c ∷ cs) ds (false ∷ ms) ns e = ap (λ (xs : List (List Literal)). c ∷ xs) (added_append cs ds ms ns (omega (arith, e)))

-- learned clauses are none of those that were added
pub added_learned : (cs : List (List Literal)) (ms : List Bool) (ls : List Step) → length ms ≡ length cs → added_of (with_steps cs ls) (ms ++ replicate (length ls) true) ≡ added_of cs ms
added_learned cs ms [] e = ap (added_of cs) (append-nil ms)
added_learned cs ms (l ∷ ls) e =
    ap (added_of (with_steps (cs ++ l.clause ∷ []) ls)) (sym (append_assoc ms (true ∷ []) (replicate (length ls) true)))
    ∙ (added_learned (cs ++ l.clause ∷ []) (ms ++ true ∷ []) ls (omega (arith, e, length-append ms (true ∷ []), length-append cs (l.clause ∷ [])))
    ∙ (added_append cs (l.clause ∷ []) ms (true ∷ []) e ∙ append-nil (added_of cs ms)))

-- a model of the added clauses is one of all
pub models : (s : StoreValue) (ms : List Bool) (v : TotalAssignment) → IsKept s ms → Satisfies v (added_of s.clauses ms) → Satisfies v s.clauses
models s ms v h model = Satisfies-from_All v s.clauses (λ k d lt. h.follow k d lt v model)

front : (v : TotalAssignment) (cs : List (List Literal)) (d : List Literal) → Satisfies v (cs ++ d ∷ []) → Satisfies v cs
front v cs d model =
    let all = All-from_Satisfies v (cs ++ d ∷ []) model in
    Satisfies-from_All v cs (λ k e lt. subst (λ (c : List Literal). clause_value v c ≡ true) (get_or_append_left cs (d ∷ []) e k lt) (all k e (omega (arith, length-append cs (d ∷ [])))))

last : (v : TotalAssignment) (cs : List (List Literal)) (d : List Literal) → Satisfies v (cs ++ d ∷ []) → clause_value v d ≡ true
last v cs d model =
    let all = All-from_Satisfies v (cs ++ d ∷ []) model in
    subst (λ (c : List Literal). clause_value v c ≡ true) (get_or_push cs d d (length cs) refl) (all (length cs) d (omega (arith, length-append cs (d ∷ []))))

-- a clause is added
pub kept_added : (s : StoreValue) (ms : List Bool) (d : List Literal) → All (IsUpTo s.vars) d → IsKept s ms → IsKept (record s { clauses = s.clauses ++ d ∷ []; found = [] }) (ms ++ false ∷ [])
kept_added s ms d all h =
    let added = added_of s.clauses ms in
    record {
      small = h.small;
      empty = h.empty;
      marked = omega (arith, h.marked, length-append ms (false ∷ []), length-append s.clauses (d ∷ []));
      in_range = All-push (All (IsUpTo s.vars)) s.clauses d h.in_range all;
      follow = subst (λ (xs : List (List Literal)). All (FollowsFrom xs) (s.clauses ++ d ∷ [])) (sym (added_append s.clauses (d ∷ []) ms (false ∷ []) h.marked))
          (All-push (FollowsFrom (added ++ d ∷ [])) s.clauses d (λ k e lt v model. h.follow k e lt v (front v added d model)) (λ v model. last v added d model));
    }

-- a variable comes
pub kept_more : (s : StoreValue) (ms : List Bool) → s.vars + 1 < 2 ^ 62 → IsKept s ms → IsKept (record s { vars = s.vars + 1; found = [] }) ms
kept_more s ms small h = record {
  small = small;
  empty = h.empty;
  marked = h.marked;
  in_range = λ k d lt j e within. let z = h.in_range k d lt j e within in omega (arith, z);
  follow = h.follow;
}

pub steps_in_range : (vars : ℕ) (ss : List Step) (cs : List (List Literal)) → AreSteps vars cs ss → All (All (IsUpTo vars)) cs → All (All (IsUpTo vars)) (with_steps cs ss)
steps_in_range vars [] cs steps all = all
steps_in_range vars (s ∷ ss) cs steps all = steps_in_range vars ss (cs ++ s.clause ∷ []) steps.1 (All-push (All (IsUpTo vars)) cs s.clause all steps.0.in_range)

-- clauses are learned
pub kept_learned : (s t : StoreValue) (ms ns : List Bool) (ls : List Step) → IsKept s ms → AreSteps s.vars s.clauses ls → t.clauses ≡ with_steps s.clauses ls → t.vars ≡ s.vars → t.trail ≡ [] → ns ≡ ms ++ replicate (length ls) true → IsKept t ns
kept_learned s t ms ns ls h steps clauses vars empty marks =
    let new = with_steps s.clauses ls in
    let same : added_of t.clauses ns ≡ added_of s.clauses ms =
    ap (λ (xs : List (List Literal)). added_of xs ns) clauses ∙ (ap (λ (x : List Bool). added_of new x) marks ∙ added_learned s.clauses ms ls h.marked) in
    record {
      small = omega (arith, h.small, vars);
      empty = empty;
      marked = omega (arith, h.marked, ap length clauses, ap length marks, length-append ms (replicate (length ls) true), length-replicate (length ls) true, length_with_steps s.clauses ls);
      in_range = subst (λ (n : ℕ). All (All (IsUpTo n)) t.clauses) (sym vars) (subst (All (All (IsUpTo s.vars))) (sym clauses) (steps_in_range s.vars ls s.clauses steps h.in_range));
      follow = subst (λ (xs : List (List Literal)). All (FollowsFrom xs) t.clauses) (sym same) (subst (All (FollowsFrom (added_of s.clauses ms))) (sym clauses)
          (λ k d lt v model. All-from_Satisfies v new (all_follow s.vars v ls s.clauses steps (models s ms v h model)) k d lt));
    }
