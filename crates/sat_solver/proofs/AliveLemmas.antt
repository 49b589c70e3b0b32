-- Clauses that stay.
use Rattle.std.proofs.Common.{zero, suc, ◌≡◌, ℕ, ◌+◌, ◌<◌, ◌≤◌, Bool, true, false, List, [], ◌∷◌, ◌++◌, length, get_or, drop, All, Some, refl, sym, ap, ◌∙◌, subst, append_assoc, length-append, arith}
use Rattle.std.specs.Prelude.{slice_get, Contains}
use Rattle.std.proofs.lemmas.List.{append-nil, drop_more, drop_all}
use Rattle.std.proofs.lemmas.List.Elements.{All-nil, All-push}
use Rattle.std.proofs.lemmas.Option.{get_or_from_slice_get, slice_get_within}
use Rattle.sat_clauses.specs.Literal.{Literal}
use Rattle.sat_clauses.specs.Models.{FollowsFrom, ClauseBelow}
use Rattle.sat_clauses.specs.StoreRecord.{StoreValue}
use Rattle.sat_clauses.specs.Derivation.{IsUpTo}
use Rattle.sat_solver.specs.LearnedClauses.{added_of, IsKept}
use Rattle.sat_solver.specs.LivingClauses.{IsAlive}
use Rattle.sat_solver.proofs.KeptLemmas.{added_append}

pub same_default : (cs : List (List Literal)) (k : ℕ) (d e : List Literal) → k < length cs → get_or cs k d ≡ get_or cs k e
same_default [] k d e lt = absurd (omega arith)
same_default (c ∷ cs) zero d e lt = refl
same_default (c ∷ cs) (suc k) d e lt = same_default cs k d e (omega arith)

-- a list has all its clauses
pub all_contained : (cs : List (List Literal)) → All (Contains cs) cs
all_contained cs = λ k d lt. (k, lt, same_default cs k (get_or cs k d) d lt)

-- a clause of these is in range
pub below : (vars i : ℕ) (cs : List (List Literal)) (c : List Literal) → slice_get cs i ≡ Some c → All (All (IsUpTo vars)) cs → ClauseBelow (vars + 1) c
below vars i cs c there all =
    let here : All (IsUpTo vars) c = subst (All (IsUpTo vars)) (get_or_from_slice_get cs i c c there) (all i c (slice_get_within cs i c there)) in
    λ k d lt. let z = here k d lt in omega (arith, z)

-- nothing was looked at
pub alive_none : (cs : List (List Literal)) (ms : List Bool) → IsAlive cs ms 0 [] []
alive_none cs ms = record {
  marked = refl;
  fewer = omega arith;
  added = refl;
  among = All-nil (Contains cs);
}

by_mark : (c : List Literal) (m : Bool) (cs : List (List Literal)) (ms : List Bool) → added_of (c ∷ cs) (m ∷ ms) ≡ added_of (c ∷ []) (m ∷ []) ++ added_of cs ms
by_mark c true cs ms = refl
by_mark c false cs ms = refl

-- what is left begins with the clause at the place
rest_is : (cs : List (List Literal)) (ms : List Bool) (i : ℕ) (c : List Literal) (m : Bool) → i < length cs → i < length ms → get_or cs i c ≡ c → get_or ms i true ≡ m →
    added_of (drop i cs) (drop i ms) ≡ added_of (c ∷ []) (m ∷ []) ++ added_of (drop (i + 1) cs) (drop (i + 1) ms)
rest_is cs ms i c m lt le is marked =
    ap (λ (xs : List (List Literal)). added_of xs (drop i ms)) (drop_more cs i c lt ∙ ap (λ (d : List Literal). d ∷ drop (i + 1) cs) is)
    ∙ (ap (λ (ns : List Bool). added_of (c ∷ drop (i + 1) cs) ns) (drop_more ms i true le ∙ ap (λ (n : Bool). n ∷ drop (i + 1) ms) marked)
    ∙ by_mark c m (drop (i + 1) cs) (drop (i + 1) ms))

-- a learned clause goes
pub alive_less : (cs : List (List Literal)) (ms : List Bool) (i : ℕ) (ds : List (List Literal)) (ns : List Bool) → i < length cs → length ms ≡ length cs → get_or ms i true ≡ true →
    IsAlive cs ms i ds ns → IsAlive cs ms (i + 1) ds ns
alive_less cs ms i ds ns lt long learned h =
    let here : get_or cs i (get_or cs i []) ≡ get_or cs i [] = same_default cs i (get_or cs i []) [] lt in
    record {
      marked = h.marked;
      fewer = omega (arith, h.fewer);
      added = ap (λ (xs : List (List Literal)). added_of ds ns ++ xs) (sym (rest_is cs ms i (get_or cs i []) true lt (omega (arith, lt, long)) here learned)) ∙ h.added;
      among = h.among;
    }

-- a clause stays
pub alive_more : (cs : List (List Literal)) (ms : List Bool) (i : ℕ) (ds : List (List Literal)) (ns : List Bool) (c : List Literal) (m : Bool) → slice_get cs i ≡ Some c → length ms ≡ length cs → m ≡ get_or ms i true →
    IsAlive cs ms i ds ns → IsAlive cs ms (i + 1) (ds ++ c ∷ []) (ns ++ m ∷ [])
alive_more cs ms i ds ns c m there long marked h =
    let lt = slice_get_within cs i c there in
    let here : get_or cs i c ≡ c = get_or_from_slice_get cs i c c there in
    let left = added_of (drop (i + 1) cs) (drop (i + 1) ms) in
    record {
      marked = omega (arith, h.marked, length-append ns (m ∷ []), length-append ds (c ∷ []));
      fewer = omega (arith, h.fewer, length-append ds (c ∷ []));
      added = ap (λ (xs : List (List Literal)). xs ++ left) (added_append ds (c ∷ []) ns (m ∷ []) h.marked)
          ∙ (append_assoc (added_of ds ns) (added_of (c ∷ []) (m ∷ [])) left
          ∙ (ap (λ (xs : List (List Literal)). added_of ds ns ++ xs) (sym (rest_is cs ms i c m lt (omega (arith, lt, long)) here (sym marked))) ∙ h.added));
      among = All-push (Contains cs) ds c h.among (i, lt, here);
    }

-- all were looked at
pub alive_all : (cs : List (List Literal)) (ms : List Bool) (i : ℕ) (ds : List (List Literal)) (ns : List Bool) → length cs ≤ i → IsAlive cs ms i ds ns → added_of ds ns ≡ added_of cs ms
alive_all cs ms i ds ns over h =
    sym (append-nil (added_of ds ns)) ∙ (ap (λ (xs : List (List Literal)). added_of ds ns ++ added_of xs (drop i ms)) (sym (drop_all i cs over)) ∙ h.added)

-- what holds of all clauses holds of those that stay
holds_among : (P : List Literal → Type 0) (cs ds : List (List Literal)) → All (Contains cs) ds → All P cs → All P ds
holds_among P cs ds among all = λ k d lt. let h = among k d lt in subst P h.2 (all h.0 (get_or ds k d) h.1)

-- a search keeps what stays
pub kept_alive : (s t : StoreValue) (ms ns : List Bool) → IsKept s ms → IsAlive s.clauses ms (length s.clauses) t.clauses ns → t.vars ≡ s.vars → t.trail ≡ [] → IsKept t ns
kept_alive s t ms ns h a vars empty = record {
  small = omega (arith, h.small, vars);
  empty = empty;
  marked = a.marked;
  in_range = subst (λ (n : ℕ). All (All (IsUpTo n)) t.clauses) (sym vars) (holds_among (All (IsUpTo s.vars)) s.clauses t.clauses a.among h.in_range);
  follow = subst (λ (added : List (List Literal)). All (FollowsFrom added) t.clauses) (sym (alive_all s.clauses ms (length s.clauses) t.clauses ns (omega arith) a))
      (holds_among (FollowsFrom (added_of s.clauses ms)) s.clauses t.clauses a.among h.follow);
}
