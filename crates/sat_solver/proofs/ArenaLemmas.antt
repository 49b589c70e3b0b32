-- An arena in which a literal was just made true.
use Rattle.std.proofs.Common.{zero, suc, ◌≡◌, ◌≢◌, ◌⊎◌, inl, inr, ⊎_elim, ℕ, ◌+◌, ◌-◌, ◌<◌, ◌≤◌, true, List, [], ◌∷◌, ◌++◌, length, get_or, take, Contains, None, Some, refl, sym, ap, ◌∙◌, subst, arith}
use Rattle.std.specs.Prelude.{slice_get}
use Rattle.std.proofs.lemmas.Bool.{cases_eq, cases_lt}
use Rattle.std.proofs.lemmas.Option.{get_or_from_slice_get, slice_get_within}
use Rattle.std.proofs.lemmas.List.{length-replicate}
use Rattle.std.proofs.lemmas.List.Elements.{All-contains}
use Rattle.sat_clauses.specs.Literal.{Literal, opposite}
use Rattle.sat_clauses.specs.Code.{code_of}
use Rattle.sat_clauses.specs.Assignment.{Assignment, all_free}
use Rattle.sat_clauses.specs.Models.{ClausesBelow}
use Rattle.sat_clauses.specs.Truth.{truth_of}
use Rattle.sat_clauses.specs.Store.{IsDue, AreExactlyDue, IsFalseOrUnit}
use Rattle.sat_clauses.specs.Trail.{assigned_by, IsTrail}
use Rattle.sat_clauses.proofs.TrailLemmas.{length-assigned_from}
use Rattle.sat_clauses.proofs.StoreLemmas.{IsFalseOrUnit-from, is_false_or_unit-from}
use Rattle.sat_solver.specs.Threads.{at}
use Rattle.sat_solver.specs.Watch.{IsWatched}
use Rattle.sat_solver.specs.Pass.{clause_of, is_hit, CanVisit, CanPass, IsHitAt, IsPassed}
use Rattle.sat_solver.specs.Arena.{AreWatched}
use Rattle.sat_solver.proofs.WatchLemmas.{swap_watched, can_visit, still_watched, untouched, watched_if_hit, watched_undone}

pub slice_get_clause : (cs : List (List Literal)) (i : ℕ) → i < length cs → slice_get cs i ≡ Some (clause_of cs i)
slice_get_clause [] i lt = absurd (omega arith)
slice_get_clause (c ∷ cs) zero lt = refl
slice_get_clause (c ∷ cs) (suc i) lt = slice_get_clause cs i (omega arith)

-- the tables are alike
pub swap_tables : (vars : ℕ) (t : List Literal) (cs : List (List Literal)) (fs ss : List ℕ) → AreWatched vars t cs fs ss → AreWatched vars t cs ss fs
swap_tables vars t cs fs ss w = record {
  no_spare_first = w.no_spare_second;
  no_spare_second = w.no_spare_first;
  unused_first = w.unused_second;
  unused_second = w.unused_first;
  watched = λ i lt. swap_watched vars t (clause_of cs i) (at fs i) (at ss i) (w.watched i lt);
}

pub tables_undone : (vars : ℕ) (t : List Literal) (keep : ℕ) (cs : List (List Literal)) (fs ss : List ℕ) → AreWatched vars t cs fs ss → AreWatched vars (take keep t) cs fs ss
tables_undone vars t keep cs fs ss w = record {
  no_spare_first = w.no_spare_first;
  no_spare_second = w.no_spare_second;
  unused_first = w.unused_first;
  unused_second = w.unused_second;
  watched = λ i lt. watched_undone vars t keep (clause_of cs i) (at fs i) (at ss i) (w.watched i lt);
}

-- what is filed under a literal is a clause, and can be visited
filed_known : (vars : ℕ) (t : List Literal) (l : Literal) (cs : List (List Literal)) (fs ss : List ℕ) → 2 ≤ code_of l → AreWatched vars t cs fs ss → (i : ℕ) → at fs i ≡ code_of l → i < length cs
filed_known vars t l cs fs ss real w i is = ⊎_elim (λ lt. lt) (λ le. let z = w.unused_first i le in absurd (omega arith)) (cases_lt i (length cs))

filed_visit : (vars : ℕ) (t : List Literal) (l : Literal) (cs : List (List Literal)) (fs ss : List ℕ) → IsTrail vars (t ++ l ∷ []) → 2 ≤ code_of (opposite l) → AreWatched vars t cs fs ss
    → (i : ℕ) → at fs i ≡ code_of (opposite l) → CanVisit (assigned_by vars (t ++ l ∷ [])) (clause_of cs i) (opposite l) (at ss i)
filed_visit vars t l cs fs ss trail real w i is =
    can_visit vars t l (clause_of cs i) (at ss i) trail real (w.no_spare_second i)
    (subst (λ x. IsWatched vars t (clause_of cs i) x (at ss i)) is (w.watched i (filed_known vars t (opposite l) cs fs ss real w i is)))

length_assigned : (vars : ℕ) (ls : List Literal) → length (assigned_by vars ls) ≡ vars + 1
length_assigned vars ls = length-assigned_from (all_free vars) ls ∙ length-replicate (vars + 1) None

pub can_pass_first : (vars : ℕ) (t : List Literal) (l : Literal) (cs : List (List Literal)) (fs ss : List ℕ) → IsTrail vars (t ++ l ∷ []) → 2 ≤ code_of (opposite l) → l.var ≤ vars → ClausesBelow (vars + 1) cs → length cs ≤ length ss → AreWatched vars t cs fs ss
    → CanPass (assigned_by vars (t ++ l ∷ [])) (opposite l) cs fs ss []
can_pass_first vars t l cs fs ss trail real literal in_range places w = record {
  in_range = subst (λ (n : ℕ). ClausesBelow n cs) (sym (length_assigned vars (t ++ l ∷ []))) in_range;
  literal = omega (arith, literal, length_assigned vars (t ++ l ∷ []));
  known = filed_known vars t (opposite l) cs fs ss real w;
  other_places = places;
  no_spare = w.no_spare_first;
  visit = filed_visit vars t l cs fs ss trail real w;
  once = λ i j d lt within. absurd (omega arith);
  not_yet = λ i is none. let z = none.1 in absurd (omega arith);
}

-- a clause is filed under the literal in one table at most
pub filed_once : (vars : ℕ) (t : List Literal) (l : Literal) (cs : List (List Literal)) (fs ss : List ℕ) → 2 ≤ code_of l → AreWatched vars t cs fs ss → (i : ℕ) → at fs i ≡ code_of l → at ss i ≢ code_of l
filed_once vars t l cs fs ss real w i is e =
    (w.watched i (filed_known vars t l cs fs ss real w i is)).one_side.apart (λ z. absurd (omega arith)) (is ∙ sym e)

module _ (vars : ℕ) (t : List Literal) (l : Literal) (cs : List (List Literal)) (fs ss fs' found : List ℕ) (trail : IsTrail vars (t ++ l ∷ [])) (real : 2 ≤ code_of (opposite l)) (w : AreWatched vars t cs fs ss)
    (first : IsPassed (assigned_by vars (t ++ l ∷ [])) (opposite l) cs ss fs fs' [] found) where
  visit_second : (i : ℕ) → at ss i ≡ code_of (opposite l) → CanVisit (assigned_by vars (t ++ l ∷ [])) (clause_of cs i) (opposite l) (at fs' i)
  visit_second i is =
      let ne : at fs i ≢ code_of (opposite l) = λ e. filed_once vars t (opposite l) cs fs ss real w i e is in
      subst (λ x. CanVisit (assigned_by vars (t ++ l ∷ [])) (clause_of cs i) (opposite l) x) (sym (first.rest i ne))
      (filed_visit vars t l cs ss fs trail real (swap_tables vars t cs fs ss w) i is)

  not_yet_second : (i : ℕ) → at ss i ≡ code_of (opposite l) → ¬ (Contains found (i + 1))
  not_yet_second i is has = ⊎_elim
      (λ (none : Contains [] (i + 1)). let z = none.1 in absurd (omega arith))
      (λ (h : (j : ℕ) × IsHitAt (assigned_by vars (t ++ l ∷ [])) (opposite l) cs fs (i + 1) j).
      let n = h.1.numbered in
      let same : h.0 ≡ i = omega arith in
      filed_once vars t (opposite l) cs fs ss real w i (ap (at fs) (sym same) ∙ h.1.watched) is)
      (All-contains (λ (n : ℕ). Contains [] n ⊎ ((j : ℕ) × IsHitAt (assigned_by vars (t ++ l ∷ [])) (opposite l) cs fs n j)) found (i + 1) first.hits has)

  pub can_pass_second : l.var ≤ vars → ClausesBelow (vars + 1) cs → length cs ≤ length fs → CanPass (assigned_by vars (t ++ l ∷ [])) (opposite l) cs ss fs' found
  can_pass_second literal in_range places = record {
    in_range = subst (λ (n : ℕ). ClausesBelow n cs) (sym (length_assigned vars (t ++ l ∷ []))) in_range;
    literal = omega (arith, literal, length_assigned vars (t ++ l ∷ []));
    known = filed_known vars t (opposite l) cs ss fs real (swap_tables vars t cs fs ss w);
    other_places = omega (arith, places, first.places);
    no_spare = w.no_spare_second;
    visit = visit_second;
    once = first.once;
    not_yet = not_yet_second;
  }

  module _ (ss' found' : List ℕ) (second : IsPassed (assigned_by vars (t ++ l ∷ [])) (opposite l) cs fs' ss ss' found found') where
    unused_after : (os new : List ℕ) → 2 ≤ code_of (opposite l) → ((i : ℕ) → length cs ≤ i → at os i ≡ 0) → ((i : ℕ) → at os i ≢ code_of (opposite l) → at new i ≡ at os i) → (i : ℕ) → length cs ≤ i → at new i ≡ 0
    unused_after os new real unused rest i le = let z = unused i le in rest i (λ e. absurd (omega arith)) ∙ z

    watched_after : (i : ℕ) → i < length cs → IsWatched vars (t ++ l ∷ []) (clause_of cs i) (at fs' i) (at ss' i)
    watched_after i lt = ⊎_elim
        (λ is_first.
        let ne = filed_once vars t (opposite l) cs fs ss real w i is_first in
        let k = still_watched vars t l (clause_of cs i) (at ss i) (at fs' i) trail real (w.no_spare_second i) (subst (λ x. IsWatched vars t (clause_of cs i) x (at ss i)) is_first (w.watched i lt)) (first.visited i is_first) in
        subst (λ x. IsWatched vars (t ++ l ∷ []) (clause_of cs i) (at fs' i) x) (sym (second.rest i ne)) k)
        (λ not_first. ⊎_elim
        (λ is_second.
        let same = first.rest i not_first in
        let old = swap_watched vars t (clause_of cs i) (at fs i) (at ss i) (w.watched i lt) in
        let here = subst (λ x. IsWatched vars t (clause_of cs i) x (at fs' i)) is_second (subst (λ x. IsWatched vars t (clause_of cs i) (at ss i) x) (sym same) old) in
        let k = still_watched vars t l (clause_of cs i) (at fs' i) (at ss' i) trail real (first.no_spare i) here (second.visited i is_second) in
        swap_watched vars (t ++ l ∷ []) (clause_of cs i) (at ss' i) (at fs' i) k)
        (λ not_second.
        subst (λ x. IsWatched vars (t ++ l ∷ []) (clause_of cs i) x (at ss' i)) (sym (first.rest i not_first))
        (subst (λ x. IsWatched vars (t ++ l ∷ []) (clause_of cs i) (at fs i) x) (sym (second.rest i not_second))
        (untouched vars t l (clause_of cs i) (at fs i) (at ss i) trail not_first not_second (w.watched i lt))))
        (cases_eq (at ss i) (code_of (opposite l))))
        (cases_eq (at fs i) (code_of (opposite l)))

    pub are_watched : AreWatched vars (t ++ l ∷ []) cs fs' ss'
    are_watched = record {
      no_spare_first = first.no_spare;
      no_spare_second = second.no_spare;
      unused_first = unused_after fs fs' real w.unused_first first.rest;
      unused_second = unused_after ss ss' real w.unused_second second.rest;
      watched = watched_after;
    }

    due_from_hit : (os others : List ℕ) (number : ℕ) → AreWatched vars t cs os others → (h : (i : ℕ) × IsHitAt (assigned_by vars (t ++ l ∷ [])) (opposite l) cs os number i) → IsDue cs (assigned_by vars (t ++ l ∷ [])) (opposite l) number
    due_from_hit os others number v h =
        let n = h.1.numbered in
        let known = filed_known vars t (opposite l) cs os others real v h.0 h.1.watched in
        let place : number - 1 ≡ h.0 = omega arith in
        record {
          clause = clause_of cs h.0;
          positive = omega arith;
          at = ap (slice_get cs) place ∙ slice_get_clause cs h.0 known;
          has = (filed_visit vars t l cs os others trail real v h.0 h.1.watched).listed;
          truth = IsFalseOrUnit-from (truth_of (assigned_by vars (t ++ l ∷ [])) (clause_of cs h.0)) h.1.is_hit;
        }

    due_from_first : (number : ℕ) → Contains [] number ⊎ ((i : ℕ) × IsHitAt (assigned_by vars (t ++ l ∷ [])) (opposite l) cs fs number i) → IsDue cs (assigned_by vars (t ++ l ∷ [])) (opposite l) number
    due_from_first number (inl none) = absurd (let z = none.1 in omega arith)
    due_from_first number (inr h) = due_from_hit fs ss number w h

    due_from_second : (number : ℕ) → Contains found number ⊎ ((i : ℕ) × IsHitAt (assigned_by vars (t ++ l ∷ [])) (opposite l) cs ss number i) → IsDue cs (assigned_by vars (t ++ l ∷ [])) (opposite l) number
    due_from_second number (inl has) =
        due_from_first number (All-contains (λ (n : ℕ). Contains [] n ⊎ ((i : ℕ) × IsHitAt (assigned_by vars (t ++ l ∷ [])) (opposite l) cs fs n i)) found number first.hits has)
    due_from_second number (inr h) = due_from_hit ss fs number (swap_tables vars t cs fs ss w) h

    pub exactly_due : AreExactlyDue cs (assigned_by vars (t ++ l ∷ [])) (opposite l) found'
    exactly_due = record {
      due = λ k d lt. due_from_second (get_or found' k d) (second.hits k d lt);
      all_due = λ number h.
          let i : ℕ = number - 1 in
          let place : i + 1 ≡ number = let p = h.positive in omega arith in
          let within = slice_get_within cs (number - 1) h.clause h.at in
          let clause : clause_of cs (number - 1) ≡ h.clause = get_or_from_slice_get cs (number - 1) h.clause [] h.at in
          let hit : is_hit (assigned_by vars (t ++ l ∷ [])) (clause_of cs (number - 1)) ≡ true =
          is_false_or_unit-from (truth_of (assigned_by vars (t ++ l ∷ [])) (clause_of cs (number - 1))) (subst (λ c. IsFalseOrUnit (truth_of (assigned_by vars (t ++ l ∷ [])) c)) (sym clause) h.truth) in
          let listed = subst (λ c. Contains c (opposite l)) (sym clause) h.has in
          ⊎_elim
          (λ is_first. second_has number (first_has i number is_first hit place))
          (λ not_first. ⊎_elim
          (λ is_second. subst (Contains found') place (second.all_hits i is_second hit))
          (λ not_second. absurd (watched_if_hit vars t l (clause_of cs (number - 1)) (at fs (number - 1)) (at ss (number - 1)) trail (w.watched (number - 1) within) listed hit not_first not_second))
          (cases_eq (at ss (number - 1)) (code_of (opposite l))))
          (cases_eq (at fs (number - 1)) (code_of (opposite l)));
      once = second.once;
    } where
      first_has : (i number : ℕ) → at fs i ≡ code_of (opposite l) → is_hit (assigned_by vars (t ++ l ∷ [])) (clause_of cs i) ≡ true → i + 1 ≡ number → Contains found number
      first_has i number is hit place = subst (Contains found) place (first.all_hits i is hit)

      second_has : (number : ℕ) → Contains found number → Contains found' number
      second_has number has = All-contains (Contains found') found number second.kept has

pub same_passed : (a a' : Assignment) (l l' : Literal) (cs : List (List Literal)) (others old new before before' found : List ℕ) → a ≡ a' → l ≡ l' → before ≡ before' → IsPassed a l cs others old new before found → IsPassed a' l' cs others old new before' found
same_passed a a' l l' cs others old new before before' found e f g p =
    subst (λ x. IsPassed a' l' cs others old new x found) g (subst (λ x. IsPassed a' x cs others old new before found) f (subst (λ x. IsPassed x l cs others old new before found) e p))

pub same_can_pass : (a a' : Assignment) (l l' : Literal) (cs : List (List Literal)) (homes others found found' : List ℕ) → a' ≡ a → l' ≡ l → found' ≡ found → CanPass a l cs homes others found → CanPass a' l' cs homes others found'
same_can_pass a a' l l' cs homes others found found' e f g p =
    subst (λ x. CanPass a' l' cs homes others x) (sym g) (subst (λ x. CanPass a' x cs homes others found) (sym f) (subst (λ x. CanPass x l cs homes others found) (sym e) p))
