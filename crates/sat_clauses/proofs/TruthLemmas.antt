-- What each answer of `truth_of` says of the literals.
use Rattle.std.proofs.Common.{◌≡◌, ◌≢◌, ◌↔◌, ◌⊎◌, inl, inr, ⊎_elim, Bool, true, false, cond, not, ◌||◌, List, [], ◌∷◌, get_or, Option, Some, None, All, Any, find, is_none, unwrap_or, refl, sym, ap, ◌∙◌}
use Rattle.std.specs.List.{list_any, list_all}
use Rattle.std.proofs.lemmas.Bool.{or_cases, or_left, or_right, not-true, cond-true, cond-false, eqb-true, eq-eqb, false_from_ne_true}
use Rattle.std.proofs.lemmas.List.Elements.{All-contains}
use Rattle.std.proofs.lemmas.List.Folds.{list_any_none, Any-from_list_any, list_any-from_Any}
use Rattle.std.proofs.lemmas.List.Sums.{AllPass-from_list_all, list_all-from_AllPass}
use Rattle.sat_clauses.specs.Literal.{Literal, plain, opposite}
use Rattle.sat_clauses.specs.Code.{code_of}
use Rattle.sat_clauses.specs.Assignment.{Assignment, all_free, value_of, is_true_in, is_free_in, made_true}
use Rattle.sat_clauses.specs.Truth.{truth_of, truth_by_first_free, is_same, IsUnit}
use Rattle.sat_clauses.specs.declared.clause.Truth.TheVariants.{True, False, Unit as UnitClause, Unknown}
use Rattle.sat_clauses.proofs.CodeLemmas.{code_of-injective}
use Rattle.sat_clauses.proofs.ListLemmas.{find_Some, All-from_find_None, find_None, All-from_list_any}

-- where 3 is false, the clause 2 or 2 or 3 is unit: 2 written twice is one literal
example : truth_of (made_true (all_free 3) (opposite (plain 3))) (plain 2 ∷ plain 2 ∷ plain 3 ∷ []) ≡ UnitClause (plain 2)
example = refl

pub value_true : (o : Option Bool) → unwrap_or o false ≡ true → o ≡ Some true
value_true None e = cc
value_true (Some b) e = ap Some e

value_false : (o : Option Bool) → unwrap_or o false ≡ false → is_none o ≡ false → o ≡ Some false
value_false None e f = cc
value_false (Some b) e f = ap Some e

None-from_is_none : (o : Option Bool) → is_none o ≡ true → o ≡ None
None-from_is_none None e = refl
None-from_is_none (Some b) e = cc

ne_True : (a : Assignment) (c : List Literal) (o : Option Literal) → truth_by_first_free a c o ≡ True → ⊥
ne_True a c None e = cc
ne_True a c (Some l) e = either (list_all (λ m. is_same m l || not (is_free_in a m)) c) e where
  either : (b : Bool) → cond b (UnitClause l) Unknown ≡ True → ⊥
  either true e = cc
  either false e = cc

any_true : (a : Assignment) (c : List Literal) (b : Bool) → cond b True (truth_by_first_free a c (find (is_free_in a) c)) ≡ True → b ≡ true
any_true a c true e = refl
any_true a c false e = absurd (ne_True a c (find (is_free_in a) c) e)

pub truth_of-True : (a : Assignment) (c : List Literal) → (truth_of a c ≡ True) ↔ Any (λ l. value_of a l ≡ Some true) c
truth_of-True a c = (to, from) where
  to : truth_of a c ≡ True → Any (λ l. value_of a l ≡ Some true) c
  to e =
      let w = Any-from_list_any (is_true_in a) c (any_true a c (list_any (is_true_in a) c) e) in
      (w.0, w.1, w.2, w.3, value_true (value_of a w.1) w.4)

  from : Any (λ l. value_of a l ≡ Some true) c → truth_of a c ≡ True
  from w = cond-true _ _ _ (list_any-from_Any (is_true_in a) c (w.0, w.1, w.2, w.3, ap (λ o. unwrap_or o false) w.4))

-- where no literal is true, the answer is that by the first free literal
by_first_free : (a : Assignment) (c : List Literal) → list_any (is_true_in a) c ≡ false → truth_of a c ≡ truth_by_first_free a c (find (is_free_in a) c)
by_first_free a c none = cond-false (list_any (is_true_in a) c) True _ none

-- an answer other than True shows that no literal is true
none_true : (a : Assignment) (c : List Literal) → truth_of a c ≢ True → list_any (is_true_in a) c ≡ false
none_true a c ne = false_from_ne_true (list_any (is_true_in a) c) (λ some. ne (cond-true _ _ _ some))

None-from_False : (a : Assignment) (c : List Literal) (o : Option Literal) → truth_by_first_free a c o ≡ False → o ≡ None
None-from_False a c None e = refl
None-from_False a c (Some l) e = absurd (either (list_all (λ m. is_same m l || not (is_free_in a m)) c) e) where
  either : (b : Bool) → cond b (UnitClause l) Unknown ≡ False → ⊥
  either true e = cc
  either false e = cc

pub truth_of-False : (a : Assignment) (c : List Literal) → (truth_of a c ≡ False) ↔ All (λ l. value_of a l ≡ Some false) c
truth_of-False a c = (to, from) where
  to : truth_of a c ≡ False → All (λ l. value_of a l ≡ Some false) c
  to e =
      let none = none_true a c (λ t. false_is_not (sym t ∙ e)) in
      let not_free = All-from_find_None (is_free_in a) c (None-from_False a c (find (is_free_in a) c) (sym (by_first_free a c none) ∙ e)) in
      let not_true = All-from_list_any (is_true_in a) c none in
      λ k d lt. value_false (value_of a (get_or c k d)) (not_true k d lt) (not_free k d lt)
    where
      false_is_not : True ≡ False → ⊥
      false_is_not e = cc

  from : All (λ l. value_of a l ≡ Some false) c → truth_of a c ≡ False
  from all =
      let not_true = list_any_none (is_true_in a) c (λ k d lt. ap (λ o. unwrap_or o false) (all k d lt)) in
      let not_free = find_None (is_free_in a) c (λ k d lt. ap is_none (all k d lt)) in
      by_first_free a c not_true ∙ ap (truth_by_first_free a c) not_free

-- the first free literal of a unit clause
Some-from_Unit : (a : Assignment) (c : List Literal) (l : Literal) (o : Option Literal) → truth_by_first_free a c o ≡ UnitClause l → (o ≡ Some l) × (list_all (λ m. is_same m l || not (is_free_in a m)) c ≡ true)
Some-from_Unit a c l None e = absurd (differs e) where
  differs : False ≡ UnitClause l → ⊥
  differs e = cc
Some-from_Unit a c l (Some first) e = either (list_all (λ m. is_same m first || not (is_free_in a m)) c) refl e where
  either : (b : Bool) → list_all (λ m. is_same m first || not (is_free_in a m)) c ≡ b → cond b (UnitClause first) Unknown ≡ UnitClause l → (Some first ≡ Some l) × (list_all (λ m. is_same m l || not (is_free_in a m)) c ≡ true)
  either true all e =
      let same : first ≡ l = cc in
      (ap Some same, ap (λ x. list_all (λ m. is_same m x || not (is_free_in a m)) c) (sym same) ∙ all)
  either false all e = absurd (differs e) where
    differs : Unknown ≡ UnitClause l → ⊥
    differs e = cc

pub truth_of-Unit : (a : Assignment) (c : List Literal) (l : Literal) → (truth_of a c ≡ UnitClause l) ↔ IsUnit a c l
truth_of-Unit a c l = (to, from) where
  to : truth_of a c ≡ UnitClause l → IsUnit a c l
  to e =
      let none = none_true a c (λ t. differs (sym t ∙ e)) in
      let first = Some-from_Unit a c l (find (is_free_in a) c) (sym (by_first_free a c none) ∙ e) in
      let found = find_Some (is_free_in a) c l first.0 in
      let not_true = All-from_list_any (is_true_in a) c none in
      let passes = AllPass-from_list_all (λ m. is_same m l || not (is_free_in a m)) c first.1 in
      record {
        free = None-from_is_none (value_of a l) found.0;
        in_clause = found.1;
        others_false = λ k d lt. other (get_or c k d) (not_true k d lt) (passes k d lt);
      }
    where
      differs : True ≡ UnitClause l → ⊥
      differs e = cc

      other : (m : Literal) → is_true_in a m ≡ false → (is_same m l || not (is_free_in a m)) ≡ true → (m ≡ l) ⊎ (value_of a m ≡ Some false)
      other m not_true passes =
          ⊎_elim (λ same. inl (code_of-injective m l (eqb-true _ _ same)))
          (λ not_free. inr (value_false (value_of a m) not_true (not-true _ not_free)))
          (or_cases (is_same m l) (not (is_free_in a m)) passes)

  from : IsUnit a c l → truth_of a c ≡ UnitClause l
  from unit = by_first_free a c not_true ∙ (first (find (is_free_in a) c) refl) where
    false_or_free : (m : Literal) → (m ≡ l) ⊎ (value_of a m ≡ Some false) → is_true_in a m ≡ false
    false_or_free m (inl same) = ap (λ x. is_true_in a x) same ∙ ap (λ o. unwrap_or o false) unit.free
    false_or_free m (inr is_false) = ap (λ o. unwrap_or o false) is_false

    not_true : list_any (is_true_in a) c ≡ false
    not_true = list_any_none (is_true_in a) c (λ k d lt. false_or_free (get_or c k d) (unit.others_false k d lt))

    passes : (m : Literal) → (m ≡ l) ⊎ (value_of a m ≡ Some false) → (is_same m l || not (is_free_in a m)) ≡ true
    passes m (inl same) = or_left _ _ (eq-eqb _ _ (ap code_of same))
    passes m (inr is_false) = or_right _ _ (ap (λ o. not (is_none o)) is_false)

    all_pass : list_all (λ m. is_same m l || not (is_free_in a m)) c ≡ true
    all_pass = list_all-from_AllPass _ c (λ k d lt. passes (get_or c k d) (unit.others_false k d lt))

    only : (m : Literal) → (m ≡ l) ⊎ (value_of a m ≡ Some false) → is_free_in a m ≡ true → m ≡ l
    only m (inl same) free = same
    only m (inr is_false) free = absurd (differs (sym (ap is_none is_false) ∙ free)) where
      differs : false ≡ true → ⊥
      differs e = cc

    first : (o : Option Literal) → find (is_free_in a) c ≡ o → truth_by_first_free a c o ≡ UnitClause l
    first None none =
        let not_free = All-contains (λ m. is_free_in a m ≡ false) c l (All-from_find_None (is_free_in a) c none) unit.in_clause in
        absurd (differs (sym not_free ∙ ap is_none unit.free))
      where
        differs : false ≡ true → ⊥
        differs e = cc
    first (Some m) some =
        let found = find_Some (is_free_in a) c m some in
        let same = only m (All-contains (λ m. (m ≡ l) ⊎ (value_of a m ≡ Some false)) c m unit.others_false found.1) found.0 in
        ap (λ x. truth_by_first_free a c (Some x)) same ∙ cond-true _ _ _ all_pass
