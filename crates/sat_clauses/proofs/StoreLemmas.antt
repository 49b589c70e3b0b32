-- The computed list of clauses that are false or unit has exactly these.
use Rattle.std.proofs.Common.{zero, suc, ◌≡◌, ◌≢◌, inl, inr, ⊎_elim, ℕ, ◌+◌, ◌-◌, ◌<◌, ◌≤◌, Bool, true, false, cond, List, [], ◌∷◌, ◌++◌, get_or, All, AllPairs, Contains, Some, refl, sym, ap, ◌∙◌, subst, arith, append_assoc}
use Rattle.std.specs.Prelude.{slice_get}
use Rattle.std.specs.List.{list_any}
use Rattle.std.proofs.lemmas.Bool.{cases_eq, or_cases, cond-true, and_parts, and_from, eqb-true, eq-eqb}
use Rattle.std.proofs.lemmas.Option.{none-some, same_Some}
use Rattle.std.proofs.lemmas.List.Elements.{All-nil, All-cons}
use Rattle.std.proofs.lemmas.List.Folds.{list_any-from_Any}
use Rattle.sat_clauses.specs.Literal.{Literal}
use Rattle.sat_clauses.specs.Code.{code_of}
use Rattle.sat_clauses.specs.Assignment.{Assignment}
use Rattle.sat_clauses.specs.Truth.{truth_of, is_same}
use Rattle.sat_clauses.specs.Store.{IsFalseOrUnit, AreExactlyDue, is_false_or_unit, is_due, due_from}
use Rattle.sat_clauses.specs.declared.clause.Truth.{Truth}
use Rattle.sat_clauses.specs.declared.clause.Truth.TheVariants.{True, False, Unit as UnitClause, Unknown}
use Rattle.sat_clauses.proofs.CodeLemmas.{code_of-injective}
use Rattle.sat_clauses.proofs.ListLemmas.{Contains-cons}

-- one step of the look at all clauses
pub due_step : (a : Assignment) (l : Literal) (number : ℕ) (c : List Literal) (cs : List (List Literal)) (found : List ℕ) → cond (is_due a l c) (found ++ number ∷ []) found ++ due_from a l (number + 1) cs ≡ found ++ due_from a l number (c ∷ cs)
due_step a l number c cs found = by_test (is_due a l c) where
  by_test : (b : Bool) → cond b (found ++ number ∷ []) found ++ due_from a l (number + 1) cs ≡ found ++ cond b (number ∷ due_from a l (number + 1) cs) (due_from a l (number + 1) cs)
  by_test true = append_assoc found (number ∷ []) (due_from a l (number + 1) cs)
  by_test false = refl

pub IsFalseOrUnit-from : (t : Truth) → is_false_or_unit t ≡ true → IsFalseOrUnit t
IsFalseOrUnit-from True e = cc
IsFalseOrUnit-from False e = inl refl
IsFalseOrUnit-from (UnitClause m) e = inr (m, refl)
IsFalseOrUnit-from Unknown e = cc

pub is_false_or_unit-from : (t : Truth) → IsFalseOrUnit t → is_false_or_unit t ≡ true
is_false_or_unit-from t (inl e) = ap is_false_or_unit e
is_false_or_unit-from t (inr h) = ap is_false_or_unit h.1

pub Contains-from_any : (l : Literal) (c : List Literal) → list_any (is_same l) c ≡ true → Contains c l
Contains-from_any l [] e = cc
Contains-from_any l (m ∷ c) e = ⊎_elim
    (λ same. (0, omega arith, sym (code_of-injective l m (eqb-true _ _ same))))
    (λ later. Contains-cons m c l (Contains-from_any l c later))
    (or_cases (is_same l m) (list_any (is_same l) c) e)

pub any-from_Contains : (l : Literal) (c : List Literal) → Contains c l → list_any (is_same l) c ≡ true
any-from_Contains l c has =
    list_any-from_Any (is_same l) c (has.0, l, has.1, has.2, eq-eqb (code_of l) (code_of l) refl)

-- as IsDue, where the first clause has this number
record DueFrom (from : ℕ) (clauses : List (List Literal)) (a : Assignment) (l : Literal) (number : ℕ) : Type 0 where
  least : from ≤ number
  clause : List Literal
  at : slice_get clauses (number - from) ≡ Some clause
  has : Contains clause l
  truth : IsFalseOrUnit (truth_of a clause)

later : (from : ℕ) (c : List Literal) (cs : List (List Literal)) (a : Assignment) (l : Literal) (number : ℕ) → DueFrom (from + 1) cs a l number → DueFrom from (c ∷ cs) a l number
later from c cs a l number d = record {
  least = omega (arith, d.least);
  clause = d.clause;
  at = let e : number - from ≡ suc (number - (from + 1)) = omega (arith, d.least) in ap (slice_get (c ∷ cs)) e ∙ d.at;
  has = d.has;
  truth = d.truth;
}

All_later : (from : ℕ) (c : List Literal) (cs : List (List Literal)) (a : Assignment) (l : Literal) (ns : List ℕ) → All (DueFrom (from + 1) cs a l) ns → All (DueFrom from (c ∷ cs) a l) ns
All_later from c cs a l ns all = λ k d lt. later from c cs a l (get_or ns k d) (all k d lt)

all_due_from : (from : ℕ) (cs : List (List Literal)) (a : Assignment) (l : Literal) → All (DueFrom from cs a l) (due_from a l from cs)
all_due_from from [] a l = All-nil (DueFrom from [] a l)
all_due_from from (c ∷ cs) a l = by_test (is_due a l c) refl (all_due_from (from + 1) cs a l) where
  by_test : (b : Bool) → is_due a l c ≡ b → All (DueFrom (from + 1) cs a l) (due_from a l (from + 1) cs) → All (DueFrom from (c ∷ cs) a l) (cond b (from ∷ due_from a l (from + 1) cs) (due_from a l (from + 1) cs))
  by_test true e rest =
      let parts = and_parts _ _ e in
      All-cons (DueFrom from (c ∷ cs) a l) from (due_from a l (from + 1) cs)
      (record { least = omega arith; clause = c; at = let e : from - from ≡ zero = omega arith in ap (slice_get (c ∷ cs)) e; has = Contains-from_any l c parts.0; truth = IsFalseOrUnit-from (truth_of a c) parts.1 })
      (All_later from c cs a l (due_from a l (from + 1) cs) rest)
  by_test false e rest = All_later from c cs a l (due_from a l (from + 1) cs) rest

found_from : (from : ℕ) (cs : List (List Literal)) (a : Assignment) (l : Literal) (number : ℕ) → DueFrom from cs a l number → Contains (due_from a l from cs) number
found_from from [] a l number d = absurd (none-some d.clause d.at)
found_from from (c ∷ cs) a l number d = ⊎_elim here (λ other. there other (λ e. found_from (from + 1) cs a l number e)) (cases_eq number from) where
  in_either : (b : Bool) → Contains (due_from a l (from + 1) cs) number → Contains (cond b (from ∷ due_from a l (from + 1) cs) (due_from a l (from + 1) cs)) number
  in_either true has = Contains-cons from (due_from a l (from + 1) cs) number has
  in_either false has = has

  here : number ≡ from → Contains (due_from a l from (c ∷ cs)) number
  here e =
      let zeroth : number - from ≡ zero = omega (arith, e) in
      let first : c ≡ d.clause = same_Some c d.clause (sym (ap (slice_get (c ∷ cs)) zeroth) ∙ d.at) in
      let passes : is_due a l c ≡ true = and_from _ _ (any-from_Contains l c (subst (λ x. Contains x l) (sym first) d.has)) (is_false_or_unit-from (truth_of a c) (subst (λ x. IsFalseOrUnit (truth_of a x)) (sym first) d.truth)) in
      subst (λ x. Contains x number) (sym (cond-true _ _ _ passes)) (0, omega arith, sym e)

  there : number ≢ from → (DueFrom (from + 1) cs a l number → Contains (due_from a l (from + 1) cs) number) → Contains (due_from a l from (c ∷ cs)) number
  there other rest =
      in_either (is_due a l c) (rest (record {
        least = omega (arith, d.least);
        clause = d.clause;
        at = ap (slice_get (c ∷ cs)) (let e : suc (number - (from + 1)) ≡ number - from = omega (arith, d.least) in e) ∙ d.at;
        has = d.has;
        truth = d.truth;
      }))

-- a number that is less than each of these comes before them
apart_cons : (x : ℕ) (xs : List ℕ) → All (λ y. x < y) xs → AllPairs (λ x y. x ≢ y) xs → AllPairs (λ x y. x ≢ y) (x ∷ xs)
apart_cons x xs less apart zero zero d lt within e = absurd (omega arith)
apart_cons x xs less apart zero (suc j) d lt within e = let h : x < get_or xs j d = less j d (omega arith) in omega arith
apart_cons x xs less apart (suc i) zero d lt within e = absurd (omega arith)
apart_cons x xs less apart (suc i) (suc j) d lt within e = apart i j d (omega arith) (omega arith) e

distinct_from : (from : ℕ) (cs : List (List Literal)) (a : Assignment) (l : Literal) → AllPairs (λ x y. x ≢ y) (due_from a l from cs)
distinct_from from [] a l = λ i j d lt within. absurd (omega arith)
distinct_from from (c ∷ cs) a l = by_test (is_due a l c) (all_due_from (from + 1) cs a l) (distinct_from (from + 1) cs a l) where
  by_test : (b : Bool) → All (DueFrom (from + 1) cs a l) (due_from a l (from + 1) cs) → AllPairs (λ x y. x ≢ y) (due_from a l (from + 1) cs) → AllPairs (λ x y. x ≢ y) (cond b (from ∷ due_from a l (from + 1) cs) (due_from a l (from + 1) cs))
  by_test true all rest = apart_cons from (due_from a l (from + 1) cs) (λ k d lt. omega (arith, (all k d lt).least)) rest
  by_test false all rest = rest

pub due_exactly : (cs : List (List Literal)) (a : Assignment) (l : Literal) → AreExactlyDue cs a l (due_from a l 1 cs)
due_exactly cs a l = record {
  due = λ k d lt.
      let h = all_due_from 1 cs a l k d lt in
      record { clause = h.clause; positive = h.least; at = h.at; has = h.has; truth = h.truth };
  all_due = λ number h. found_from 1 cs a l number (record { least = h.positive; clause = h.clause; at = h.at; has = h.has; truth = h.truth });
  once = distinct_from 1 cs a l;
}
