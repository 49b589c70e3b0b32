-- The computed fault is None, BadHint or NoConflict exactly as the relations on hints say.
use Rattle.std.proofs.Common.{◌≡◌, ◌↔◌, ◌⊎◌, inl, inr, ⊎_elim, ℕ, ◌+◌, List, [], ◌∷◌, ◌++◌, length, Option, Some, None, Result, Ok, Err, IsOk, OnOk, refl, sym, ap, ◌∙◌, subst, append_assoc, append-nil, length-append, arith}
use Rattle.std.specs.Result.{result_err}
use Rattle.std.proofs.lemmas.Option.{none-some, same_Some}
use Rattle.sat_clauses.specs.Literal.{Literal}
use Rattle.sat_clauses.specs.Assignment.{Assignment, made_true}
use Rattle.sat_clauses.specs.declared.clause.Truth.{Truth}
use Rattle.sat_clauses.specs.declared.clause.Truth.TheVariants.{True, False, Unit as UnitClause, Unknown}
use Rattle.sat_clauses.specs.Hints.{truth_at, LeadsTo, EndsFalse, EndsOpen, FailsAt, IsUseless}
use Rattle.sat_clauses.specs.Fault.{fault_of, fault_by, fault_after_false}
use Rattle.sat_clauses.specs.declared.step.StepFault.{StepFault}
use Rattle.sat_clauses.specs.declared.step.StepFault.TheVariants.{BadHint, NoConflict}

module _ (clauses : List (List Literal)) where
  -- a hint is of one of three kinds
  kinds : (t : Option Truth) → (t ≡ Some False) ⊎ (((l : Literal) × (t ≡ Some (UnitClause l))) ⊎ IsUseless t)
  kinds None = inr (inr ((λ e. none-some False e), (λ l e. none-some (UnitClause l) e)))
  kinds (Some False) = inl refl
  kinds (Some (UnitClause l)) = inr (inl (l, refl))
  kinds (Some True) = inr (inr ((λ e. cc), (λ l e. cc)))
  kinds (Some Unknown) = inr (inr ((λ e. cc), (λ l e. cc)))

  at_unit : (a : Assignment) (i hint : ℕ) (hints : List ℕ) (l : Literal) → truth_at clauses a hint ≡ Some (UnitClause l) → fault_of clauses a i (hint ∷ hints) ≡ fault_of clauses (made_true a l) (i + 1) hints
  at_unit a i hint hints l e = ap (λ t. fault_by t i hints (λ m. fault_of clauses (made_true a m) (i + 1) hints)) e

  at_false : (a : Assignment) (i hint : ℕ) (hints : List ℕ) → truth_at clauses a hint ≡ Some False → fault_of clauses a i (hint ∷ hints) ≡ fault_after_false i hints
  at_false a i hint hints e = ap (λ t. fault_by t i hints (λ m. fault_of clauses (made_true a m) (i + 1) hints)) e

  by_useless : (t : Option Truth) (i : ℕ) (hints : List ℕ) (go : Literal → Option StepFault) → IsUseless t → fault_by t i hints go ≡ Some (BadHint i)
  by_useless None i hints go u = refl
  by_useless (Some False) i hints go u = absurd (u.0 refl)
  by_useless (Some (UnitClause l)) i hints go u = absurd (u.1 l refl)
  by_useless (Some True) i hints go u = refl
  by_useless (Some Unknown) i hints go u = refl

  -- hints that are all unit only move on
  at_units : (before rest : List ℕ) (a b : Assignment) (i : ℕ) → LeadsTo clauses a before b → fault_of clauses a i (before ++ rest) ≡ fault_of clauses b (i + length before) rest
  at_units [] rest a b i e = ap (λ x. fault_of clauses x i rest) (sym e) ∙ ap (λ n. fault_of clauses b n rest) (omega arith)
  at_units (hint ∷ hints) rest a b i (l, e, more) =
      at_unit a i hint (hints ++ rest) l e ∙ (at_units hints rest (made_true a l) b (i + 1) more ∙ ap (λ n. fault_of clauses b n rest) (omega arith))

  none-from_false : (a : Assignment) (i : ℕ) (hints : List ℕ) → EndsFalse clauses a hints → fault_of clauses a i hints ≡ None
  none-from_false a i hints w =
      ap (fault_of clauses a i) w.in_turn ∙ (at_units w.units (w.last ∷ []) a w.at_last i w.all_unit ∙ at_false w.at_last _ w.last [] w.is_false)

  open-from_open : (a : Assignment) (i : ℕ) (hints : List ℕ) → EndsOpen clauses a hints → fault_of clauses a i hints ≡ Some NoConflict
  open-from_open a i hints (b, leads) =
      ap (fault_of clauses a i) (sym (append-nil hints)) ∙ at_units hints [] a b i leads

  bad-from_fails : (a : Assignment) (hints : List ℕ) (number : ℕ) → FailsAt clauses a hints number → fault_of clauses a 1 hints ≡ Some (BadHint number)
  bad-from_fails a hints number w = ap (fault_of clauses a 1) w.in_turn ∙ (by_cause w.cause ∙ ap (λ n. Some (BadHint n)) (sym w.place)) where
    by_cause : ((b : Assignment) × LeadsTo clauses a w.before b × IsUseless (truth_at clauses b w.hint)) ⊎ EndsFalse clauses a w.before → fault_of clauses a 1 (w.before ++ w.hint ∷ w.after) ≡ Some (BadHint (length w.before + 1))
    by_cause (inl (b, leads, useless)) =
        at_units w.before (w.hint ∷ w.after) a b 1 leads ∙ (by_useless (truth_at clauses b w.hint) (1 + length w.before) w.after _ useless ∙ ap (λ n. Some (BadHint n)) (omega arith))
    by_cause (inr ends) =
        ap (λ xs. fault_of clauses a 1 (xs ++ w.hint ∷ w.after)) ends.in_turn
        ∙ (ap (fault_of clauses a 1) (append_assoc ends.units (ends.last ∷ []) (w.hint ∷ w.after))
        ∙ (at_units ends.units (ends.last ∷ w.hint ∷ w.after) a ends.at_last 1 ends.all_unit
        ∙ (at_false ends.at_last (1 + length ends.units) ends.last (w.hint ∷ w.after) ends.is_false
        ∙ ap (λ n. Some (BadHint n)) (omega (arith, ap length ends.in_turn, length-append ends.units (ends.last ∷ []))))))

  false_later : (a : Assignment) (hint : ℕ) (hints : List ℕ) (l : Literal) → truth_at clauses a hint ≡ Some (UnitClause l) → EndsFalse clauses (made_true a l) hints → EndsFalse clauses a (hint ∷ hints)
  false_later a hint hints l e w = record {
    units = hint ∷ w.units;
    last = w.last;
    at_last = w.at_last;
    in_turn = ap (λ xs. hint ∷ xs) w.in_turn;
    all_unit = (l, e, w.all_unit);
    is_false = w.is_false;
  }

  -- hints end in one of three ways
  ways : (hints : List ℕ) (a : Assignment) → EndsFalse clauses a hints ⊎ (((n : ℕ) × FailsAt clauses a hints n) ⊎ EndsOpen clauses a hints)
  ways [] a = inr (inr (a, refl))
  ways (hint ∷ hints) a = by_kind (λ l. ways hints (made_true a l)) (kinds (truth_at clauses a hint)) where
    only : (h : ℕ) → truth_at clauses a h ≡ Some False → EndsFalse clauses a (h ∷ [])
    only h e = record { units = []; last = h; at_last = a; in_turn = refl; all_unit = refl; is_false = e }

    at_end : (xs : List ℕ) → truth_at clauses a hint ≡ Some False → EndsFalse clauses a (hint ∷ xs) ⊎ (((n : ℕ) × FailsAt clauses a (hint ∷ xs) n) ⊎ EndsOpen clauses a (hint ∷ xs))
    at_end [] e = inl (only hint e)
    at_end (x ∷ xs) e = inr (inl (2, record { before = hint ∷ []; hint = x; after = xs; in_turn = refl; place = refl; cause = inr (only hint e) }))

    later : (l : Literal) → truth_at clauses a hint ≡ Some (UnitClause l) → EndsFalse clauses (made_true a l) hints ⊎ (((n : ℕ) × FailsAt clauses (made_true a l) hints n) ⊎ EndsOpen clauses (made_true a l) hints) → EndsFalse clauses a (hint ∷ hints) ⊎ (((n : ℕ) × FailsAt clauses a (hint ∷ hints) n) ⊎ EndsOpen clauses a (hint ∷ hints))
    later l e (inl w) = inl (false_later a hint hints l e w)
    later l e (inr (inl (n, w))) = inr (inl (
      n + 1,
      record {
        before = hint ∷ w.before;
        hint = w.hint;
        after = w.after;
        in_turn = ap (λ xs. hint ∷ xs) w.in_turn;
        place = ap (λ m. m + 1) w.place ∙ omega arith;
        cause = ⊎_elim (λ u. inl (u.0, (l, e, u.1), u.2)) (λ f. inr (false_later a hint w.before l e f)) w.cause;
      },
    ))
    later l e (inr (inr (b, leads))) = inr (inr (b, (l, e, leads)))

    by_kind : ((l : Literal) → EndsFalse clauses (made_true a l) hints ⊎ (((n : ℕ) × FailsAt clauses (made_true a l) hints n) ⊎ EndsOpen clauses (made_true a l) hints)) → (truth_at clauses a hint ≡ Some False) ⊎ (((l : Literal) × (truth_at clauses a hint ≡ Some (UnitClause l))) ⊎ IsUseless (truth_at clauses a hint)) → EndsFalse clauses a (hint ∷ hints) ⊎ (((n : ℕ) × FailsAt clauses a (hint ∷ hints) n) ⊎ EndsOpen clauses a (hint ∷ hints))
    by_kind rest (inl e) = at_end hints e
    by_kind rest (inr (inl (l, e))) = later l e (rest l)
    by_kind rest (inr (inr u)) = inr (inl (1, record { before = []; hint = hint; after = hints; in_turn = refl; place = refl; cause = inl (a, refl, u) }))

  pub fault-None : (a : Assignment) (hints : List ℕ) → (fault_of clauses a 1 hints ≡ None) ↔ EndsFalse clauses a hints
  fault-None a hints = ((λ e. to e (ways hints a)), none-from_false a 1 hints) where
    to : fault_of clauses a 1 hints ≡ None → EndsFalse clauses a hints ⊎ (((n : ℕ) × FailsAt clauses a hints n) ⊎ EndsOpen clauses a hints) → EndsFalse clauses a hints
    to e (inl w) = w
    to e (inr (inl (n, w))) = absurd (none-some (BadHint n) (sym e ∙ bad-from_fails a hints n w))
    to e (inr (inr w)) = absurd (none-some NoConflict (sym e ∙ open-from_open a 1 hints w))

  pub fault-BadHint : (a : Assignment) (hints : List ℕ) (i : ℕ) → (fault_of clauses a 1 hints ≡ Some (BadHint i)) ↔ FailsAt clauses a hints i
  fault-BadHint a hints i = ((λ e. to e (ways hints a)), bad-from_fails a hints i) where
    number : (n m : ℕ) → BadHint n ≡ BadHint m → n ≡ m
    number n m e = cc

    differs : (n : ℕ) → NoConflict ≡ BadHint n → ⊥
    differs n e = cc

    to : fault_of clauses a 1 hints ≡ Some (BadHint i) → EndsFalse clauses a hints ⊎ (((n : ℕ) × FailsAt clauses a hints n) ⊎ EndsOpen clauses a hints) → FailsAt clauses a hints i
    to e (inl w) = absurd (none-some (BadHint i) (sym (none-from_false a 1 hints w) ∙ e))
    to e (inr (inl (n, w))) = subst (FailsAt clauses a hints) (number n i (same_Some _ _ (sym (bad-from_fails a hints n w) ∙ e))) w
    to e (inr (inr w)) = absurd (differs i (same_Some _ _ (sym (open-from_open a 1 hints w) ∙ e)))

  pub fault-NoConflict : (a : Assignment) (hints : List ℕ) → (fault_of clauses a 1 hints ≡ Some NoConflict) ↔ EndsOpen clauses a hints
  fault-NoConflict a hints = ((λ e. to e (ways hints a)), open-from_open a 1 hints) where
    differs : (n : ℕ) → BadHint n ≡ NoConflict → ⊥
    differs n e = cc

    to : fault_of clauses a 1 hints ≡ Some NoConflict → EndsFalse clauses a hints ⊎ (((n : ℕ) × FailsAt clauses a hints n) ⊎ EndsOpen clauses a hints) → EndsOpen clauses a hints
    to e (inl w) = absurd (none-some NoConflict (sym (none-from_false a 1 hints w) ∙ e))
    to e (inr (inl (n, w))) = absurd (differs n (same_Some _ _ (sym (bad-from_fails a hints n w) ∙ e)))
    to e (inr (inr w)) = w

-- a result by its fault
pub IsOk-by_fault : {U : Type 0} (r : Result U StepFault) → IsOk r ↔ (result_err r ≡ None)
IsOk-by_fault (Ok x) = ((λ e. refl), (λ e. refl))
IsOk-by_fault (Err f) = ((λ e. cc), (λ e. absurd (none-some f (sym e))))

pub Err-by_fault : {U : Type 0} (r : Result U StepFault) (f : StepFault) → (r ≡ Err f) ↔ (result_err r ≡ Some f)
Err-by_fault r f = (ap result_err, back r) where
  back : {U : Type 0} (s : Result U StepFault) → result_err s ≡ Some f → s ≡ Err f
  back (Ok x) e = absurd (none-some f e)
  back (Err g) e = ap Err (same_Some g f e)

-- what the relations say of a result that has the computed fault
module _ {U : Type 0} (clauses : List (List Literal)) (a : Assignment) (hints : List ℕ) (r : Result U StepFault) (e : result_err r ≡ fault_of clauses a 1 hints) where
  pub accepted-by_fault : IsOk r ↔ EndsFalse clauses a hints
  accepted-by_fault =
      ((λ ok. (fault-None clauses a hints).0 (sym e ∙ (IsOk-by_fault r).0 ok)), (λ w. (IsOk-by_fault r).1 (e ∙ (fault-None clauses a hints).1 w)))

  pub bad_hint-by_fault : (i : ℕ) → (r ≡ Err (BadHint i)) ↔ FailsAt clauses a hints i
  bad_hint-by_fault i =
      ((λ bad. (fault-BadHint clauses a hints i).0 (sym e ∙ (Err-by_fault r (BadHint i)).0 bad)), (λ w. (Err-by_fault r (BadHint i)).1 (e ∙ (fault-BadHint clauses a hints i).1 w)))

  pub no_conflict-by_fault : (r ≡ Err NoConflict) ↔ EndsOpen clauses a hints
  no_conflict-by_fault =
      ((λ open'. (fault-NoConflict clauses a hints).0 (sym e ∙ (Err-by_fault r NoConflict).0 open')), (λ w. (Err-by_fault r NoConflict).1 (e ∙ (fault-NoConflict clauses a hints).1 w)))

pub OnOk-from : {T E P : Type 0} (r : Result T E) → P → OnOk r P
OnOk-from (Ok x) p = p
OnOk-from (Err e) p = tt
