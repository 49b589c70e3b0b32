-- What hints derive holds in every model.
use Rattle.std.proofs.Common.{◌≡◌, ◌⊎◌, ⊎_elim, ℕ, Bool, true, false, not, List, [], ◌∷◌, ◌+◌, ◌-◌, cond, eqb, length, get_or, replicate, Option, Some, None, All, refl, sym, ap, ◌∙◌, subst, arith}
use Rattle.std.specs.Option.{option_map}
use Rattle.std.specs.Prelude.{slice_get}
use Rattle.std.proofs.lemmas.Bool.{cases_Bool, cases_eq, cases_lt, both_ways}
use Rattle.std.proofs.lemmas.Option.{none-some, same_Some}
use Rattle.std.proofs.lemmas.List.{get_or-set_same, get_or-set_other, set_past, get_or-replicate, get_or_past, length-replicate}
use Rattle.std.proofs.lemmas.List.Elements.{All-head, All-tail}
use Rattle.std.proofs.lemmas.List.Folds.{list_any_none, Any-from_list_any}
use Rattle.sat_clauses.specs.Literal.{Literal, opposite, signed}
use Rattle.sat_clauses.specs.Assignment.{Assignment, all_free, value_of, made_true}
use Rattle.sat_clauses.specs.Truth.{truth_of, IsUnit}
use Rattle.sat_clauses.specs.Models.{TotalAssignment, literal_value, clause_value, FollowsFrom}
use Rattle.sat_clauses.specs.declared.clause.Truth.{Truth}
use Rattle.sat_clauses.specs.declared.clause.Truth.TheVariants.{False, Unit as UnitClause}
use Rattle.sat_clauses.proofs.ListLemmas.{All-from_list_any}
use Rattle.sat_clauses.proofs.ModelLemmas.{All-from_Satisfies}
use Rattle.sat_clauses.proofs.TruthLemmas.{truth_of-False, truth_of-Unit}
use Rattle.sat_clauses.specs.Hints.{clause_at, truth_at, made_false, assumed_false, LeadsTo, EndsFalse}
use Rattle.sat_clauses.proofs.FalseLemmas.{All-slice_get}

module _ (v : TotalAssignment) where
  -- v makes each of the clauses true
  abbrev MakesTrue : List (List Literal) → Type 0
  MakesTrue clauses = All (λ c. clause_value v c ≡ true) clauses

  -- v gives each variable the value that a gives it
  abbrev Extends : Assignment → Type 0
  Extends a = (x : ℕ) (b : Bool) → get_or a x None ≡ Some b → v x ≡ b

  Extends-free : (n : ℕ) → Extends (replicate n None)
  Extends-free n x b e = absurd (none-some b (sym nothing ∙ e)) where
    nothing : get_or (replicate {A = Option Bool} n None) x None ≡ None
    nothing = ⊎_elim (λ inside. get_or-replicate n x None None inside) (λ outside. get_or_past (replicate n None) x None (omega (arith, length-replicate {A = Option Bool} n None))) (cases_lt x n)

  -- what a says of a literal is so under v
  literal_by : (a : Assignment) (l : Literal) (b : Bool) → Extends a → value_of a l ≡ Some b → literal_value v l ≡ b
  literal_by a l b extends e = by_place (get_or a l.var None) refl e where
    by_place : (o : Option Bool) → get_or a l.var None ≡ o → option_map (signed l.negated) o ≡ Some b → literal_value v l ≡ b
    by_place None is f = absurd (none-some b f)
    by_place (Some d) is f = ap (signed l.negated) (extends l.var d is) ∙ same_Some _ _ f

  sign_of_true : (n b : Bool) → signed n b ≡ true → b ≡ not n
  sign_of_true true true e = cc
  sign_of_true true false e = refl
  sign_of_true false true e = refl
  sign_of_true false false e = cc

  Extends-made_true : (a : Assignment) (l : Literal) → Extends a → literal_value v l ≡ true → Extends (made_true a l)
  Extends-made_true a l extends is x b e =
      ⊎_elim
      (λ same. ⊎_elim
      (λ inside. ap v same ∙ (sign_of_true l.negated (v l.var) is ∙ same_Some _ _ (sym (ap (λ y. get_or (made_true a l) y None) same ∙ get_or-set_same a l.var _ None inside) ∙ e)))
      (λ outside. extends x b (ap (λ y. get_or y x None) (sym (set_past a l.var _ outside)) ∙ e))
      (cases_lt l.var (length a)))
      (λ other. extends x b (sym (get_or-set_other a l.var x _ None other) ∙ e))
      (cases_eq x l.var)

  opposite_is_true : (n b : Bool) → signed n b ≡ false → signed (not n) b ≡ true
  opposite_is_true true true e = refl
  opposite_is_true true false e = cc
  opposite_is_true false true e = cc
  opposite_is_true false false e = refl

  Extends-made_false : (c : List Literal) (a : Assignment) → Extends a → All (λ l. literal_value v l ≡ false) c → Extends (made_false a c)
  Extends-made_false [] a extends none = extends
  Extends-made_false (l ∷ ls) a extends none =
      Extends-made_false ls (made_true a (opposite l))
      (Extends-made_true a (opposite l) extends (opposite_is_true l.negated (v l.var) (All-head (λ m. literal_value v m ≡ false) l ls none)))
      (All-tail (λ m. literal_value v m ≡ false) l ls none)

  -- a unit clause that is true under v is so by its free literal
  unit_is_true : (a : Assignment) (c : List Literal) (l : Literal) → Extends a → clause_value v c ≡ true → IsUnit a c l → literal_value v l ≡ true
  unit_is_true a c l extends is unit =
      let w = Any-from_list_any (literal_value v) c is in
      let here : (w.1 ≡ l) ⊎ (value_of a w.1 ≡ Some false) = subst (λ (m : Literal). (m ≡ l) ⊎ (value_of a m ≡ Some false)) w.3 (unit.others_false w.0 w.1 w.2) in
      ⊎_elim (λ same. ap (literal_value v) (sym same) ∙ w.4) (λ is_false. absurd (both_ways _ (literal_by a w.1 false extends is_false) w.4)) here

  false_is_false : (a : Assignment) (c : List Literal) → Extends a → truth_of a c ≡ False → clause_value v c ≡ false
  false_is_false a c extends e =
      list_any_none (literal_value v) c (λ k d lt. literal_by a (get_or c k d) false extends ((truth_of-False a c).0 e k d lt))

  -- the clause that a hint names
  hinted : (clauses : List (List Literal)) (a : Assignment) (hint : ℕ) (t : Truth) → MakesTrue clauses → truth_at clauses a hint ≡ Some t → (c : List Literal) × (clause_value v c ≡ true) × (truth_of a c ≡ t)
  hinted clauses a hint t model e = by_clause (clause_at clauses hint) refl e where
    at_number : (n : ℕ) (c : List Literal) → clause_at clauses n ≡ Some c → clause_value v c ≡ true
    at_number n c f = All-slice_get (λ d. clause_value v d ≡ true) clauses (n - 1) c (by_test (eqb n 0) f) model where
      by_test : (b : Bool) → cond b None (slice_get clauses (n - 1)) ≡ Some c → slice_get clauses (n - 1) ≡ Some c
      by_test true g = absurd (none-some c g)
      by_test false g = g

    by_clause : (o : Option (List Literal)) → clause_at clauses hint ≡ o → option_map (truth_of a) o ≡ Some t → (c : List Literal) × (clause_value v c ≡ true) × (truth_of a c ≡ t)
    by_clause None is f = absurd (none-some t f)
    by_clause (Some c) is f = (c, at_number hint c is, same_Some _ _ f)

  Extends-LeadsTo : (clauses : List (List Literal)) (hints : List ℕ) (a b : Assignment) → MakesTrue clauses → Extends a → LeadsTo clauses a hints b → Extends b
  Extends-LeadsTo clauses [] a b model extends e = subst Extends (sym e) extends
  Extends-LeadsTo clauses (hint ∷ hints) a b model extends (l, e, more) =
      let h = hinted clauses a hint (UnitClause l) model e in
      Extends-LeadsTo clauses hints (made_true a l) b model
      (Extends-made_true a l extends (unit_is_true a h.0 l extends h.1 ((truth_of-Unit a h.0 l).0 h.2))) more

  derived_is_true : (vars : ℕ) (clauses : List (List Literal)) (c : List Literal) (hints : List ℕ) → EndsFalse clauses (assumed_false vars c) hints → MakesTrue clauses → clause_value v c ≡ true
  derived_is_true vars clauses c hints w model = ⊎_elim (λ is. is) (λ is_not. absurd (contradiction is_not)) (cases_Bool (clause_value v c)) where
    contradiction : clause_value v c ≡ false → ⊥
    contradiction is_not =
        let start = Extends-made_false c (all_free vars) (Extends-free (vars + 1)) (All-from_list_any (literal_value v) c is_not) in
        let end = Extends-LeadsTo clauses w.units (assumed_false vars c) w.at_last model start w.all_unit in
        let h = hinted clauses w.at_last w.last False model w.is_false in
        both_ways _ (false_is_false w.at_last h.0 end h.2) h.1

-- a clause that follows by hints is true in every model
pub FollowsFrom-EndsFalse : (vars : ℕ) (clauses : List (List Literal)) (c : List Literal) (hints : List ℕ) → EndsFalse clauses (assumed_false vars c) hints → FollowsFrom clauses c
FollowsFrom-EndsFalse vars clauses c hints w = λ v model. derived_is_true v vars clauses c hints w (All-from_Satisfies v clauses model)
