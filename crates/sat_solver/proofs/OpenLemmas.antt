-- How far an analysis has come, and that each entry takes it further.
use Rattle.std.proofs.Common.{◌≡◌, ◌≢◌, ◌⊎◌, inl, inr, ⊎_elim, ℕ, ◌-◌, ◌<◌, eqb, Bool, true, false, not, cond, List, [], ◌∷◌, ◌++◌, length, get_or, set, replicate, reverse, Option, Some, None, All, Contains, refl, sym, ap, ◌∙◌, subst, arith}
use Rattle.std.specs.Prelude.{slice_get}
use Rattle.std.specs.Option.{option_map}
use Rattle.std.proofs.lemmas.Bool.{cases_eq, both_ways}
use Rattle.std.proofs.lemmas.Option.{none-some, same_Some, get_or_from_slice_get}
use Rattle.std.proofs.lemmas.List.{get_or_default, length-set, length-replicate, get_or-set_same, get_or-set_other, reverse-append}
use Rattle.std.proofs.lemmas.List.Elements.{All-nil, All-push, All-contains, Contains-append_left, Contains-push}
use Rattle.sat_clauses.specs.Literal.{Literal, opposite, signed}
use Rattle.sat_clauses.specs.Assignment.{Assignment, value_of, made_true}
use Rattle.sat_clauses.specs.Truth.{truth_of, IsUnit}
use Rattle.sat_clauses.specs.declared.clause.Truth.{Truth}
use Rattle.sat_clauses.specs.declared.clause.Truth.TheVariants.{False, Unit as UnitClause}
use Rattle.sat_clauses.proofs.TruthLemmas.{truth_of-False, truth_of-Unit}
use Rattle.sat_clauses.specs.Hints.{clause_at, truth_at, EndsFalse}
use Rattle.sat_clauses.proofs.FalseLemmas.{All-slice_get}
use Rattle.sat_solver.specs.declared.trail.TrailEntry.{TrailEntry}
use Rattle.sat_solver.specs.Trail.{assigned, IsFresh}
use Rattle.sat_solver.specs.AnalysisRecord.{AnalysisValue}
use Rattle.sat_solver.specs.Analysis.{marked, numbered, begun}
use Rattle.sat_solver.proofs.TrailLemmas.{length-assigned}
use Rattle.sat_solver.proofs.AnalysisLemmas.{length-marked, length-begun}
use Rattle.sat_solver.proofs.ExplainLemmas.{IsPart, Agrees, value_at, value_part, made_true_here, made_true_else, false_here, IsPart-more, marked_keeps, marked_has, marked_cases}
use Rattle.sat_clauses.proofs.DeriveTrailLemmas.{None-from_value}

-- es are left; a is their assignment and that of the negated literals of the clause so far
pub record IsOpen (cs : List (List Literal)) (n : ℕ) (s : AnalysisValue) (es : List TrailEntry) (a : Assignment) : Type 0 where
  pub places : length a ≡ n
  pub flags : length s.marks ≡ n
  pub part : IsPart (assigned n es) a
  pub explains : (b : Assignment) → Agrees s.marks a b → EndsFalse cs b (reverse s.used)
  pub are_false : All (λ m. value_of a m ≡ Some false) s.lits
  pub apart : All (λ m. value_of (assigned n es) m ≡ None) s.lits
  pub covered : (x : ℕ) (v : Bool) → get_or s.marks x false ≡ true → get_or a x None ≡ Some v → (get_or (assigned n es) x None ≡ Some v) ⊎ ((m : Literal) × Contains s.lits m × (m.var ≡ x))

pub None_part : (a b : Assignment) (l : Literal) → IsPart a b → value_of b l ≡ None → value_of a l ≡ None
None_part a b l part e = by_value (value_of a l) refl where
  by_value : (o : Option Bool) → value_of a l ≡ o → o ≡ None
  by_value None is = refl
  by_value (Some d) is = absurd (none-some d (sym e ∙ value_part a b l d part is))

-- the clause of a hint that has a truth
pub hinted : (cs : List (List Literal)) (a : Assignment) (r : ℕ) (t : Truth) → truth_at cs a r ≡ Some t → (clause_at cs r ≡ Some (numbered cs r)) × (truth_of a (numbered cs r) ≡ t)
hinted cs a r t e = by_clause (clause_at cs r) refl e where
  by_test : (c : List Literal) (b : Bool) → cond b None (slice_get cs (r - 1)) ≡ Some c → slice_get cs (r - 1) ≡ Some c
  by_test c true g = absurd (none-some c g)
  by_test c false g = g

  by_clause : (o : Option (List Literal)) → clause_at cs r ≡ o → option_map (truth_of a) o ≡ Some t → (clause_at cs r ≡ Some (numbered cs r)) × (truth_of a (numbered cs r) ≡ t)
  by_clause None is f = absurd (none-some t f)
  by_clause (Some c) is f =
      let same : numbered cs r ≡ c = get_or_from_slice_get cs (r - 1) c [] (by_test c (eqb r 0) is) in
      (is ∙ ap Some (sym same), ap (truth_of a) same ∙ same_Some _ _ f)

pub numbered_all : (P : List Literal → Type 0) (cs : List (List Literal)) (r : ℕ) → clause_at cs r ≡ Some (numbered cs r) → All P cs → P (numbered cs r)
numbered_all P cs r e all = All-slice_get P cs (r - 1) (numbered cs r) (by_test (eqb r 0) e) all where
  by_test : (b : Bool) → cond b None (slice_get cs (r - 1)) ≡ Some (numbered cs r) → slice_get cs (r - 1) ≡ Some (numbered cs r)
  by_test true g = absurd (none-some (numbered cs r) g)
  by_test false g = g

pub truth_at_here : (cs : List (List Literal)) (b : Assignment) (r : ℕ) → clause_at cs r ≡ Some (numbered cs r) → truth_at cs b r ≡ Some (truth_of b (numbered cs r))
truth_at_here cs b r e = ap (option_map (truth_of b)) e

false_later : (cs : List (List Literal)) (a : Assignment) (hint : ℕ) (hints : List ℕ) (l : Literal) → truth_at cs a hint ≡ Some (UnitClause l) → EndsFalse cs (made_true a l) hints → EndsFalse cs a (hint ∷ hints)
false_later cs a hint hints l e w = record {
  units = hint ∷ w.units;
  last = w.last;
  at_last = w.at_last;
  in_turn = ap (λ xs. hint ∷ xs) w.in_turn;
  all_unit = (l, e, w.all_unit);
  is_false = w.is_false;
}

-- a false clause begins an analysis
pub open_begun : (cs : List (List Literal)) (n conflict : ℕ) (es : List TrailEntry) → All (All (λ l. l.var < n)) cs → truth_at cs (assigned n es) conflict ≡ Some False → IsOpen cs n (begun n cs conflict) es (assigned n es)
open_begun cs n conflict es in_range e =
    let a = assigned n es in
    let c = numbered cs conflict in
    let h = hinted cs a conflict False e in
    let all_false = (truth_of-False a c).0 h.1 in
    record {
      places = length-assigned n es;
      flags = length-begun n cs conflict;
      part = λ x v g. g;
      explains = λ b agrees.
          let false_in : All (λ l. value_of b l ≡ Some false) c =
          λ k d lt.
          let l = get_or c k d in
          let w = value_at a l false (all_false k d lt) in
          let range = numbered_all (All (λ (m : Literal). m.var < n)) cs conflict h.0 in_range k d lt in
          let has : Contains c l = (k, lt, get_or_default c k l d lt) in
          let mark = marked_has c (replicate n false) l has (omega (arith, length-replicate n false)) in
          ap (option_map (signed l.negated)) (agrees.has_marked l.var w.0 mark w.1) ∙ ap Some w.2 in
          record {
            units = [];
            last = conflict;
            at_last = b;
            in_turn = refl;
            all_unit = refl;
            is_false = truth_at_here cs b conflict h.0 ∙ ap Some ((truth_of-False b c).1 false_in);
          };
      are_false = All-nil (λ m. value_of a m ≡ Some false);
      apart = All-nil (λ m. value_of a m ≡ None);
      covered = λ x v mark g. inl g;
    }

-- how far to go back changes nothing of this
pub open_aim : (cs : List (List Literal)) (n : ℕ) (s : AnalysisValue) (es : List TrailEntry) (a : Assignment) (t : ℕ) → IsOpen cs n s es a → IsOpen cs n (record s { target = t }) es a
open_aim cs n s es a t o = record {
  places = o.places;
  flags = o.flags;
  part = o.part;
  explains = o.explains;
  are_false = o.are_false;
  apart = o.apart;
  covered = o.covered;
}

module _ (cs : List (List Literal)) (n : ℕ) (s : AnalysisValue) (e : TrailEntry) (es : List TrailEntry) (a : Assignment) (fresh : IsFresh n (e ∷ es)) (o : IsOpen cs n s (e ∷ es) a) where
  inside : e.lit.var < length (assigned n es)
  inside = omega (arith, fresh.1, length-assigned n es)

  free_here : get_or (assigned n es) e.lit.var None ≡ None
  free_here = None-from_value e.lit.negated (get_or (assigned n es) e.lit.var None) fresh.2

  less : IsPart (assigned n es) (assigned n (e ∷ es))
  less = IsPart-more (assigned n es) e.lit fresh.2

  apart_less : All (λ m. value_of (assigned n es) m ≡ None) s.lits
  apart_less = λ k d lt. None_part (assigned n es) (assigned n (e ∷ es)) (get_or s.lits k d) less (o.apart k d lt)

  -- an entry that is not marked
  pub open_skip : get_or s.marks e.lit.var false ≡ false → IsOpen cs n s es a
  open_skip unmarked = record {
    places = o.places;
    flags = o.flags;
    part = λ x v h. o.part x v (less x v h);
    explains = o.explains;
    are_false = o.are_false;
    apart = apart_less;
    covered = λ x v mark h.
        let other : x ≢ e.lit.var = λ same. both_ways _ unmarked (ap (λ y. get_or s.marks y false) (sym same) ∙ mark) in
        ⊎_elim (λ g. inl (sym (made_true_else (assigned n es) e.lit x other) ∙ g)) (λ w. inr w) (o.covered x v mark h);
  }

  -- an entry whose negation joins the clause
  pub open_keep : (t : ℕ) → IsOpen cs n (record s { lits = s.lits ++ opposite e.lit ∷ []; target = t }) es a
  open_keep t = record {
    places = o.places;
    flags = o.flags;
    part = λ x v h. o.part x v (less x v h);
    explains = o.explains;
    are_false = All-push (λ m. value_of a m ≡ Some false) s.lits (opposite e.lit) o.are_false
        (value_part (assigned n (e ∷ es)) a (opposite e.lit) false o.part (false_here (assigned n es) e.lit inside));
    apart = All-push (λ m. value_of (assigned n es) m ≡ None) s.lits (opposite e.lit) apart_less
        (ap (option_map (signed (not e.lit.negated))) free_here);
    covered = λ x v mark h.
        ⊎_elim
        (λ g. ⊎_elim
        (λ same. inr (opposite e.lit, Contains-push s.lits (opposite e.lit), sym same))
        (λ other. inl (sym (made_true_else (assigned n es) e.lit x other) ∙ g))
        (cases_eq x e.lit.var))
        (λ w. inr (w.0, Contains-append_left s.lits (opposite e.lit ∷ []) w.0 w.1, w.2))
        (o.covered x v mark h);
  }

  -- an entry that is resolved by the clause of its reason
  pub open_resolve : (r : ℕ) → All (All (λ l. l.var < n)) cs → truth_at cs (assigned n es) r ≡ Some (UnitClause e.lit) → IsOpen cs n (record s { marks = marked s.marks (numbered cs r); used = s.used ++ r ∷ [] }) es (set a e.lit.var None)
  open_resolve r in_range reason = record {
    places = length-set a e.lit.var None ∙ o.places;
    flags = length-marked s.marks c ∙ o.flags;
    part = part_less;
    explains = λ b agrees. subst (EndsFalse cs b) (sym (reverse-append s.used (r ∷ []))) (false_later cs b r (reverse s.used) e.lit (unit_in b agrees) (o.explains (made_true b e.lit) (agrees_more b agrees)));
    are_false = λ k d lt. still_false (get_or s.lits k d) (o.are_false k d lt) (o.apart k d lt);
    apart = apart_less;
    covered = λ x v mark h.
        let other : x ≢ e.lit.var = other_than x v h in
        let was : get_or a x None ≡ Some v = sym (get_or-set_other a e.lit.var x None None other) ∙ h in
        ⊎_elim
        (λ old. ⊎_elim (λ g. inl (sym (made_true_else (assigned n es) e.lit x other) ∙ g)) (λ w. inr w) (o.covered x v old was))
        (λ w.
        let has = All-contains (λ m. (m ≡ e.lit) ⊎ (value_of (assigned n es) m ≡ Some false)) c w.0 unit.others_false w.1 in
        ⊎_elim
        (λ same. absurd (other (sym w.2 ∙ ap (λ (m : Literal). m.var) same)))
        (λ is_false.
        let at = value_at (assigned n es) w.0 false is_false in
        let here : get_or (assigned n es) x None ≡ Some at.0 = ap (λ y. get_or (assigned n es) y None) (sym w.2) ∙ at.1 in
        inl (here ∙ (sym (part_less x at.0 here) ∙ h)))
        has)
        (marked_cases c s.marks x mark);
  } where
    c : List Literal
    c = numbered cs r

    h : (clause_at cs r ≡ Some (numbered cs r)) × (truth_of (assigned n es) (numbered cs r) ≡ UnitClause e.lit)
    h = hinted cs (assigned n es) r (UnitClause e.lit) reason

    unit : IsUnit (assigned n es) (numbered cs r) e.lit
    unit = (truth_of-Unit (assigned n es) (numbered cs r) e.lit).0 h.1

    gone : get_or (set a e.lit.var None) e.lit.var None ≡ None
    gone = get_or-set_same a e.lit.var None None (omega (arith, fresh.1, o.places))

    other_than : (x : ℕ) (v : Bool) → get_or (set a e.lit.var None) x None ≡ Some v → x ≢ e.lit.var
    other_than x v g same = none-some v (sym gone ∙ (ap (λ y. get_or (set a e.lit.var None) y None) (sym same) ∙ g))

    part_less : IsPart (assigned n es) (set a e.lit.var None)
    part_less x v g =
        let other : x ≢ e.lit.var = λ same. none-some v (sym free_here ∙ (ap (λ y. get_or (assigned n es) y None) (sym same) ∙ g)) in
        get_or-set_other a e.lit.var x None None other ∙ o.part x v (less x v g)

    still_false : (m : Literal) → value_of a m ≡ Some false → value_of (assigned n (e ∷ es)) m ≡ None → value_of (set a e.lit.var None) m ≡ Some false
    still_false m is_false away =
        let other : m.var ≢ e.lit.var =
        λ same. none-some (not e.lit.negated) (sym (None-from_value m.negated (get_or (assigned n (e ∷ es)) m.var None) away) ∙ (ap (λ y. get_or (assigned n (e ∷ es)) y None) same ∙ made_true_here (assigned n es) e.lit inside)) in
        ap (option_map (signed m.negated)) (get_or-set_other a e.lit.var m.var None None other) ∙ is_false

    unit_in : (b : Assignment) → Agrees (marked s.marks (numbered cs r)) (set a e.lit.var None) b → truth_at cs b r ≡ Some (UnitClause e.lit)
    unit_in b agrees = truth_at_here cs b r h.0 ∙ ap Some ((truth_of-Unit b (numbered cs r) e.lit).1 is_unit) where
      free_in : (p : Option Bool) → get_or b e.lit.var None ≡ p → get_or b e.lit.var None ≡ None
      free_in None is = is
      free_in (Some v) is = absurd (none-some v (sym gone ∙ agrees.part e.lit.var v is))

      other_false : (m : Literal) → Contains (numbered cs r) m → m.var < length s.marks → (m ≡ e.lit) ⊎ (value_of (assigned n es) m ≡ Some false) → (m ≡ e.lit) ⊎ (value_of b m ≡ Some false)
      other_false m has range (inl same) = inl same
      other_false m has range (inr is_false) =
          let w = value_at (assigned n es) m false is_false in
          inr (ap (option_map (signed m.negated)) (agrees.has_marked m.var w.0 (marked_has (numbered cs r) s.marks m has range) (part_less m.var w.0 w.1)) ∙ ap Some w.2)

      is_unit : IsUnit b (numbered cs r) e.lit
      is_unit = record {
        free = ap (option_map (signed e.lit.negated)) (free_in (get_or b e.lit.var None) refl);
        in_clause = unit.in_clause;
        others_false = λ k d lt.
            let m = get_or (numbered cs r) k d in
            let range = numbered_all (All (λ (l : Literal). l.var < n)) cs r h.0 in_range k d lt in
            other_false m (k, lt, get_or_default (numbered cs r) k m d lt) (omega (arith, range, o.flags)) (unit.others_false k d lt);
      }

    agrees_more : (b : Assignment) → Agrees (marked s.marks (numbered cs r)) (set a e.lit.var None) b → Agrees s.marks a (made_true b e.lit)
    agrees_more b agrees = record {
      same_length = length-set b e.lit.var _ ∙ (agrees.same_length ∙ length-set a e.lit.var None);
      part = λ x v g.
          ⊎_elim
          (λ same. ap (λ y. get_or a y None) same ∙ (value_here ∙ (sym (made_there same) ∙ g)))
          (λ other. sym (get_or-set_other a e.lit.var x None None other) ∙ agrees.part x v (sym (made_true_else b e.lit x other) ∙ g))
          (cases_eq x e.lit.var);
      has_marked = λ x v mark g.
          ⊎_elim
          (λ same. made_there same ∙ (sym value_here ∙ (ap (λ y. get_or a y None) (sym same) ∙ g)))
          (λ other. made_true_else b e.lit x other ∙ agrees.has_marked x v (marked_keeps (numbered cs r) s.marks x mark) (get_or-set_other a e.lit.var x None None other ∙ g))
          (cases_eq x e.lit.var);
    } where
      value_here : get_or a e.lit.var None ≡ Some (not e.lit.negated)
      value_here = o.part e.lit.var (not e.lit.negated) (made_true_here (assigned n es) e.lit inside)

      made_there : {x : ℕ} → x ≡ e.lit.var → get_or (made_true b e.lit) x None ≡ Some (not e.lit.negated)
      made_there same = ap (λ y. get_or (made_true b e.lit) y None) same ∙ made_true_here b e.lit (omega (arith, fresh.1, agrees.same_length, length-set a e.lit.var None, o.places))
