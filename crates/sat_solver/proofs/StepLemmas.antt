-- What an analysis ends with is a step.
use Rattle.std.proofs.Common.{◌≡◌, ⊎_elim, zero, suc, ℕ, ◌+◌, ◌<◌, Bool, true, false, not, cond, List, [], ◌∷◌, length, get_or, set, replicate, reverse, Option, Some, None, All, Contains, refl, sym, ap, ◌∙◌, subst, arith}
use Rattle.std.specs.Option.{option_map}
use Rattle.std.proofs.lemmas.Bool.{cases_eq, cases_lt}
use Rattle.std.proofs.lemmas.Option.{none-some, same_Some}
use Rattle.std.proofs.lemmas.List.{length-set, length-replicate, get_or-replicate, get_or_past, set_past}
use Rattle.std.proofs.lemmas.List.Elements.{All-head, All-tail, All-contains}
use Rattle.sat_clauses.specs.Literal.{Literal, opposite, signed}
use Rattle.sat_clauses.specs.Assignment.{Assignment, value_of, made_true}
use Rattle.sat_clauses.specs.declared.clause.Truth.TheVariants.{False}
use Rattle.sat_clauses.specs.Derivation.{IsUpTo}
use Rattle.sat_clauses.specs.Hints.{truth_at, made_false, assumed_false, EndsFalse, HasNoOpposites}
use Rattle.sat_clauses.proofs.FalseLemmas.{length-made_false, sign_of_false}
use Rattle.sat_clauses.specs.declared.step.Step.{Step}
use Rattle.sat_solver.specs.declared.trail.TrailEntry.{TrailEntry}
use Rattle.sat_solver.specs.declared.trail.Reason.{Reason}
use Rattle.sat_solver.specs.declared.trail.Reason.TheVariants.{Assumed, Chosen, Implied}
use Rattle.sat_solver.specs.Trail.{assigned, IsFresh}
use Rattle.sat_solver.specs.Search.{IsReason, IsJustified, IsStep}
use Rattle.sat_solver.specs.AnalysisRecord.{AnalysisValue}
use Rattle.sat_solver.specs.Analysis.{may_resolve, visited, visited_by, passed, resolver, analysed, begun}
use Rattle.sat_solver.proofs.ExplainLemmas.{IsPart, value_at, made_true_here, made_true_else}
use Rattle.sat_solver.proofs.OpenLemmas.{IsOpen, open_aim, open_begun, open_skip, open_keep, open_resolve}

never_both : (n b : Bool) → signed n b ≡ false → signed (not n) b ≡ false → ⊥
never_both true true e f = cc
never_both true false e f = cc
never_both false true e f = cc
never_both false false e f = cc

pub value_in_range : (a : Assignment) (l : Literal) (d : Bool) → value_of a l ≡ Some d → l.var < length a
value_in_range a l d e =
    ⊎_elim (λ inside. inside) (λ outside. absurd (none-some d (sym (ap (option_map (signed l.negated)) (get_or_past a l.var None outside)) ∙ e))) (cases_lt l.var (length a))

-- a literal that is false in a is made false as a has it
made_as : (a b : Assignment) (m : Literal) (x : ℕ) (v : Bool) → value_of a m ≡ Some false → x ≡ m.var → get_or a x None ≡ Some v → m.var < length b → get_or (made_true b (opposite m)) x None ≡ Some v
made_as a b m x v is_false same at inside =
    let w = value_at a m false is_false in
    ap (λ y. get_or (made_true b (opposite m)) y None) same
    ∙ (made_true_here b (opposite m) inside
    ∙ (ap Some (sign_of_false m.negated w.0 w.2) ∙ (sym w.1 ∙ (ap (λ y. get_or a y None) (sym same) ∙ at))))

module _ (a : Assignment) where
  made_false_part : (c : List Literal) (b : Assignment) → All (λ m. value_of a m ≡ Some false) c → IsPart b a → IsPart (made_false b c) a
  made_false_part [] b all part = part
  made_false_part (m ∷ ms) b all part =
      made_false_part ms (made_true b (opposite m)) (All-tail (λ l. value_of a l ≡ Some false) m ms all)
      (λ x v g.
      ⊎_elim
      (λ same. ⊎_elim
      (λ inside.
      let w = value_at a m false (All-head (λ l. value_of a l ≡ Some false) m ms all) in
      let here : get_or a x None ≡ Some w.0 = ap (λ y. get_or a y None) same ∙ w.1 in
      here ∙ (sym (made_as a b m x w.0 (All-head (λ l. value_of a l ≡ Some false) m ms all) same here inside) ∙ g))
      (λ outside. part x v (ap (λ y. get_or y x None) (sym (set_past b m.var _ outside)) ∙ g))
      (cases_lt m.var (length b)))
      (λ other. part x v (sym (made_true_else b (opposite m) x other) ∙ g))
      (cases_eq x m.var))

  made_false_stays : (c : List Literal) (b : Assignment) (x : ℕ) (v : Bool) → All (λ m. value_of a m ≡ Some false) c → get_or a x None ≡ Some v → get_or b x None ≡ Some v → get_or (made_false b c) x None ≡ Some v
  made_false_stays [] b x v all at here = here
  made_false_stays (m ∷ ms) b x v all at here =
      made_false_stays ms (made_true b (opposite m)) x v (All-tail (λ l. value_of a l ≡ Some false) m ms all) at
      (⊎_elim
      (λ same. ⊎_elim
      (λ inside. made_as a b m x v (All-head (λ l. value_of a l ≡ Some false) m ms all) same at inside)
      (λ outside. ap (λ y. get_or y x None) (set_past b m.var _ outside) ∙ here)
      (cases_lt m.var (length b)))
      (λ other. made_true_else b (opposite m) x other ∙ here)
      (cases_eq x m.var))

  made_false_has : (c : List Literal) (b : Assignment) (m : Literal) (v : Bool) → All (λ l. value_of a l ≡ Some false) c → length b ≡ length a → Contains c m → get_or a m.var None ≡ Some v → get_or (made_false b c) m.var None ≡ Some v
  made_false_has [] b m v all places has at = absurd (omega (arith, has.1))
  made_false_has (k ∷ ks) b m v all places has at =
      by_place (λ h. made_false_has ks (made_true b (opposite k)) m v (All-tail (λ l. value_of a l ≡ Some false) k ks all) (length-set b k.var _ ∙ places) h at) has.0 has.1 has.2
    where
      by_place : (Contains ks m → get_or (made_false b (k ∷ ks)) m.var None ≡ Some v) → (i : ℕ) → i < length (k ∷ ks) → get_or (k ∷ ks) i m ≡ m → get_or (made_false b (k ∷ ks)) m.var None ≡ Some v
      by_place later zero lt e =
          let is_false = All-head (λ l. value_of a l ≡ Some false) k ks all in
          made_false_stays ks (made_true b (opposite k)) m.var v (All-tail (λ l. value_of a l ≡ Some false) k ks all) at
          (made_as a b k m.var v is_false (ap (λ (y : Literal). y.var) (sym e)) at (omega (arith, places, value_in_range a k false is_false)))
      by_place later (suc i) lt e = later (i, omega arith, e)

pub nothing_free : (n x : ℕ) (v : Bool) → get_or (replicate {A = Option Bool} n None) x None ≡ Some v → ⊥
nothing_free n x v e =
    ⊎_elim
    (λ inside. none-some v (sym (get_or-replicate n x None None inside) ∙ e))
    (λ outside. none-some v (sym (get_or_past (replicate n None) x None (omega (arith, length-replicate {A = Option Bool} n None))) ∙ e))
    (cases_lt x n)

-- at the end the clause follows by the hints
open_ends : (cs : List (List Literal)) (n : ℕ) (s : AnalysisValue) (a : Assignment) → IsOpen cs n s [] a → EndsFalse cs (made_false (replicate n None) s.lits) (reverse s.used)
open_ends cs n s a o =
    let start : List (Option Bool) = replicate n None in
    let places : length start ≡ length a = length-replicate n None ∙ sym o.places in
    o.explains (made_false start s.lits)
    (record {
      same_length = length-made_false start s.lits ∙ places;
      part = made_false_part a s.lits start o.are_false (λ x v g. absurd (nothing_free n x v g));
      has_marked = λ x v mark g.
          ⊎_elim (λ h. absurd (nothing_free n x v h))
          (λ w. ap (λ y. get_or (made_false start s.lits) y None) (sym w.2) ∙ made_false_has a s.lits start w.0 v o.are_false places w.1 (ap (λ y. get_or a y None) w.2 ∙ g))
          (o.covered x v mark g);
    })

-- literals that are false at once are no opposites
no_opposites_false : (a : Assignment) (c : List Literal) → All (λ m. value_of a m ≡ Some false) c → HasNoOpposites c
no_opposites_false a c all = λ k d lt. record { absent = λ has. contradiction (get_or c k d) (all k d lt) (All-contains (λ m. value_of a m ≡ Some false) c (opposite (get_or c k d)) all has) } where
  contradiction : (l : Literal) → value_of a l ≡ Some false → value_of a (opposite l) ≡ Some false → ⊥
  contradiction l e f =
      let w = value_at a l false e in
      let u = value_at a (opposite l) false f in
      let same : u.0 ≡ w.0 = same_Some _ _ (sym u.1 ∙ w.1) in
      never_both l.negated w.0 w.2 (ap (signed (not l.negated)) (sym same) ∙ u.2)

resolver_Some : (q : Reason) (b : Bool) (r : ℕ) → resolver q b ≡ Some r → q ≡ Implied r
resolver_Some (Implied x) true r e = ap Implied (same_Some x r e)
resolver_Some (Implied x) false r e = absurd (none-some r e)
resolver_Some (Assumed k) true r e = absurd (none-some r e)
resolver_Some (Assumed k) false r e = absurd (none-some r e)
resolver_Some Chosen true r e = absurd (none-some r e)
resolver_Some Chosen false r e = absurd (none-some r e)

-- each entry takes the analysis further, and so all do
open_analysed : (cs : List (List Literal)) (assumptions : List Literal) (n : ℕ) (f : Bool) (es : List TrailEntry) (s : AnalysisValue) (a : Assignment) → All (All (λ l. l.var < n)) cs → IsFresh n es → IsJustified cs assumptions n es → IsOpen cs n s es a → (b : Assignment) × IsOpen cs n (analysed cs f s es) [] b
open_analysed cs assumptions n f [] s a in_range fresh justified o = (a, o)
open_analysed cs assumptions n f (e ∷ es) s a in_range fresh justified o =
    let w = by_mark (get_or s.marks e.lit.var false) refl in
    open_analysed cs assumptions n f es (visited cs f s e es) w.0 in_range fresh.0 justified.0 w.1
  where
    by_resolver : (p : Option ℕ) → resolver e.reason (may_resolve f s es) ≡ p → (b : Assignment) × IsOpen cs n (visited_by cs s e (length es) p) es b
    by_resolver None is = (a, open_keep cs n s e es a fresh o _)
    by_resolver (Some r) is =
        let reason = subst (IsReason cs assumptions (assigned n es) e.lit) (resolver_Some e.reason _ r is) justified.1 in
        (set a e.lit.var None, open_resolve cs n s e es a fresh o r in_range reason)

    by_mark : (m : Bool) → get_or s.marks e.lit.var false ≡ m → (b : Assignment) × IsOpen cs n (cond m (visited_by cs s e (length es) (resolver e.reason (may_resolve f s es))) (passed s e (length es))) es b
    by_mark false is = (a, open_aim cs n s es a _ (open_skip cs n s e es a fresh o is))
    by_mark true is = by_resolver (resolver e.reason (may_resolve f s es)) refl

-- what is learned from a false clause is a step
pub learned_is_step : (cs : List (List Literal)) (assumptions : List Literal) (vars n : ℕ) (f : Bool) (es : List TrailEntry) (conflict : ℕ) (step : Step) → n ≡ vars + 1 → All (All (λ l. l.var < n)) cs → IsFresh n es → IsJustified cs assumptions n es → truth_at cs (assigned n es) conflict ≡ Some False → step.clause ≡ (analysed cs f (begun n cs conflict) es).lits → step.hints ≡ reverse (analysed cs f (begun n cs conflict) es).used → IsStep vars cs step
learned_is_step cs assumptions vars n f es conflict step places in_range fresh justified is_false clause hints =
    let w = open_analysed cs assumptions n f es (begun n cs conflict) (assigned n es) in_range fresh justified (open_begun cs n conflict es in_range is_false) in
    let t = analysed cs f (begun n cs conflict) es in
    let ends = open_ends cs n t w.0 w.1 in
    record {
      ends = subst (λ hs. EndsFalse cs (assumed_false vars step.clause) hs) (sym hints)
          (subst (λ (c : List Literal). EndsFalse cs (assumed_false vars c) (reverse t.used)) (sym clause)
          (subst (λ (k : ℕ). EndsFalse cs (made_false (replicate k None) t.lits) (reverse t.used)) places ends));
      in_range = subst (All (IsUpTo vars)) (sym clause) (λ k d lt. omega (arith, value_in_range w.0 (get_or t.lits k d) false (w.1.are_false k d lt), w.1.places, places));
      no_opposites = subst HasNoOpposites (sym clause) (no_opposites_false w.0 t.lits w.1.are_false);
    }
