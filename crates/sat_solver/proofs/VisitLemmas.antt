-- Which clauses are hit when a literal that they watch becomes false.
use Rattle.std.proofs.Common.{◌≡◌, ◌≢◌, ◌⊎◌, inl, inr, ⊎_elim, ℕ, ◌+◌, ◌*◌, ◌/◌, ◌%◌, ◌≤◌, ◌==◌, ◌&&◌, Bool, true, false, not, cond, List, get_or, All, Contains, Option, Some, None, find, unwrap_or, refl, sym, ap, ◌∙◌, arith}
use Rattle.std.proofs.lemmas.Bool.{cases_eq, cases_Bool, and_parts, not-true, eqb-true, eqb-false, eq-eqb, false_from_ne_true}
use Rattle.std.proofs.lemmas.List.Elements.{All-contains}
use Rattle.sat_clauses.specs.Literal.{Literal}
use Rattle.sat_clauses.specs.Code.{code_of, literal_of}
use Rattle.sat_clauses.specs.Assignment.{Assignment, value_of}
use Rattle.sat_clauses.specs.Truth.{truth_of}
use Rattle.sat_clauses.specs.Store.{IsFalseOrUnit, is_false_or_unit}
use Rattle.sat_clauses.proofs.CodeLemmas.{code_of-injective}
use Rattle.sat_clauses.proofs.ListLemmas.{find_Some, All-from_find_None}
use Rattle.sat_clauses.proofs.TruthLemmas.{truth_of-True, truth_of-False, truth_of-Unit}
use Rattle.sat_clauses.proofs.StoreLemmas.{IsFalseOrUnit-from, is_false_or_unit-from}
use Rattle.sat_solver.specs.Watch.{IsWatch, HasTrue, HasCode, OthersFalse}
use Rattle.sat_solver.specs.Pass.{is_hit, may_watch, CanVisit, IsMoved}

-- a literal is the one with its code
pub literal_of-code_of : (m : Literal) → literal_of (code_of m) ≡ m
literal_of-code_of m = parts m.var m.negated where
  same : (v w : ℕ) (b d : Bool) → v ≡ w → b ≡ d → ◌≡◌ {A = Literal} (record { var = v; negated = b }) (record { var = w; negated = d })
  same v w b d e f = cc

  parts : (v : ℕ) (b : Bool) → literal_of (2 * v + cond b 1 0) ≡ record { var = v; negated = b }
  parts v true = same ((2 * v + 1) / 2) v ((2 * v + 1) % 2 == 1) true (omega arith) (eq-eqb _ _ (omega arith))
  parts v false = same ((2 * v + 0) / 2) v ((2 * v + 0) % 2 == 1) false (omega arith) (false_from_ne_true _ (λ e. let k = eqb-true _ _ e in absurd (omega arith)))

pub not_hit_true : (a : Assignment) (c : List Literal) → HasTrue a c → is_hit a c ≡ false
not_hit_true a c h = ap is_false_or_unit ((truth_of-True a c).1 (h.listed.0, h.literal, h.listed.1, h.listed.2, h.is_true))

-- two different free literals
pub not_hit_free : (a : Assignment) (c : List Literal) (m k : Literal) → Contains c m → Contains c k → code_of m ≢ code_of k → value_of a m ≡ None → value_of a k ≡ None → is_hit a c ≡ false
not_hit_free a c m k in_m in_k apart free_m free_k = false_from_ne_true (is_hit a c) (λ e. kinds (IsFalseOrUnit-from (truth_of a c) e)) where
  kinds : IsFalseOrUnit (truth_of a c) → ⊥
  kinds (inl e) = let z = All-contains (λ (x : Literal). value_of a x ≡ Some false) c m ((truth_of-False a c).0 e) in_m in cc
  kinds (inr (u, e)) =
      let unit = (truth_of-Unit a c u).0 e in
      let at_m = All-contains (λ (x : Literal). (x ≡ u) ⊎ (value_of a x ≡ Some false)) c m unit.others_false in_m in
      let at_k = All-contains (λ (x : Literal). (x ≡ u) ⊎ (value_of a x ≡ Some false)) c k unit.others_false in_k in
      ⊎_elim (λ f. ⊎_elim (λ g. apart (ap code_of (f ∙ sym g))) (λ z. let y = sym free_k ∙ z in absurd (differ y)) at_k) (λ z. let y = sym free_m ∙ z in absurd (differ y)) at_m
    where
      differ : (◌≡◌ {A = Option Bool} None (Some false)) → ⊥
      differ e = cc

-- where another literal can be watched the clause is not hit
pub moved_not_hit : (a : Assignment) (c : List Literal) (l : Literal) (other code : ℕ) → CanVisit a c l other → IsMoved a c other code → is_hit a c ≡ false
moved_not_hit a c l other code v h = by_value (value_of a h.literal) refl where
  by_other : (o : Option Bool) (k : HasCode c other) → value_of a k.literal ≡ o → value_of a h.literal ≡ None → is_hit a c ≡ false
  by_other (Some true) k e free = not_hit_true a c (record { literal = k.literal; listed = k.listed; is_true = e })
  by_other (Some false) k e free = ⊎_elim (λ t. not_hit_true a c t)
      (λ (all : OthersFalse a c (code_of l) other).
      let here = All-contains (λ (x : Literal). IsWatch (code_of l) other x ⊎ (value_of a x ≡ Some false)) c h.literal all h.listed in
      absurd (at_literal here))
      (v.ready k.literal k.listed k.coded e)
    where
      at_literal : IsWatch (code_of l) other h.literal ⊎ (value_of a h.literal ≡ Some false) → ⊥
      at_literal (inl (inl same)) = h.not_false (ap (value_of a) (code_of-injective h.literal l same) ∙ v.is_false)
      at_literal (inl (inr same)) = h.apart (sym h.coded ∙ same)
      at_literal (inr z) = h.not_false z
  by_other None k e free = not_hit_free a c h.literal k.literal h.listed k.listed (λ same. h.apart (sym h.coded ∙ (same ∙ k.coded))) free e

  by_value : (o : Option Bool) → value_of a h.literal ≡ o → is_hit a c ≡ false
  by_value (Some true) e = not_hit_true a c (record { literal = h.literal; listed = h.listed; is_true = e })
  by_value (Some false) e = absurd (h.not_false e)
  by_value None e = ⊎_elim
      (λ z.
      let same = All-contains (λ (x : Literal). code_of x ≡ code_of l) c h.literal (v.alone z) h.listed in
      absurd (h.not_false (ap (value_of a) (code_of-injective h.literal l same) ∙ v.is_false)))
      (λ ne. let k = v.has ne in by_other (value_of a k.literal) k refl e) (cases_eq other 0)

-- where none can be, and the other one is not true, it is
pub is_hit_kept : (a : Assignment) (c : List Literal) (l : Literal) (other : ℕ) → CanVisit a c l other → ((m : Literal) → Contains c m → code_of m ≡ other → value_of a m ≢ Some true)
    → All (λ m. (code_of m ≡ other) ⊎ (value_of a m ≡ Some false)) c → is_hit a c ≡ true
is_hit_kept a c l other v not_true all = is_false_or_unit-from (truth_of a c) (⊎_elim alone together (cases_eq other 0)) where
  alone : other ≡ 0 → IsFalseOrUnit (truth_of a c)
  alone z = inl ((truth_of-False a c).1 (λ k d lt. ap (value_of a) (code_of-injective (get_or c k d) l (v.alone z k d lt)) ∙ v.is_false))

  by_value : (k : HasCode c other) (o : Option Bool) → value_of a k.literal ≡ o → IsFalseOrUnit (truth_of a c)
  by_value k (Some true) e = absurd (not_true k.literal k.listed k.coded e)
  by_value k (Some false) e = inl ((truth_of-False a c).1 (λ i d lt. ⊎_elim (λ same. ap (value_of a) (code_of-injective (get_or c i d) k.literal (same ∙ sym k.coded)) ∙ e) (λ z. z) (all i d lt)))
  by_value k None e = inr (
    k.literal,
    (truth_of-Unit a c k.literal).1 (record {
      free = e;
      in_clause = k.listed;
      others_false = λ i d lt. ⊎_elim (λ same. inl (code_of-injective (get_or c i d) k.literal (same ∙ sym k.coded))) (λ z. inr z) (all i d lt);
    }),
  )

  together : other ≢ 0 → IsFalseOrUnit (truth_of a c)
  together ne = let k = v.has ne in by_value k (value_of a k.literal) refl

-- what a candidate is, and what it means that there is none
not_false_from : (o : Option Bool) → unwrap_or o true ≡ true → o ≢ Some false
not_false_from o e f = differ (sym e ∙ ap (λ x. unwrap_or x true) f) where
  differ : true ≡ false → ⊥
  differ e = cc

is_false_from : (o : Option Bool) → unwrap_or o true ≡ false → o ≡ Some false
is_false_from None e = cc
is_false_from (Some b) e = ap Some e

pub moved_from_candidate : (a : Assignment) (c : List Literal) (other : ℕ) (m : Literal) → find (may_watch a other) c ≡ Some m → 2 ≤ code_of m → IsMoved a c other (code_of m)
moved_from_candidate a c other m e real =
    let h = find_Some (may_watch a other) c m e in
    let parts = and_parts (not (code_of m == other)) (unwrap_or (value_of a m) true) h.0 in
    record {
      literal = m;
      listed = h.1;
      coded = refl;
      real = real;
      not_false = not_false_from (value_of a m) parts.1;
      apart = eqb-false (code_of m) other (not-true (code_of m == other) parts.0);
    }

pub all_from_none : (a : Assignment) (c : List Literal) (other : ℕ) → find (may_watch a other) c ≡ None → All (λ m. (code_of m ≡ other) ⊎ (value_of a m ≡ Some false)) c
all_from_none a c other e = λ k d lt. here (get_or c k d) (All-from_find_None (may_watch a other) c e k d lt) where
  here : (m : Literal) → may_watch a other m ≡ false → (code_of m ≡ other) ⊎ (value_of a m ≡ Some false)
  here m f = ⊎_elim (λ same. inl (eqb-true (code_of m) other same)) (λ off. inr (is_false_from (value_of a m) (rest (code_of m == other) off f))) (cases_Bool (code_of m == other)) where
    rest : (b : Bool) → b ≡ false → (not b && unwrap_or (value_of a m) true) ≡ false → unwrap_or (value_of a m) true ≡ false
    rest true off f = cc
    rest false off f = f

-- the other literal is not true where the one with its code is not
pub other_not_true : (a : Assignment) (c : List Literal) (l : Literal) (other : ℕ) → CanVisit a c l other → ¬ ((2 ≤ other) × (value_of a (literal_of other) ≡ Some true)) → (m : Literal) → Contains c m → code_of m ≡ other → value_of a m ≢ Some true
other_not_true a c l other v none m listed coded e = ⊎_elim
    (λ z. v.apart (sym (All-contains (λ (x : Literal). code_of x ≡ code_of l) c m (v.alone z) listed) ∙ coded))
    (λ ne. none (let s = v.no_spare in omega arith, ap (value_of a) (ap literal_of (sym coded) ∙ literal_of-code_of m) ∙ e)) (cases_eq other 0)
