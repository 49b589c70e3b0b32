-- The walk keeps that what is left to be done orders all.
use Rattle.std.proofs.Common.{◌≡◌, ℕ, zero, suc, ◌+◌, ◌<◌, arith, Bool, true, false, List, [], ◌∷◌, ◌++◌, length, set, replicate, refl, ap, ◌∙◌, sym, subst, ◌⊎◌, inl, inr}
use Rattle.std.proofs.lemmas.List.{length-replicate, length-set}
use Rattle.smv_language.specs.Trace.{Each}
use Rattle.smv_flat_laws.proofs.Conditions.{each_join}
use Rattle.smv_scope.specs.declared.needs.WalkMark.{WalkMark}
use Rattle.smv_scope.specs.declared.needs.WalkMark.TheVariants.{Unmet, Begun, Ended}
use Rattle.smv_scope.specs.declared.needs.Task.{Task}
use Rattle.smv_scope.specs.declared.needs.Task.TheVariants.{Visit, End}
use Rattle.smv_scope.specs.Links.{Graph, Has, Reaches, start, further}
use Rattle.smv_scope.specs.DefinitionOrder.{upto, upto_from, IsInto, Lays, stands, comes, LaysAll, no_more, one_more, Lay, mark_at, visits, visit_by, lay_by, Ends, number_of, HasEnd, IsFor, Hangs, IsLaying}
use Rattle.smv_scope.proofs.LinkLaws.{has_left, has_right, has_either}

-- visits in front of other tasks
ends_visits : (g : Graph) (done : List ℕ) (ks : List ℕ) (ts : List Task) (after : List ℕ) → Ends g done (visits ks ++ ts) after →
    (between : List ℕ) × LaysAll g done ks between × Ends g between ts after
ends_visits g done [] ts after h = (done, no_more, h)
ends_visits g done (k ∷ ks) ts after (between, lays, h) =
    let more : (mid : List ℕ) × LaysAll g between ks mid × Ends g mid ts after = ends_visits g between ks ts after h in
    (more.0, one_more lays more.1, more.2)

none_ended : (n k : ℕ) → mark_at (replicate n Unmet) k ≡ Ended → ⊥
none_ended zero k h = cc
none_ended (suc n) zero h = cc
none_ended (suc n) (suc k) h = none_ended n k h

none_begun : (n k : ℕ) → mark_at (replicate n Unmet) k ≡ Begun → ⊥
none_begun zero k h = cc
none_begun (suc n) zero h = cc
none_begun (suc n) (suc k) h = none_begun n k h

-- visits in front change nothing of what is to be ended
for_visits : (g : Graph) (j : ℕ) (ks : List ℕ) (ts : List Task) → IsFor g j ts → IsFor g j (visits ks ++ ts)
for_visits g j [] ts h = h
for_visits g j (k ∷ ks) ts h = for_visits g j ks ts h

pub end_behind : (ks : List ℕ) (ts : List Task) (k : ℕ) → HasEnd ts k → HasEnd (visits ks ++ ts) k
end_behind [] ts k h = h
end_behind (j ∷ ks) ts k h = end_behind ks ts k h

visits_hang : (g : Graph) (ks : List ℕ) (ts : List Task) → ((k : ℕ) → Has ks k → IsFor g k ts) → Hangs g ts → Hangs g (visits ks ++ ts)
visits_hang g [] ts each h = h
visits_hang g (k ∷ ks) ts each h = (for_visits g k ks ts (each k (inl refl)), visits_hang g ks ts (λ j a. each j (inr a)) h)

-- what is to be ended leads to what is for it
pub ends_lead : (g : Graph) (k j : ℕ) (ts : List Task) → HasEnd ts k → IsFor g j ts → Hangs g ts → Reaches g (g k) j
ends_lead g k j [] h to hangs = absurd h
ends_lead g k j (Visit i ∷ ts) h to hangs = ends_lead g k j ts h to hangs.1
ends_lead g k j (End i ∷ ts) (inl e) to hangs = start (subst (λ n. Has (g n) j) e to)
ends_lead g k j (End i ∷ ts) (inr h) to hangs = further (ends_lead g k i ts h hangs.0 hangs.1) to

visits_within : (count : ℕ) (ks : List ℕ) → ((k : ℕ) → Has ks k → k < count) → Each (λ t. number_of t < count) (visits ks)
visits_within count [] h = tt
visits_within count (k ∷ ks) h = (h k (inl refl), visits_within count ks (λ j g. h j (inr g)))

pub upto_within : (from n k : ℕ) → Has (upto_from from n) k → k < from + n
upto_within from zero k h = absurd h
upto_within from (suc n) k (inl e) = omega (arith, e)
upto_within from (suc n) k (inr h) = let more : k < suc from + n = upto_within (suc from) n k h in omega (arith, more)

from_more : (k n : ℕ) → upto_from k (n + 1) ≡ upto_from k n ++ (k + n) ∷ []
from_more k zero = ap (λ i. i ∷ []) same
  where
    same : k ≡ k + 0
    same = omega arith
from_more k (suc n) =
    ap (λ m. upto_from k m) size ∙ ap (λ xs. k ∷ xs) (from_more (suc k) n ∙ ap (λ i. upto_from (suc k) n ++ i ∷ []) next)
  where
    next : suc k + n ≡ k + suc n
    next = omega arith

    size : suc n + 1 ≡ suc (n + 1)
    size = omega arith

pub upto_more : (n : ℕ) → upto (n + 1) ≡ upto n ++ n ∷ []
upto_more n = from_more 0 n ∙ ap (λ i. upto n ++ i ∷ []) none
  where
    none : 0 + n ≡ n
    none = omega arith

pub laying_first : (g : Graph) (count : ℕ) → IsLaying g count (record { marks = replicate count Unmet; order = []; tasks = visits (upto count); circle = false })
laying_first g count =
    record {
      size = length-replicate count Unmet;
      ended = λ k h. absurd (none_ended count k h);
      ordered = λ k h. absurd h;
      within = visits_within count (upto count) (λ k h. from_zero k (upto_within 0 count k h));
      begun = λ k h. absurd (none_begun count k h);
      hangs = subst (Hangs g) (no_tail (visits (upto count))) (visits_hang g (upto count) [] (λ k h. tt) tt);
      shown = λ c. absurd (differs c);
      rest = λ e after h. all_of after (ends_visits g [] (upto count) [] after (subst (λ ts. Ends g [] ts after) (sym (no_tail (visits (upto count)))) h));
    }
  where
    differs : false ≡ true → ⊥
    differs c = cc

    from_zero : (k : ℕ) → k < 0 + count → k < count
    from_zero k h = omega (arith, h)

    no_tail : (ts : List Task) → ts ++ [] ≡ ts
    no_tail [] = refl
    no_tail (t ∷ ts) = ap (λ us. t ∷ us) (no_tail ts)

    all_of : (after : List ℕ) → (between : List ℕ) × LaysAll g [] (upto count) between × (after ≡ between) → LaysAll g [] (upto count) after
    all_of after (between, all, e) = subst (LaysAll g [] (upto count)) (sym e) all

-- marks after one is set
pub mark_same : (ms : List WalkMark) (k : ℕ) (m : WalkMark) → k < length ms → mark_at (set ms k m) k ≡ m
mark_same [] k m within = absurd (omega arith)
mark_same (x ∷ ms) zero m within = refl
mark_same (x ∷ ms) (suc k) m within = mark_same ms k m (omega arith)

pub mark_other : (ms : List WalkMark) (k j : ℕ) (m : WalkMark) → (k ≡ j → ⊥) → mark_at (set ms k m) j ≡ mark_at ms j
mark_other [] k j m other = refl
mark_other (x ∷ ms) zero zero m other = absurd (other refl)
mark_other (x ∷ ms) zero (suc j) m other = refl
mark_other (x ∷ ms) (suc k) zero m other = refl
mark_other (x ∷ ms) (suc k) (suc j) m other = mark_other ms k j m (λ e. other (ap suc e))

pub same_or : (k j : ℕ) → (k ≡ j) ⊎ (k ≡ j → ⊥)
same_or zero zero = inl refl
same_or zero (suc j) = inr (λ e. differs j e)
  where
    differs : (j : ℕ) → zero ≡ suc j → ⊥
    differs j e = cc
same_or (suc k) zero = inr (λ e. differs k e)
  where
    differs : (k : ℕ) → suc k ≡ zero → ⊥
    differs k e = cc
same_or (suc k) (suc j) = by_side (same_or k j)
  where
    one_back : suc k ≡ suc j → k ≡ j
    one_back e = cc

    by_side : (k ≡ j) ⊎ (k ≡ j → ⊥) → (suc k ≡ suc j) ⊎ (suc k ≡ suc j → ⊥)
    by_side (inl e) = inl (ap suc e)
    by_side (inr n) = inr (λ e. n (one_back e))

module _ (g : Graph) (count : ℕ) (into : IsInto g count) (ms : List WalkMark) (order : List ℕ) (ts : List Task) (circle : Bool) where
  abbrev before : Task → Lay
  before t = record { marks = ms; order = order; tasks = t ∷ ts; circle = circle }

  abbrev popped : Lay
  popped = record { marks = ms; order = order; tasks = ts; circle = circle }

  end_task : (k : ℕ) → IsLaying g count (before (End k)) → IsLaying g count (lay_by g popped (End k))
  end_task k h =
      record {
        size = length-set ms k Ended ∙ h.size;
        ended = λ j e. ended j e (same_or k j);
        ordered = λ j a. by_side j (same_or k j) (has_either order (k ∷ []) j a);
        within = h.within.1;
        begun = λ j e. begun j e (same_or k j);
        hangs = h.hangs.1;
        shown = h.shown;
        rest = h.rest;
      }
    where
      ended_begun : Ended ≡ Begun → ⊥
      ended_begun d = cc

      in_rest : (j : ℕ) → (k ≡ j → ⊥) → (k ≡ j) ⊎ HasEnd ts j → HasEnd ts j
      in_rest j other (inl e) = absurd (other e)
      in_rest j other (inr a) = a

      fits : k < length ms
      fits = let f : k < count = h.within.0 in omega (arith, f, h.size)

      begun : (j : ℕ) → mark_at (set ms k Ended) j ≡ Begun → (k ≡ j) ⊎ (k ≡ j → ⊥) → HasEnd ts j
      begun j m (inl same) = absurd (ended_begun (sym (mark_same ms k Ended fits) ∙ subst (λ i. mark_at (set ms k Ended) i ≡ Begun) (sym same) m))
      begun j m (inr other) = in_rest j other (h.begun j (sym (mark_other ms k j Ended other) ∙ m))

      ended : (j : ℕ) → mark_at (set ms k Ended) j ≡ Ended → (k ≡ j) ⊎ (k ≡ j → ⊥) → Has (order ++ k ∷ []) j
      ended j e (inl same) = has_right order (k ∷ []) j (inl same)
      ended j e (inr other) = has_left order (k ∷ []) j (h.ended j (sym (mark_other ms k j Ended other) ∙ e))

      by_side : (j : ℕ) → (k ≡ j) ⊎ (k ≡ j → ⊥) → Has order j ⊎ Has (k ∷ []) j → mark_at (set ms k Ended) j ≡ Ended
      by_side j (inl same) a = subst (λ i. mark_at (set ms k Ended) i ≡ Ended) same (mark_same ms k Ended fits)
      by_side j (inr other) (inl a) = mark_other ms k j Ended other ∙ h.ordered j a
      by_side j (inr other) (inr (inl e)) = absurd (other e)
      by_side j (inr other) (inr (inr a)) = absurd a

  visit_ended : (k : ℕ) → mark_at ms k ≡ Ended → IsLaying g count (before (Visit k)) → IsLaying g count popped
  visit_ended k e h =
      record {
        size = h.size;
        ended = h.ended;
        ordered = h.ordered;
        within = h.within.1;
        begun = h.begun;
        hangs = h.hangs.1;
        shown = h.shown;
        rest = λ c after left. h.rest c after (order, stands (h.ended k e), left);
      }

  visit_begun : (k : ℕ) → mark_at ms k ≡ Begun → IsLaying g count (before (Visit k)) → IsLaying g count (visit_by g popped k Begun)
  visit_begun k e h =
      record {
        size = h.size;
        ended = h.ended;
        ordered = h.ordered;
        within = h.within.1;
        begun = h.begun;
        hangs = h.hangs.1;
        shown = λ c. (k, h.within.0, ends_lead g k k ts (h.begun k e) h.hangs.0 h.hangs.1);
        rest = λ c. absurd (differs c);
      }
    where
      differs : true ≡ false → ⊥
      differs c = cc

  visit_unmet : (k : ℕ) → mark_at ms k ≡ Unmet → IsLaying g count (before (Visit k)) → IsLaying g count (visit_by g popped k Unmet)
  visit_unmet k e h =
      record {
        size = length-set ms k Begun ∙ h.size;
        ended = λ j m. ended j m (same_or k j);
        ordered = λ j a. ordered j a (same_or k j);
        within = each_join (λ t. number_of t < count) (visits (g k)) (End k ∷ ts) (visits_within count (g k) (into k)) (h.within.0, h.within.1);
        begun = λ j m. end_behind (g k) (End k ∷ ts) j (begun j m (same_or k j));
        hangs = visits_hang g (g k) (End k ∷ ts) (λ j a. a) (h.hangs.0, h.hangs.1);
        shown = h.shown;
        rest = λ c after left. h.rest c after (goes_on after (ends_visits g order (g k) (End k ∷ ts) after left));
      }
    where
      fits : k < length ms
      fits = let f : k < count = h.within.0 in omega (arith, f, h.size)

      not_there : Has order k → ⊥
      not_there a = differs (sym e ∙ h.ordered k a)
        where
          differs : Unmet ≡ Ended → ⊥
          differs d = cc

      begun_ended : Begun ≡ Ended → ⊥
      begun_ended d = cc

      ended : (j : ℕ) → mark_at (set ms k Begun) j ≡ Ended → (k ≡ j) ⊎ (k ≡ j → ⊥) → Has order j
      ended j m (inl same) = absurd (begun_ended (sym (mark_same ms k Begun fits) ∙ subst (λ i. mark_at (set ms k Begun) i ≡ Ended) (sym same) m))
      ended j m (inr other) = h.ended j (sym (mark_other ms k j Begun other) ∙ m)

      begun : (j : ℕ) → mark_at (set ms k Begun) j ≡ Begun → (k ≡ j) ⊎ (k ≡ j → ⊥) → (k ≡ j) ⊎ HasEnd ts j
      begun j m (inl same) = inl same
      begun j m (inr other) = inr (h.begun j (sym (mark_other ms k j Begun other) ∙ m))

      ordered : (j : ℕ) → Has order j → (k ≡ j) ⊎ (k ≡ j → ⊥) → mark_at (set ms k Begun) j ≡ Ended
      ordered j a (inl same) = absurd (not_there (subst (Has order) (sym same) a))
      ordered j a (inr other) = mark_other ms k j Begun other ∙ h.ordered j a

      goes_on : (after : List ℕ) → (between : List ℕ) × LaysAll g order (g k) between × Ends g (between ++ k ∷ []) ts after → (between : List ℕ) × Lays g order k between × Ends g between ts after
      goes_on after (between, all, left) = (between ++ k ∷ [], comes not_there all, left)

  pub laying_by : (t : Task) → IsLaying g count (before t) → IsLaying g count (lay_by g popped t)
  laying_by (End k) h = end_task k h
  laying_by (Visit k) h = by_mark (mark_at ms k) refl
    where
      by_mark : (m : WalkMark) → mark_at ms k ≡ m → IsLaying g count (visit_by g popped k (mark_at ms k))
      by_mark Ended e = rw e (visit_ended k e h)
      by_mark Begun e = rw e (visit_begun k e h)
      by_mark Unmet e = rw e (visit_unmet k e h)
