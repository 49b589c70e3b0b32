-- Moments stop at most once.
use Rattle.std.proofs.Common.{◌≡◌, suc, List, [], ◌∷◌, ◌++◌, length, refl, sym, ap, ◌∙◌, subst}
use Rattle.smv_language.specs.Language.{Each, EachPair, Value, FlatModel}
use Rattle.smv_flat_laws.specs.FlatTrace.{IsFlatMoment, IsFlatStep, IsFlatTrace}
use Rattle.smv_evaluation.specs.Laws.{OneStop, ReachingDoesNotStop}
use Rattle.smv_evaluation.specs.Stops.{bad_first, bad_step, no_top, IsFirstMoment, IsNextMoment}

module _ (m : FlatModel) where
  first_in : (trace more : List (List Value)) (v : List Value) → trace ≡ v ∷ more → IsFlatTrace m trace → IsFirstMoment m v
  first_in trace more v e t = let u : IsFlatTrace m (v ∷ more) = subst (IsFlatTrace m) e t in record { moment = u.moments.0; first = u.first }

  first_of : (before : List (List Value)) (v w : List Value) (rest more : List (List Value)) → IsFlatTrace m (before ++ v ∷ []) → before ++ v ∷ rest ≡ w ∷ more → IsFirstMoment m w
  first_of [] v w rest more t e = let same : v ≡ w = cc in subst (IsFirstMoment m) same (record { moment = t.moments.0; first = t.first })
  first_of (b ∷ bs) v w rest more t e = let same : b ≡ w = cc in subst (IsFirstMoment m) same (record { moment = t.moments.0; first = t.first })

  pairs_tail : (v : List Value) (vs : List (List Value)) → EachPair (IsFlatStep m) (v ∷ vs) → EachPair (IsFlatStep m) vs
  pairs_tail v [] h = tt
  pairs_tail v (w ∷ ws) h = h.1

  -- a step in the midst of moments and steps
  next_within : (before : List (List Value)) (v w : List Value) (after : List (List Value)) → Each (IsFlatMoment m) (before ++ v ∷ w ∷ after) → EachPair (IsFlatStep m) (before ++ v ∷ w ∷ after) →
      IsNextMoment m v w
  next_within [] v w after h s = record { moment = h.1.0; step = s.0 }
  next_within (b ∷ bs) v w after h s = next_within bs v w after h.1 (pairs_tail b (bs ++ v ∷ w ∷ after) s)

  next_in : (trace before : List (List Value)) (v w : List Value) (after : List (List Value)) → trace ≡ before ++ v ∷ w ∷ after → IsFlatTrace m trace → IsNextMoment m v w
  next_in trace before v w after e t = let u : IsFlatTrace m (before ++ v ∷ w ∷ after) = subst (IsFlatTrace m) e t in next_within before v w after u.moments u.steps

  -- the first two moments of a longer beginning are a step
  begins : (v w : List Value) (after : List (List Value)) (b : List Value) (bs : List (List Value)) (x y : List Value) (rest : List (List Value)) →
      v ∷ w ∷ after ≡ b ∷ (bs ++ x ∷ y ∷ rest) → Each (IsFlatMoment m) (b ∷ (bs ++ x ∷ [])) → EachPair (IsFlatStep m) (b ∷ (bs ++ x ∷ [])) → IsNextMoment m v w
  begins v w after b [] x y rest e h s =
      let first : b ≡ v = cc in
      let second : x ≡ w = cc in
      subst (λ u. IsNextMoment m u w) first (subst (λ u. IsNextMoment m b u) second (record { moment = h.1.0; step = s.0 }))
  begins v w after b (c ∷ cs) x y rest e h s =
      let first : b ≡ v = cc in
      let second : c ≡ w = cc in
      subst (λ u. IsNextMoment m u w) first (subst (λ u. IsNextMoment m b u) second (record { moment = h.1.0; step = s.0 }))

  same_place : (bs : List (List Value)) (v w : List Value) (after cs : List (List Value)) (x y : List Value) (rest : List (List Value)) →
      bs ++ v ∷ w ∷ after ≡ cs ++ x ∷ y ∷ rest → Each (IsFlatMoment m) (bs ++ v ∷ []) → EachPair (IsFlatStep m) (bs ++ v ∷ []) →
      Each (IsFlatMoment m) (cs ++ x ∷ []) → EachPair (IsFlatStep m) (cs ++ x ∷ []) → (IsNextMoment m v w → ⊥) → (IsNextMoment m x y → ⊥) → length bs ≡ length cs
  same_place [] v w after [] x y rest e h s k r f g = refl
  same_place [] v w after (c ∷ cs) x y rest e h s k r f g = absurd (f (begins v w after c cs x y rest e k r))
  same_place (b ∷ bs) v w after [] x y rest e h s k r f g = absurd (g (begins x y rest b bs v w after (sym e) h s))
  same_place (b ∷ bs) v w after (c ∷ cs) x y rest e h s k r f g =
      let more : bs ++ v ∷ w ∷ after ≡ cs ++ x ∷ y ∷ rest = cc in
      ap suc (same_place bs v w after cs x y rest more h.1 (pairs_tail b (bs ++ v ∷ []) s) k.1 (pairs_tail c (cs ++ x ∷ []) r) f g)

pub one_stop : OneStop
one_stop m top trace i j why other (bad_first v more e f) (bad_first w rest d g) = (refl, refl)
one_stop m top trace i j why other (bad_first v more e f) (bad_step before x y after d t g) = absurd (f (first_of m before x v (y ∷ after) more t (sym d ∙ e)))
one_stop m top trace i j why other (bad_first v more e f) (no_top t g) = absurd (f (first_in m trace more v e t))
one_stop m top trace i j why other (bad_step before x y after d t g) (bad_first v more e f) = absurd (f (first_of m before x v (y ∷ after) more t (sym d ∙ e)))
one_stop m top trace i j why other (bad_step before x y after d t g) (bad_step before' x' y' after' d' t' g') =
    (ap suc (same_place m before x y after before' x' y' after' (sym d ∙ d') t.moments t.steps t'.moments t'.steps g g'), refl)
one_stop m top trace i j why other (bad_step before x y after d t g) (no_top u f) = absurd (g (next_in m trace before x y after d u))
one_stop m top trace i j why other (no_top t g) (bad_first v more e f) = absurd (f (first_in m trace more v e t))
one_stop m top trace i j why other (no_top t g) (bad_step before x y after d u f) = absurd (f (next_in m trace before x y after d t))
one_stop m top trace i j why other (no_top t g) (no_top u f) = (refl, refl)

pub reaching_does_not : ReachingDoesNotStop
reaching_does_not m top trace i why (bad_first v more e f) r = f (first_in m trace more v e r.is_trace)
reaching_does_not m top trace i why (bad_step before x y after d t g) r = g (next_in m trace before x y after d r.is_trace)
reaching_does_not m top trace i why (no_top t g) r = g r.reaches
