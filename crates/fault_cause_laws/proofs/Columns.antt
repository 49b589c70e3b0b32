-- One added variable whose values the added formulas determine.
use Rattle.std.proofs.Common.{◌≡◌, ℕ, suc, List, [], ◌∷◌, ◌++◌, length, refl, ap, ◌∙◌, sym, subst}
use Rattle.std.specs.Prelude.{IsTrue}
use Rattle.smv_language.specs.Language.{Text, Value, Each, EachPair, AtFirst, in_domain, FlatVariable, FlatFormula, FlatModel, Holds}
use Rattle.smv_flat_laws.specs.FlatTrace.{AreInDomains, IsFlatTrace}
use Rattle.fault_cause_laws.specs.Additions.{Addition, with_addition, KnowsNames, beside, AreAdded}
use Rattle.fault_cause_laws.specs.Columns.{with_values, with_value}
use Rattle.fault_cause_laws.proofs.Traces.{put_together}

-- a fact of each member of a list with its number, where the first has this one
abbrev pub EachFrom : {A : Type 0} → (ℕ → A → Type 0) → ℕ → List A → Type 0
EachFrom K k [] = Unit {0}
EachFrom K k (v ∷ vs) = K k v × EachFrom K (suc k) vs

pub each_from_more : {A : Type 0} (K L : ℕ → A → Type 0) (k : ℕ) (vs : List A) → ((j : ℕ) (v : A) → K j v → L j v) → EachFrom K k vs → EachFrom L k vs
each_from_more K L k [] f h = tt
each_from_more K L k (v ∷ vs) f h = (f k v h.0, each_from_more K L (suc k) vs f h.1)

-- what is known of valuations with one more value
pub grown : (K L : ℕ → List Value → Type 0) (value : ℕ → Value) (k : ℕ) (vs : List (List Value)) → ((j : ℕ) (v : List Value) → K j v → L j (v ++ value j ∷ [])) →
    EachFrom K k vs → EachFrom L k (with_values value k vs)
grown K L value k [] f h = tt
grown K L value k (v ∷ vs) f h = (f k v h.0, grown K L value (suc k) vs f h.1)

pub with_values_length : (value : ℕ → Value) (k : ℕ) (vs : List (List Value)) → length (with_values value k vs) ≡ length vs
with_values_length value k [] = refl
with_values_length value k (v ∷ vs) = ap suc (with_values_length value (suc k) vs)

-- what is added
abbrev pub one_added : FlatVariable → List Text → List FlatFormula → List FlatFormula → List FlatFormula → Addition
one_added x symbols firsts eaches steps = record { variables = x ∷ []; symbols = symbols; at_first = firsts; at_each = eaches; at_step = steps }

module _ (m : FlatModel) (x : FlatVariable) (symbols : List Text) (firsts eaches steps : List FlatFormula) (K : ℕ → List Value → Type 0) (value : ℕ → Value) where
  abbrev made : FlatModel
  made = with_addition m (one_added x symbols firsts eaches steps)

  abbrev own : Addition
  own = one_added x symbols firsts eaches steps

  -- the formulas leave only these values
  pub record IsForced : Type 0 where
    pub first : (v : List Value) (b : Value) → K 0 v → IsTrue (in_domain x.declared b) → Each (Holds made (v ++ b ∷ []) (v ++ b ∷ [])) firsts → Each (Holds made (v ++ b ∷ []) (v ++ b ∷ [])) eaches → b ≡ value 0
    pub next : (k : ℕ) (v w : List Value) (b : Value) → K k v → K (suc k) w → IsTrue (in_domain x.declared b) →
        Each (Holds made (v ++ value k ∷ []) (w ++ b ∷ [])) steps → Each (Holds made (w ++ b ∷ []) (w ++ b ∷ [])) eaches → b ≡ value (suc k)

  -- these values meet the formulas
  pub record Fits : Type 0 where
    pub domain : (k : ℕ) (v : List Value) → K k v → IsTrue (in_domain x.declared (value k))
    pub first : (v : List Value) → K 0 v → Each (Holds made (v ++ value 0 ∷ []) (v ++ value 0 ∷ [])) firsts
    pub each : (k : ℕ) (v : List Value) → K k v → Each (Holds made (v ++ value k ∷ []) (v ++ value k ∷ [])) eaches
    pub next : (k : ℕ) (v w : List Value) → K k v → K (suc k) w → Each (Holds made (v ++ value k ∷ []) (w ++ value (suc k) ∷ [])) steps

  pub one_alone : (b : List Value) → AreInDomains (x ∷ []) b → (y : Value) × (b ≡ y ∷ []) × IsTrue (in_domain x.declared y)
  one_alone [] h = absurd h
  one_alone (y ∷ []) h = (y, refl, h.0)
  one_alone (y ∷ z ∷ ys) h = absurd h.1

  joined : (u v : List Value) (us vs : List (List Value)) → u ≡ v → us ≡ vs → (u ∷ us) ≡ (v ∷ vs)
  joined u v us vs e g = cc

  -- the formulas leave only this value after one
  abbrev pub IsForcedNext : Type 0
  IsForcedNext =
      (k : ℕ) (v w : List Value) (b : Value) → K k v → K (suc k) w → IsTrue (in_domain x.declared b) →
      Each (Holds made (v ++ value k ∷ []) (w ++ b ∷ [])) steps → Each (Holds made (w ++ b ∷ []) (w ++ b ∷ [])) eaches → b ≡ value (suc k)

  -- after a valuation with its value
  pub forced_from : IsForcedNext → (k : ℕ) (v : List Value) (vs more : List (List Value)) → length more ≡ length vs → K k v → EachFrom K (suc k) vs → Each (AreInDomains (x ∷ [])) more →
      Each (λ u. Each (Holds made u u) eaches) (beside vs more) → EachPair (λ u w. Each (Holds made u w) steps) ((v ++ value k ∷ []) ∷ beside vs more) → beside vs more ≡ with_values value (suc k) vs
  forced_from is k v [] more e known knowns dom moments pairs = refl
  forced_from is k v (w ∷ vs) [] e known knowns dom moments pairs = let bad : 0 ≡ suc (length vs) = e in cc
  forced_from is k v (w ∷ vs) (b ∷ more) e known knowns dom moments pairs =
      let y : (y : Value) × (b ≡ y ∷ []) × IsTrue (in_domain x.declared y) = one_alone b dom.0 in
      let step : Each (Holds made (v ++ value k ∷ []) (w ++ y.0 ∷ [])) steps = subst (λ z. Each (Holds made (v ++ value k ∷ []) (w ++ z)) steps) y.1 pairs.0 in
      let moment : Each (Holds made (w ++ y.0 ∷ []) (w ++ y.0 ∷ [])) eaches = subst (λ z. Each (Holds made (w ++ z) (w ++ z)) eaches) y.1 moments.0 in
      let same : y.0 ≡ value (suc k) = is k v w y.0 known knowns.0 y.2 step moment in
      let whole : (w ++ b) ≡ (w ++ value (suc k) ∷ []) = ap (λ z. w ++ z) (y.1 ∙ ap (λ z. z ∷ []) same) in
      joined (w ++ b) (w ++ value (suc k) ∷ []) (beside vs more) (with_values value (suc (suc k)) vs) whole
      (forced_from is (suc k) w vs more (less (length more) (length vs) e) knowns.0 knowns.1 dom.1 moments.1 (subst (λ u. EachPair (λ u w. Each (Holds made u w) steps) (u ∷ beside vs more)) whole pairs.1))
    where
      less : (j k : ℕ) → suc j ≡ suc k → j ≡ k
      less j k e = cc

  pub forced : IsForced → (trace more : List (List Value)) → EachFrom K 0 trace → AreAdded m own trace more → beside trace more ≡ with_value value trace
  forced is [] more knowns added = refl
  forced is (v ∷ vs) [] knowns added = let bad : 0 ≡ suc (length vs) = added.one_each in cc
  forced is (v ∷ vs) (b ∷ more) knowns added =
      let y : (y : Value) × (b ≡ y ∷ []) × IsTrue (in_domain x.declared y) = one_alone b added.domains.0 in
      let first : Each (Holds made (v ++ y.0 ∷ []) (v ++ y.0 ∷ [])) firsts = subst (λ z. Each (Holds made (v ++ z) (v ++ z)) firsts) y.1 added.first in
      let moment : Each (Holds made (v ++ y.0 ∷ []) (v ++ y.0 ∷ [])) eaches = subst (λ z. Each (Holds made (v ++ z) (v ++ z)) eaches) y.1 added.moments.0 in
      let same : y.0 ≡ value 0 = is.first v y.0 knowns.0 y.2 first moment in
      let whole : (v ++ b) ≡ (v ++ value 0 ∷ []) = ap (λ z. v ++ z) (y.1 ∙ ap (λ z. z ∷ []) same) in
      joined (v ++ b) (v ++ value 0 ∷ []) (beside vs more) (with_values value 1 vs) whole
      (forced_from is.next 0 v vs more (less (length more) (length vs) added.one_each) knowns.0 knowns.1 added.domains.1 added.moments.1
      (subst (λ u. EachPair (λ u w. Each (Holds made u w) steps) (u ∷ beside vs more)) whole added.steps))
    where
      less : (j k : ℕ) → suc j ≡ suc k → j ≡ k
      less j k e = cc

  -- the values, one by one
  singles : ℕ → List (List Value) → List (List Value)
  singles k [] = []
  singles k (v ∷ vs) = (value k ∷ []) ∷ singles (suc k) vs

  singles_length : (k : ℕ) (vs : List (List Value)) → length (singles k vs) ≡ length vs
  unfolding singles
  singles_length k [] = refl
  singles_length k (v ∷ vs) = ap suc (singles_length (suc k) vs)

  beside_singles : (k : ℕ) (vs : List (List Value)) → beside vs (singles k vs) ≡ with_values value k vs
  unfolding singles
  beside_singles k [] = refl
  beside_singles k (v ∷ vs) = ap (λ us. (v ++ value k ∷ []) ∷ us) (beside_singles (suc k) vs)

  singles_domains : Fits → (k : ℕ) (vs : List (List Value)) → EachFrom K k vs → Each (AreInDomains (x ∷ [])) (singles k vs)
  unfolding singles
  singles_domains fits k [] h = tt
  singles_domains fits k (v ∷ vs) h = ((fits.domain k v h.0, tt), singles_domains fits (suc k) vs h.1)

  fit_moments : Fits → (k : ℕ) (vs : List (List Value)) → EachFrom K k vs → Each (λ u. Each (Holds made u u) eaches) (with_values value k vs)
  fit_moments fits k [] h = tt
  fit_moments fits k (v ∷ vs) h = (fits.each k v h.0, fit_moments fits (suc k) vs h.1)

  fit_steps : Fits → (k : ℕ) (vs : List (List Value)) → EachFrom K k vs → EachPair (λ u w. Each (Holds made u w) steps) (with_values value k vs)
  fit_steps fits k [] h = tt
  fit_steps fits k (v ∷ []) h = tt
  fit_steps fits k (v ∷ w ∷ vs) h = (fits.next k v w h.0 h.1.0, fit_steps fits (suc k) (w ∷ vs) h.1)

  fit_first : Fits → (vs : List (List Value)) → EachFrom K 0 vs → AtFirst (λ v. Each (Holds m v v) m.at_first) vs → AtFirst (λ u. Each (Holds made u u) firsts) (with_values value 0 vs)
  fit_first fits [] h f = absurd f
  fit_first fits (v ∷ vs) h f = fits.first v h.0

  pub fitting : KnowsNames m → Fits → (trace : List (List Value)) → EachFrom K 0 trace → IsFlatTrace m trace → IsFlatTrace made (with_value value trace)
  fitting knows fits trace h is =
      let beside_is : beside trace (singles 0 trace) ≡ with_value value trace = beside_singles 0 trace in
      subst (IsFlatTrace made) beside_is (put_together m own knows trace (singles 0 trace) is (record {
        one_each = singles_length 0 trace;
        domains = singles_domains fits 0 trace h;
        first = subst (λ us. AtFirst (λ u. Each (Holds made u u) firsts) us) (sym beside_is) (fit_first fits trace h is.first);
        moments = subst (λ us. Each (λ u. Each (Holds made u u) eaches) us) (sym beside_is) (fit_moments fits 0 trace h);
        steps = subst (λ us. EachPair (λ u w. Each (Holds made u w) steps) us) (sym beside_is) (fit_steps fits 0 trace h);
      }))
