-- The traces of a model with an addition.
use Rattle.std.proofs.Common.{◌≡◌, ℕ, suc, List, [], ◌∷◌, ◌++◌, length, refl, ap, sym, subst}
use Rattle.std.specs.Prelude.{◌↔◌}
use Rattle.smv_language.specs.Language.{Value, Each, EachPair, AtFirst, FlatModel, Holds}
use Rattle.smv_flat_laws.specs.FlatTrace.{AreInDomains, IsFlatMoment, IsFlatStep, IsFlatTrace}
use Rattle.smv_flat_laws.proofs.Reaches.{each_left, each_right}
use Rattle.smv_flat_laws.proofs.Conditions.{each_join}
use Rattle.fault_cause_laws.specs.Additions.{Addition, with_addition, KnowsNames, beside, AreAdded}
use Rattle.fault_cause_laws.proofs.Longer.{hold_longer, Parts, parts, whole}
use Rattle.smv_flat_laws.proofs.HistoryTraces.{domains_length}

module _ (m : FlatModel) (a : Addition) (knows : KnowsNames m) where
  abbrev made : FlatModel
  made = with_addition m a

  -- what is asked of a moment and of a step, in two parts
  moment_of : (v more : List Value) → AreInDomains m.variables v → AreInDomains a.variables more →
      (IsFlatMoment made (v ++ more) ↔ (IsFlatMoment m v × Each (Holds made (v ++ more) (v ++ more)) a.at_each))
  moment_of v more dom dom' =
      let e : length v ≡ length m.variables = domains_length m.variables v dom in
      let same : Each (Holds made (v ++ more) (v ++ more)) m.at_each ↔ Each (Holds m v v) m.at_each = hold_longer m a knows v v more more e e m.at_each knows.at_each in (
        (λ h. (
          record { domains = dom; holds = same.0 (each_left (Holds made (v ++ more) (v ++ more)) m.at_each a.at_each h.holds) },
          each_right (Holds made (v ++ more) (v ++ more)) m.at_each a.at_each h.holds,
        )),
        (λ h. record {
          domains = whole m.variables a.variables v more dom dom';
          holds = each_join (Holds made (v ++ more) (v ++ more)) m.at_each a.at_each (same.1 h.0.holds) h.1;
        }),
      )

  first_of : (v more : List Value) → AreInDomains m.variables v →
      (Each (Holds made (v ++ more) (v ++ more)) made.at_first ↔ (Each (Holds m v v) m.at_first × Each (Holds made (v ++ more) (v ++ more)) a.at_first))
  first_of v more dom =
      let e : length v ≡ length m.variables = domains_length m.variables v dom in
      let same : Each (Holds made (v ++ more) (v ++ more)) m.at_first ↔ Each (Holds m v v) m.at_first = hold_longer m a knows v v more more e e m.at_first knows.at_first in (
        (λ h. (same.0 (each_left (Holds made (v ++ more) (v ++ more)) m.at_first a.at_first h), each_right (Holds made (v ++ more) (v ++ more)) m.at_first a.at_first h)),
        (λ h. each_join (Holds made (v ++ more) (v ++ more)) m.at_first a.at_first (same.1 h.0) h.1),
      )

  step_of : (v w bs cs : List Value) → AreInDomains m.variables v → AreInDomains m.variables w →
      (IsFlatStep made (v ++ bs) (w ++ cs) ↔ (IsFlatStep m v w × Each (Holds made (v ++ bs) (w ++ cs)) a.at_step))
  step_of v w bs cs dom dom' =
      let same : Each (Holds made (v ++ bs) (w ++ cs)) m.at_step ↔ Each (Holds m v w) m.at_step =
      hold_longer m a knows v w bs cs (domains_length m.variables v dom) (domains_length m.variables w dom') m.at_step knows.at_step in (
        (λ h. (same.0 (each_left (Holds made (v ++ bs) (w ++ cs)) m.at_step a.at_step h), each_right (Holds made (v ++ bs) (w ++ cs)) m.at_step a.at_step h)),
        (λ h. each_join (Holds made (v ++ bs) (w ++ cs)) m.at_step a.at_step (same.1 h.0) h.1),
      )

  -- valuations taken apart
  pub record Apart (us : List (List Value)) : Type 0 where
    pub trace : List (List Value)
    pub more : List (List Value)
    pub is : us ≡ beside trace more
    pub one_each : length more ≡ length trace
    pub own : Each (AreInDomains m.variables) trace
    pub others : Each (AreInDomains a.variables) more

  joined : (u v : List Value) (us vs : List (List Value)) → u ≡ v → us ≡ vs → (u ∷ us) ≡ (v ∷ vs)
  joined u v us vs e g = cc

  apart : (us : List (List Value)) → Each (IsFlatMoment made) us → Apart us
  apart [] h = record { trace = []; more = []; is = refl; one_each = refl; own = tt; others = tt }
  apart (u ∷ us) h =
      let here : Parts m.variables a.variables u = parts m.variables a.variables u h.0.domains in
      let rest : Apart us = apart us h.1 in
      record {
        trace = here.own ∷ rest.trace;
        more = here.more ∷ rest.more;
        is = joined u (here.own ++ here.more) us (beside rest.trace rest.more) here.is rest.is;
        one_each = ap suc rest.one_each;
        own = (here.domains, rest.own);
        others = (here.others, rest.others);
      }

  moments_of : (trace more : List (List Value)) → length more ≡ length trace → Each (AreInDomains m.variables) trace → Each (AreInDomains a.variables) more →
      (Each (IsFlatMoment made) (beside trace more) ↔ (Each (IsFlatMoment m) trace × Each (λ v. Each (Holds made v v) a.at_each) (beside trace more)))
  moments_of [] more e dom dom' = ((λ h. (tt, tt)), (λ h. tt))
  moments_of (v ∷ vs) [] e dom dom' = let bad : 0 ≡ suc (length vs) = e in cc
  moments_of (v ∷ vs) (x ∷ xs) e dom dom' =
      let here : IsFlatMoment made (v ++ x) ↔ (IsFlatMoment m v × Each (Holds made (v ++ x) (v ++ x)) a.at_each) = moment_of v x dom.0 dom'.0 in
      let rest : Each (IsFlatMoment made) (beside vs xs) ↔ (Each (IsFlatMoment m) vs × Each (λ v. Each (Holds made v v) a.at_each) (beside vs xs)) =
      moments_of vs xs (less (length xs) (length vs) e) dom.1 dom'.1 in (
        (λ h. (((here.0 h.0).0, (rest.0 h.1).0), ((here.0 h.0).1, (rest.0 h.1).1))),
        (λ h. (here.1 (h.0.0, h.1.0), rest.1 (h.0.1, h.1.1))),
      )
    where
      less : (j k : ℕ) → suc j ≡ suc k → j ≡ k
      less j k e = cc

  steps_of : (trace more : List (List Value)) → length more ≡ length trace → Each (AreInDomains m.variables) trace →
      (EachPair (IsFlatStep made) (beside trace more) ↔ (EachPair (IsFlatStep m) trace × EachPair (λ v w. Each (Holds made v w) a.at_step) (beside trace more)))
  steps_of [] more e dom = ((λ h. (tt, tt)), (λ h. tt))
  steps_of (v ∷ vs) [] e dom = let bad : 0 ≡ suc (length vs) = e in cc
  steps_of (v ∷ []) (x ∷ []) e dom = ((λ h. (tt, tt)), (λ h. tt))
  steps_of (v ∷ []) (x ∷ y ∷ xs) e dom = let bad : suc (suc (length xs)) ≡ 1 = e in cc
  steps_of (v ∷ w ∷ vs) (x ∷ []) e dom = let bad : 1 ≡ suc (suc (length vs)) = e in cc
  steps_of (v ∷ w ∷ vs) (x ∷ y ∷ xs) e dom =
      let here : IsFlatStep made (v ++ x) (w ++ y) ↔ (IsFlatStep m v w × Each (Holds made (v ++ x) (w ++ y)) a.at_step) = step_of v w x y dom.0 dom.1.0 in
      let rest : EachPair (IsFlatStep made) (beside (w ∷ vs) (y ∷ xs)) ↔ (EachPair (IsFlatStep m) (w ∷ vs) × EachPair (λ v w. Each (Holds made v w) a.at_step) (beside (w ∷ vs) (y ∷ xs))) =
      steps_of (w ∷ vs) (y ∷ xs) (less (suc (length xs)) (suc (length vs)) e) dom.1 in (
        (λ h. (((here.0 h.0).0, (rest.0 h.1).0), ((here.0 h.0).1, (rest.0 h.1).1))),
        (λ h. (here.1 (h.0.0, h.1.0), rest.1 (h.0.1, h.1.1))),
      )
    where
      less : (j k : ℕ) → suc j ≡ suc k → j ≡ k
      less j k e = cc

  firsts_of : (trace more : List (List Value)) → length more ≡ length trace → Each (AreInDomains m.variables) trace →
      (AtFirst (λ v. Each (Holds made v v) made.at_first) (beside trace more)
      ↔ (AtFirst (λ v. Each (Holds m v v) m.at_first) trace × AtFirst (λ v. Each (Holds made v v) a.at_first) (beside trace more)))
  firsts_of [] more e dom = ((λ h. absurd h), (λ h. absurd h.0))
  firsts_of (v ∷ vs) [] e dom = let bad : 0 ≡ suc (length vs) = e in cc
  firsts_of (v ∷ vs) (x ∷ xs) e dom = first_of v x dom.0

  all_domains : (trace : List (List Value)) → Each (IsFlatMoment m) trace → Each (AreInDomains m.variables) trace
  all_domains [] h = tt
  all_domains (v ∷ vs) h = (h.0.domains, all_domains vs h.1)

  -- the traces of the longer model, taken apart and put together
  pub taken_apart : (long : List (List Value)) → IsFlatTrace made long →
      (trace : List (List Value)) × (more : List (List Value)) × IsFlatTrace m trace × AreAdded m a trace more × (long ≡ beside trace more)
  taken_apart long h =
      let is : Apart long = apart long h.moments in
      let h' : IsFlatTrace made (beside is.trace is.more) = subst (IsFlatTrace made) is.is h in
      let first = (firsts_of is.trace is.more is.one_each is.own).0 h'.first in
      let moments = (moments_of is.trace is.more is.one_each is.own is.others).0 h'.moments in
      let steps = (steps_of is.trace is.more is.one_each is.own).0 h'.steps in (
        is.trace,
        is.more,
        record { first = first.0; moments = moments.0; steps = steps.0 },
        record { one_each = is.one_each; domains = is.others; first = first.1; moments = moments.1; steps = steps.1 },
        is.is,
      )

  pub put_together : (trace more : List (List Value)) → IsFlatTrace m trace → AreAdded m a trace more → IsFlatTrace made (beside trace more)
  put_together trace more h added =
      let own : Each (AreInDomains m.variables) trace = all_domains trace h.moments in
      record {
        first = (firsts_of trace more added.one_each own).1 (h.first, added.first);
        moments = (moments_of trace more added.one_each own added.domains).1 (h.moments, added.moments);
        steps = (steps_of trace more added.one_each own).1 (h.steps, added.steps);
      }

  pub additions_exactly : (long : List (List Value)) →
      (IsFlatTrace made long ↔ ((trace : List (List Value)) × (more : List (List Value)) × IsFlatTrace m trace × AreAdded m a trace more × (long ≡ beside trace more)))
  additions_exactly long = (taken_apart long, λ h. subst (IsFlatTrace made) (sym h.4) (put_together h.0 h.1 h.2 h.3))
