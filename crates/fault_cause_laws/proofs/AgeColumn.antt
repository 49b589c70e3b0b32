-- The age of a cause in a trace tells a moment of the cause, or that there is none.
use Rattle.std.proofs.Common.{◌≡◌, ◌≢◌, ℕ, suc, ◌+◌, ◌<◌, ◌≤◌, Bool, true, false, cond, ◌||◌, List, [], ◌∷◌, ◌++◌, length, Option, Some, None, refl, ap, ◌∙◌, sym, subst, arith, ◌⊎◌, inl, inr}
use Rattle.std.specs.Prelude.{pos, negsuc, nat_eq, slice_get, IsTrue}
use Rattle.std.proofs.lemmas.Bool.Decides.{eqb_tells, leb_tells}
use Rattle.smv_language.specs.Language.{Value, symbol, Values, one, either, no_value, has, gives_choice, gives_applied, gives_either, Each, EachPair, in_domain, range, FlatModel, one_of, Holds}
use Rattle.smv_language.specs.Values.{truth, number}
use Rattle.smv_language.specs.declared.expr.Op.TheVariants as op
use Rattle.smv_flat_laws.specs.FlatTrace.{AreInDomains}
use Rattle.smv_flat_laws.proofs.Conditions.{MayBe}
use Rattle.fault_cause_laws.specs.Additions.{Addition, with_addition, beside, AreAdded}
use Rattle.fault_cause_laws.specs.Columns.{with_values, with_value}
use Rattle.fault_cause_laws.proofs.AddedReadings.{within_any, get_last}
use Rattle.fault_cause_laws.proofs.Columns.{EachFrom, one_added, IsForcedNext, Fits, forced_from, one_alone}
use Rattle.fault_cause_laws.specs.Causes.{CommonCause}
use Rattle.fault_cause_laws.specs.StagedModel.{age_name, added_variable, age_at_first, age_at_step}
use Rattle.fault_cause_laws.specs.StagedValues.{age_at, age_value}
use Rattle.fault_cause_laws.proofs.Formulas.{only_one, with_only}
use Rattle.fault_cause_laws.proofs.Ages.{IsMomentOf, next_age, age_next, age_before, age_at_moment, age_positive, age_small, decides_at_most}

-- a value of the age's type is a number from 0 on
an_age : (to : ℕ) (b : Value) → IsTrue (in_domain (range (pos 0) (pos (to + 2))) b) → (a : ℕ) × (b ≡ number (pos a))
an_age to (number (pos a)) h = (a, refl)
an_age to (number (negsuc a)) h = cc
an_age to (truth t) h = cc
an_age to (symbol x) h = cc

in_range : (to a : ℕ) → a ≤ to + 2 → IsTrue (in_domain (range (pos 0) (pos (to + 2))) (number (pos a)))
in_range to a h = rw ((decides_at_most 0 a).1 (omega arith), (decides_at_most a (to + 2)).1 h) refl

-- 0 or 1
abbrev zero_one : Values
zero_one = either (one (number (pos 0))) (either (one (number (pos 1))) no_value)

of_zero_one : (a : ℕ) → MayBe (Some zero_one) (number (pos a)) → (a ≡ 0) ⊎ (a ≡ 1)
of_zero_one a h = by_tests (nat_eq 0 a) (nat_eq 1 a) (eqb_tells 0 a) (eqb_tells 1 a) (subst (λ vs. IsTrue (has vs (number (pos a)))) (sym (inner zero_one h.0 h.1)) h.2)
  where
    inner : (x y : Values) → Some x ≡ Some y → x ≡ y
    inner x y e = cc

    by_tests : (p q : Bool) → ((p ≡ true) × (0 ≡ a)) ⊎ ((p ≡ false) × (0 ≢ a)) → ((q ≡ true) × (1 ≡ a)) ⊎ ((q ≡ false) × (1 ≢ a)) → IsTrue (p || (q || false)) → (a ≡ 0) ⊎ (a ≡ 1)
    by_tests p q (inl g) d h = inl (sym g.1)
    by_tests p q (inr g) (inl d) h = inr (sym d.1)
    by_tests p q (inr g) (inr d) h = absurd (refuted p q g.0 d.0 h)
      where
        refuted : (p q : Bool) → p ≡ false → q ≡ false → IsTrue (p || (q || false)) → ⊥
        refuted p q e g h = let x : IsTrue (false || (false || false)) = subst (λ r. IsTrue (false || (r || false))) g (subst (λ r. IsTrue (r || (q || false))) e h) in cc

to_zero_one : (a : ℕ) → (a ≡ 0) ⊎ (a ≡ 1) → MayBe (Some zero_one) (number (pos a))
to_zero_one a (inl e) = rw e (zero_one, refl, refl)
to_zero_one a (inr e) = rw e (zero_one, refl, refl)

module _ (m : FlatModel) (c : CommonCause) where
  abbrev n : ℕ
  n = length m.variables

  abbrev made : FlatModel
  made = with_addition m (one_added (added_variable (age_name c.name) (range (pos 0) (pos (c.to + 2)))) [] (age_at_first n ∷ []) [] (age_at_step c n ∷ []))

  -- valuations have as many values as the model has variables
  abbrev pub Sized : ℕ → List Value → Type 0
  Sized k v = length v ≡ n

  first_iff : (v : List Value) (b : Value) → length v ≡ n → (Holds made (v ++ b ∷ []) (v ++ b ∷ []) (age_at_first n) → MayBe (Some zero_one) b) × (MayBe (Some zero_one) b → Holds made (v ++ b ∷ []) (v ++ b ∷ []) (age_at_first n))
  first_iff v b e = within_any (one_of (slice_get (v ++ b ∷ []) n)) (Some zero_one) b (ap one_of (get_last v b n e))

  -- what the next age may be
  abbrev after : ℕ → Option Values
  after a = cond (nat_eq a 0) (Some zero_one) (Some (either (one (number (pos (next_age c.to a)))) no_value))

  chosen : (to a : ℕ) → gives_choice (Some (one (truth (nat_eq a (to + 2))))) (Some (one (number (pos (to + 2))))) (Some (one (number (pos (a + 1))))) ≡ Some (one (number (pos (next_age to a))))
  chosen to a = by_test (nat_eq a (to + 2))
    where
      by_test : (b : Bool) → gives_choice (Some (one (truth b))) (Some (one (number (pos (to + 2))))) (Some (one (number (pos (a + 1))))) ≡ Some (one (number (pos (cond b (to + 2) (a + 1)))))
      by_test true = refl
      by_test false = refl

  step_iff : (v w : List Value) (a : ℕ) (b : Value) → length v ≡ n → length w ≡ n →
      (Holds made (v ++ number (pos a) ∷ []) (w ++ b ∷ []) (age_at_step c n) → MayBe (after a) b) × (MayBe (after a) b → Holds made (v ++ number (pos a) ∷ []) (w ++ b ∷ []) (age_at_step c n))
  step_iff v w a b e e' =
      let there : slice_get (v ++ number (pos a) ∷ []) n ≡ Some (number (pos a)) = get_last v (number (pos a)) n e in
      subst (λ o. (Holds made (v ++ number (pos a) ∷ []) (w ++ b ∷ []) (age_at_step c n) → MayBe o b) × (MayBe o b → Holds made (v ++ number (pos a) ∷ []) (w ++ b ∷ []) (age_at_step c n))) (gives a (one_of (slice_get (v ++ number (pos a) ∷ []) n)) (ap one_of there))
      (within_any (one_of (slice_get (w ++ b ∷ []) n))
      (gives_choice (gives_applied op.Equal (one_of (slice_get (v ++ number (pos a) ∷ []) n)) (Some (one (number (pos 0))))) (Some zero_one)
      (gives_either (gives_choice (gives_applied op.Equal (one_of (slice_get (v ++ number (pos a) ∷ []) n)) (Some (one (number (pos (c.to + 2)))))) (Some (one (number (pos (c.to + 2)))))
      (gives_applied op.Plus (one_of (slice_get (v ++ number (pos a) ∷ []) n)) (Some (one (number (pos 1)))))) (Some no_value))) b (ap one_of (get_last w b n e')))
    where
      gives : (a : ℕ) (o : Option Values) → o ≡ Some (one (number (pos a))) →
          gives_choice (gives_applied op.Equal o (Some (one (number (pos 0))))) (Some zero_one)
          (gives_either (gives_choice (gives_applied op.Equal o (Some (one (number (pos (c.to + 2)))))) (Some (one (number (pos (c.to + 2))))) (gives_applied op.Plus o (Some (one (number (pos 1)))))) (Some no_value)) ≡ after a
      gives a o e = rw e (rw (chosen c.to a) (by_test (nat_eq a 0)))
        where
          by_test : (b : Bool) → gives_choice (Some (one (truth b))) (Some zero_one) (Some (either (one (number (pos (next_age c.to a)))) no_value)) ≡ cond b (Some zero_one) (Some (either (one (number (pos (next_age c.to a)))) no_value))
          by_test true = refl
          by_test false = refl

  -- after the moment the age goes on
  after_moment : (t k : ℕ) → t ≤ k → (b : Value) → (MayBe (after (age_at c (Some t) k)) b → b ≡ age_value c (Some t) (suc k)) × (b ≡ age_value c (Some t) (suc k) → MayBe (after (age_at c (Some t) k)) b)
  after_moment t k h b =
      by_test (age_at c (Some t) k) (nat_eq (age_at c (Some t) k) 0) (eqb_tells (age_at c (Some t) k) 0) (age_positive c t k h) (ap (λ a. number (pos a)) (age_next c t k h))
    where
      by_test : (a : ℕ) (e : Bool) → ((e ≡ true) × (a ≡ 0)) ⊎ ((e ≡ false) × (a ≢ 0)) → 0 < a → age_value c (Some t) (suc k) ≡ number (pos (next_age c.to a)) →
          (MayBe (cond e (Some zero_one) (Some (either (one (number (pos (next_age c.to a)))) no_value))) b → b ≡ age_value c (Some t) (suc k))
          × (b ≡ age_value c (Some t) (suc k) → MayBe (cond e (Some zero_one) (Some (either (one (number (pos (next_age c.to a)))) no_value))) b)
      by_test a true (inl g) positive is = absurd (omega arith)
      by_test a true (inr g) positive is = let bad : true ≡ false = g.0 in cc
      by_test a false test positive is = (
        (λ q. only_one (number (pos (next_age c.to a))) b q ∙ sym is),
        (λ q. subst (MayBe (Some (either (one (number (pos (next_age c.to a)))) no_value))) (sym (q ∙ is)) (with_only (number (pos (next_age c.to a))))),
      )

  -- what is known where the moment has come
  record Come (t k : ℕ) (v : List Value) : Type 0 where
    pub sized : length v ≡ n
    pub passed : t ≤ k

  goes_on : (t : ℕ) → IsForcedNext m (added_variable (age_name c.name) (range (pos 0) (pos (c.to + 2)))) [] (age_at_first n ∷ []) [] (age_at_step c n ∷ []) (Come t) (age_value c (Some t))
  goes_on t k v w b known knows dom f e = (after_moment t k known.passed b).0 ((step_iff v w (age_at c (Some t) k) b known.sized knows.sized).0 f.0)

  all_come : (t k : ℕ) (vs : List (List Value)) → t ≤ k → EachFrom Sized k vs → EachFrom (Come t) k vs
  all_come t k [] h e = tt
  all_come t k (v ∷ vs) h e = (record { sized = e.0; passed = h }, all_come t (suc k) vs (omega arith) e.1)

  -- a moment that is still to come, within so many
  abbrev IsToCome : ℕ → ℕ → Option ℕ → Type 0
  IsToCome k end None = Unit {0}
  IsToCome k end (Some t) = (k < t) × (t < end)

  zero_before : (k end : ℕ) (time : Option ℕ) → IsToCome k end time → age_value c time k ≡ number (pos 0)
  zero_before k end None h = refl
  zero_before k end (Some t) h = ap (λ a. number (pos a)) (age_before c t k h.0)

  one_at : (t : ℕ) → age_value c (Some t) t ≡ number (pos 1)
  one_at t = ap (λ a. number (pos a)) ((age_at_moment c t t).1 refl)

  abbrev Formulas : List (List Value) → List (List Value) → List Value → Type 0
  Formulas vs more u = EachPair (λ u w. Each (Holds made u w) (age_at_step c n ∷ [])) (u ∷ beside vs more)

  nothing : (us : List (List Value)) → Each (λ u. Each (Holds made u u) []) us
  nothing [] = tt
  nothing (u ∷ us) = (tt, nothing us)

  joined : (u v : List Value) (us vs : List (List Value)) → u ≡ v → us ≡ vs → (u ∷ us) ≡ (v ∷ vs)
  joined u v us vs e g = cc

  -- while the age is 0, the moment is found later or not at all
  record Found (k end : ℕ) (vs more : List (List Value)) : Type 0 where
    pub time : Option ℕ
    pub to_come : IsToCome k end time
    pub is : beside vs more ≡ with_values (age_value c time) (suc k) vs

  find : (k end : ℕ) (v : List Value) (vs more : List (List Value)) → end ≡ suc k + length vs → length more ≡ length vs → length v ≡ n → EachFrom Sized (suc k) vs →
      Each (AreInDomains (added_variable (age_name c.name) (range (pos 0) (pos (c.to + 2))) ∷ [])) more → Formulas vs more (v ++ number (pos 0) ∷ []) → Found k end vs more
  find k end v [] more en e s sized dom pairs = record { time = None; to_come = tt; is = refl }
  find k end v (w ∷ vs) [] en e s sized dom pairs = let bad : 0 ≡ suc (length vs) = e in cc
  find k end v (w ∷ vs) (b ∷ more) en e s sized dom pairs =
      let y : (y : Value) × (b ≡ y ∷ []) × IsTrue (in_domain (range (pos 0) (pos (c.to + 2))) y) =
      one_alone m (added_variable (age_name c.name) (range (pos 0) (pos (c.to + 2)))) [] (age_at_first n ∷ []) [] (age_at_step c n ∷ []) Sized (age_value c None) b dom.0 in
      let a : (a : ℕ) × (y.0 ≡ number (pos a)) = an_age c.to y.0 y.2 in
      let is_b : b ≡ number (pos a.0) ∷ [] = y.1 ∙ ap (λ z. z ∷ []) a.1 in
      let step : Holds made (v ++ number (pos 0) ∷ []) (w ++ number (pos a.0) ∷ []) (age_at_step c n) = subst (λ z. Holds made (v ++ number (pos 0) ∷ []) (w ++ z) (age_at_step c n)) is_b pairs.0.0 in
      let pairs' : Formulas vs more (w ++ number (pos a.0) ∷ []) = subst (λ z. Formulas vs more (w ++ z)) is_b pairs.1 in
      by_age a.0 is_b (of_zero_one a.0 ((step_iff v w 0 (number (pos a.0)) s sized.0).0 step)) pairs'
      (λ p. find (suc k) end w vs more (omega arith) (less (length more) (length vs) e) sized.0 sized.1 dom.1 p)
    where
      less : (j k : ℕ) → suc j ≡ suc k → j ≡ k
      less j k e = cc

      by_age : (a : ℕ) → b ≡ number (pos a) ∷ [] → (a ≡ 0) ⊎ (a ≡ 1) → Formulas vs more (w ++ number (pos a) ∷ []) → (Formulas vs more (w ++ number (pos 0) ∷ []) → Found (suc k) end vs more) → Found k end (w ∷ vs) (b ∷ more)
      by_age a is (inl z) pairs go =
          let rest : Found (suc k) end vs more = go (subst (λ x. Formulas vs more (w ++ number (pos x) ∷ [])) z pairs) in
          record {
            time = rest.time;
            to_come = later rest.time rest.to_come;
            is = joined (w ++ b) (w ++ age_value c rest.time (suc k) ∷ []) (beside vs more) (with_values (age_value c rest.time) (suc (suc k)) vs)
                (ap (λ x. w ++ x) (is ∙ ap (λ x. number (pos x) ∷ []) z ∙ ap (λ x. x ∷ []) (sym (zero_before (suc k) end rest.time rest.to_come)))) rest.is;
          }
        where
          later : (time : Option ℕ) → IsToCome (suc k) end time → IsToCome k end time
          later None h = tt
          later (Some t) h = (omega arith, h.1)
      by_age a is (inr o) pairs go =
          let here : (w ++ b) ≡ (w ++ age_value c (Some (suc k)) (suc k) ∷ []) = ap (λ x. w ++ x) (is ∙ ap (λ x. number (pos x) ∷ []) o ∙ ap (λ x. x ∷ []) (sym (one_at (suc k)))) in
          record {
            time = Some (suc k);
            to_come = (omega arith, within (length vs) en);
            is = joined (w ++ b) (w ++ age_value c (Some (suc k)) (suc k) ∷ []) (beside vs more) (with_values (age_value c (Some (suc k))) (suc (suc k)) vs) here
                (forced_from m (added_variable (age_name c.name) (range (pos 0) (pos (c.to + 2)))) [] (age_at_first n ∷ []) [] (age_at_step c n ∷ []) (Come (suc k)) (age_value c (Some (suc k)))
                (goes_on (suc k)) (suc k) w vs more (less (length more) (length vs) e) (record { sized = sized.0; passed = omega arith }) (all_come (suc k) (suc (suc k)) vs (omega arith) sized.1) dom.1 (nothing (beside vs more))
                (subst (λ x. Formulas vs more (w ++ x ∷ [])) (ap (λ x. number (pos x)) o ∙ sym (one_at (suc k))) pairs));
          }
        where
          within : (l : ℕ) → end ≡ suc k + suc l → suc k < end
          within l e = omega arith

  abbrev pub age_added : Addition
  age_added = one_added (added_variable (age_name c.name) (range (pos 0) (pos (c.to + 2)))) [] (age_at_first n ∷ []) [] (age_at_step c n ∷ [])

  pub age_tells : (trace more : List (List Value)) → EachFrom Sized 0 trace → AreAdded m age_added trace more →
      (time : Option ℕ) × IsMomentOf (length trace) time × (beside trace more ≡ with_value (age_value c time) trace)
  age_tells [] more sized added = (None, tt, refl)
  age_tells (v ∷ vs) [] sized added = let bad : 0 ≡ suc (length vs) = added.one_each in cc
  age_tells (v ∷ vs) (b ∷ more) sized added =
      let y : (y : Value) × (b ≡ y ∷ []) × IsTrue (in_domain (range (pos 0) (pos (c.to + 2))) y) =
      one_alone m (added_variable (age_name c.name) (range (pos 0) (pos (c.to + 2)))) [] (age_at_first n ∷ []) [] (age_at_step c n ∷ []) Sized (age_value c None) b added.domains.0 in
      let a : (a : ℕ) × (y.0 ≡ number (pos a)) = an_age c.to y.0 y.2 in
      let is_b : b ≡ number (pos a.0) ∷ [] = y.1 ∙ ap (λ z. z ∷ []) a.1 in
      let first : Holds made (v ++ number (pos a.0) ∷ []) (v ++ number (pos a.0) ∷ []) (age_at_first n) = subst (λ z. Holds made (v ++ z) (v ++ z) (age_at_first n)) is_b added.first.0 in
      by_age a.0 is_b (of_zero_one a.0 ((first_iff v (number (pos a.0)) sized.0).0 first)) (subst (λ z. Formulas vs more (v ++ z)) is_b added.steps)
    where
      less : (j k : ℕ) → suc j ≡ suc k → j ≡ k
      less j k e = cc

      by_age : (a : ℕ) → b ≡ number (pos a) ∷ [] → (a ≡ 0) ⊎ (a ≡ 1) → Formulas vs more (v ++ number (pos a) ∷ []) →
          (time : Option ℕ) × IsMomentOf (suc (length vs)) time × (beside (v ∷ vs) (b ∷ more) ≡ with_value (age_value c time) (v ∷ vs))
      by_age a is (inl z) pairs =
          let rest : Found 0 (suc (length vs)) vs more =
          find 0 (suc (length vs)) v vs more (omega arith) (less (length more) (length vs) added.one_each) sized.0 sized.1 added.domains.1 (subst (λ x. Formulas vs more (v ++ number (pos x) ∷ [])) z pairs) in (
            rest.time,
            moment rest.time rest.to_come,
            joined (v ++ b) (v ++ age_value c rest.time 0 ∷ []) (beside vs more) (with_values (age_value c rest.time) 1 vs)
                (ap (λ x. v ++ x) (is ∙ ap (λ x. number (pos x) ∷ []) z ∙ ap (λ x. x ∷ []) (sym (zero_before 0 (suc (length vs)) rest.time rest.to_come)))) rest.is,
          )
        where
          moment : (time : Option ℕ) → IsToCome 0 (suc (length vs)) time → IsMomentOf (suc (length vs)) time
          moment None h = tt
          moment (Some t) h = h.1
      by_age a is (inr o) pairs =
          let here : (v ++ b) ≡ (v ++ age_value c (Some 0) 0 ∷ []) = ap (λ x. v ++ x) (is ∙ ap (λ x. number (pos x) ∷ []) o ∙ ap (λ x. x ∷ []) (sym (one_at 0))) in (
            Some 0,
            omega arith,
            joined (v ++ b) (v ++ age_value c (Some 0) 0 ∷ []) (beside vs more) (with_values (age_value c (Some 0)) 1 vs) here
                (forced_from m (added_variable (age_name c.name) (range (pos 0) (pos (c.to + 2)))) [] (age_at_first n ∷ []) [] (age_at_step c n ∷ []) (Come 0) (age_value c (Some 0))
                (goes_on 0) 0 v vs more (less (length more) (length vs) added.one_each) (record { sized = sized.0; passed = omega arith }) (all_come 0 1 vs (omega arith) sized.1) added.domains.1 (nothing (beside vs more))
                (subst (λ x. Formulas vs more (v ++ x ∷ [])) (ap (λ x. number (pos x)) o ∙ sym (one_at 0)) pairs)),
          )

  -- and each moment has such ages
  step_met : (time : Option ℕ) (k : ℕ) → MayBe (after (age_at c time k)) (age_value c time (suc k))
  step_met None k = to_zero_one 0 (inl refl)
  step_met (Some t) k = elim (leb_tells t k) [ inl h ↦ (after_moment t k h.1 (age_value c (Some t) (suc k))).1 refl | inr h ↦ early h.1 ]
    where
      early : k < t → MayBe (after (age_at c (Some t) k)) (age_value c (Some t) (suc k))
      early h = subst (λ a. MayBe (after a) (age_value c (Some t) (suc k))) (sym (age_before c t k h)) (elim (eqb_tells t (suc k)) [ inl e ↦ now_it e.1 | inr e ↦ not_yet_it e.1 ])
        where
          now_it : t ≡ suc k → MayBe (Some zero_one) (age_value c (Some t) (suc k))
          now_it e = to_zero_one (age_at c (Some t) (suc k)) (inr ((age_at_moment c t (suc k)).1 e))

          not_yet_it : t ≢ suc k → MayBe (Some zero_one) (age_value c (Some t) (suc k))
          not_yet_it e = to_zero_one (age_at c (Some t) (suc k)) (inl (age_before c t (suc k) (omega arith)))

  first_met : (time : Option ℕ) → MayBe (Some zero_one) (age_value c time 0)
  first_met None = to_zero_one 0 (inl refl)
  first_met (Some t) = elim (eqb_tells t 0) [ inl e ↦ to_zero_one (age_at c (Some t) 0) (inr ((age_at_moment c t 0).1 e.1)) | inr e ↦ to_zero_one (age_at c (Some t) 0) (inl (age_before c t 0 (let x : t ≢ 0 = e.1 in omega arith))) ]

  pub age_fits : (time : Option ℕ) → Fits m (added_variable (age_name c.name) (range (pos 0) (pos (c.to + 2)))) [] (age_at_first n ∷ []) [] (age_at_step c n ∷ []) Sized (age_value c time)
  age_fits time =
      record {
        domain = λ k v e. in_range c.to (age_at c time k) (age_small c time k);
        first = λ v e. ((first_iff v (age_value c time 0) e).1 (first_met time), tt);
        each = λ k v e. tt;
        next = λ k v w e e'. ((step_iff v w (age_at c time k) (age_value c time (suc k)) e e').1 (step_met time k), tt);
      }
