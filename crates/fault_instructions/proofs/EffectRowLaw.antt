-- The law of effects.
use Rattle.std.proofs.Common.{◌≡◌, ◌≢◌, ◌↔◌, Bool, true, false, Option, Some, None, refl, sym, ◌∙◌, ap, subst}
use Rattle.std.specs.Prelude.{ℤ, int_lt, ◌-ℤ◌, IsTrue, codes, ◌||◌, ◌&&◌, if◌then◌else◌}
use Rattle.smv_language.specs.Language.{Text, Path, Formula, DeclaredTree, boolean, range, members, instance, Value, symbol, Values, one, has, same_value, opposite, Leaves, evaluate, Each, in_domain}
use Rattle.smv_language.specs.Values.{truth, number}
use Rattle.smv_language.proofs.ValueLaws.{same_text_refl}
use Rattle.fault_instructions.specs.declared.effects.EffectRule.{EffectRule}
use Rattle.fault_instructions.specs.declared.effects.EffectRule.TheVariants.{NotOwn, AsBefore, AsEntered, Falling}
use Rattle.fault_instructions.specs.Instructions.{EffectTree, SliceTree}
use Rattle.fault_instructions.specs.EffectForms.{Branch, the_formula}
use Rattle.fault_instructions.specs.AddedNames.{ModeState}
use Rattle.fault_instructions.specs.Effects.{branch_of, rule_of, Allows, IsRamp}
use Rattle.fault_instructions.specs.Templates.{branch, branch_tree, rule_trees, first_trees, erroneous_rule, frozen_rule, pick_rule, ramp_rule, frozen_first, ramp_first, rules, first_rules}
use Rattle.fault_instructions.specs.Types.{IsKnown, IsUniform, IsBoolean, IsRange}
use Rattle.fault_instructions.specs.EffectLaw.{SliceLeaves, stands_at, MayStand, Gives, RuleHolds, FirstRuleHolds, EffectLaw, FirstEffectLaw}
use Rattle.fault_instructions.proofs.Equivalence.{iff_refl, iff_both}
use Rattle.fault_instructions.proofs.EffectRows.{BranchAllows, RuleNow, RuleStep, BranchAsks, RuleAsks, row_law, branch_gives, erroneous_value, frozen_value, pick_value, ramp_value, frozen_first_value, ramp_first_value, equal_value, differs_value}
use Rattle.smv_language.proofs.BoolLaws.{iff_trans, iff_sym}

-- one value decides
pub gives_value : (now next : Leaves Path) (e : Formula) (vs : Values) (x : Value) → evaluate now next e ≡ Some vs → Gives now next e x ↔ IsTrue (has vs x)
gives_value now next e vs x h = ((λ g. let same : Some g.0 ≡ Some vs = sym g.1 ∙ h in let equal : g.0 ≡ vs = cc in subst (λ w. IsTrue (has w x)) equal g.2), (λ k. (vs, h, k)))

gives_test : (now next : Leaves Path) (e : Formula) (b : Bool) → evaluate now next e ≡ Some (one (truth b)) → Gives now next e (truth true) ↔ (b ≡ true)
gives_test now next e b h = iff_trans (gives_value now next e (one (truth b)) (truth true) h) (test b)
  where
    test : (b : Bool) → IsTrue (has (one (truth b)) (truth true)) ↔ (b ≡ true)
    test true = ((λ h. refl), (λ h. refl))
    test false = ((λ h. cc), (λ h. cc))

-- what a range has is a number
pub number_in : (t : DeclaredTree) (y : Value) → IsRange t → IsTrue (in_domain t y) → (n : ℤ) × (y ≡ number n)
number_in boolean y h q = absurd h
number_in (members ms) y h q = absurd h
number_in (instance n es) y h q = absurd h
number_in (range lo hi) (number n) h q = (n, refl)
number_in (range lo hi) (truth b) h q = cc
number_in (range lo hi) (symbol z) h q = cc

stands_is : (st : ModeState) (m : Text) → stands_at st m ≡ stands_at st m
stands_is None m = refl
stands_is (Some n) m = refl

module _ (s : SliceTree) (type : DeclaredTree) (mode : Text) (now next : Leaves Path) (before own_before own x : Value) (st : ModeState)
    (known : IsKnown s (Some mode)) (other : mode ≢ codes "nominal") (uniform : IsUniform type)
    (db : IsTrue (in_domain type before)) (dw : IsTrue (in_domain type own)) (dx : IsTrue (in_domain type x))
    (l : SliceLeaves s type now before own_before st) (l' : SliceLeaves s type next x own (Some mode)) where
  branch_law : (b : Branch) → BranchAsks (λ c. IsTrue (in_domain type c)) (IsBoolean type) (λ passes. IsRange type) b →
      Gives next next (branch_tree b type s.target) x ↔ BranchAllows b (Gives next next) type own x
  branch_law (the_formula f) h = iff_refl
  branch_law b h =
      let gives : (vs : Values) × (evaluate next next (branch_tree b type s.target) ≡ Some vs) × ((y : Value) → IsTrue (has vs y) ↔ BranchAllows b (Gives next next) type own y) =
      branch_gives s type next next x own (Some mode) l' (Gives next next) b h (λ f e. cc) dw in
      iff_trans (gives_value next next (branch_tree b type s.target) gives.0 x gives.1) (gives.2 x)

  stands_now : stands_at (Some mode) mode ≡ true
  stands_now = same_text_refl mode

  simplify : (a b : Bool) → a ≡ true → (opposite a || b) ≡ b
  simplify true b e = refl
  simplify false b e = cc

  simplify_both : (c a b : Bool) → a ≡ true → ((opposite (c && a) || b) ≡ true) ↔ (opposite c ≡ false → b ≡ true)
  simplify_both true true b e = ((λ h q. h), (λ h. h refl))
  simplify_both true false b e = cc
  simplify_both false a b e = ((λ h q. cc), (λ h. refl))

  rules_law : (r : Option EffectRule) → RuleAsks (λ passes. IsRange type) r → Each (RuleHolds now next) (rule_trees r s.name mode s.target) ↔ (RuleNow r own x × RuleStep r before (opposite (stands_at st mode)) x)
  rules_law None h = ((λ q. (tt, tt)), (λ q. tt))
  rules_law (Some NotOwn) h =
      let test : Gives next next (erroneous_rule s.name mode s.target) (truth true) ↔ (x ≢ own) =
      iff_trans (gives_test next next (erroneous_rule s.name mode s.target) (opposite (same_value x own))
      (erroneous_value s type next next x own (Some mode) l' uniform dx dw mode known other ∙ ap (λ b. Some (one (truth b))) (simplify (stands_at (Some mode) mode) (opposite (same_value x own)) stands_now))) (differs_value x own) in
      ((λ q. (test.0 q.0, tt)), (λ q. (test.1 q.0, tt)))
  rules_law (Some AsBefore) h =
      let test : Gives now next (frozen_rule s.name mode s.target) (truth true) ↔ (x ≡ before) =
      iff_trans (gives_test now next (frozen_rule s.name mode s.target) (same_value x before)
      (frozen_value s type now next before own_before x own st (Some mode) l l' uniform db dx mode known other ∙ ap (λ b. Some (one (truth b))) (simplify (stands_at (Some mode) mode) (same_value x before) stands_now))) (equal_value x before) in
      ((λ q. (tt, test.0 q.0)), (λ q. (test.1 q.1, tt)))
  rules_law (Some AsEntered) h =
      let test : Gives now next (pick_rule s.name mode s.target) (truth true) ↔ (opposite (stands_at st mode) ≡ false → same_value x before ≡ true) =
      iff_trans (gives_test now next (pick_rule s.name mode s.target) (opposite (stands_at st mode && stands_at (Some mode) mode) || same_value x before)
      (pick_value s type now next before own_before x own st (Some mode) l l' uniform db dx mode known other)) (simplify_both (stands_at st mode) (stands_at (Some mode) mode) (same_value x before) stands_now) in
      ((λ q. (tt, λ n. (equal_value x before).0 (test.0 q.0 n))), (λ q. (test.1 (λ n. (equal_value x before).1 (q.1 n)), tt)))
  rules_law (Some (Falling d f)) h =
      let b : (n : ℤ) × (before ≡ number n) = number_in type before h db in
      let y : (n : ℤ) × (x ≡ number n) = number_in type x h dx in
      let test : Gives now next (ramp_rule d f s.name mode s.target) (truth true) ↔ (number y.0 ≡ number (if int_lt f (b.0 -ℤ d) then b.0 -ℤ d else f)) =
      iff_trans (gives_test now next (ramp_rule d f s.name mode s.target) (same_value (number y.0) (number (if int_lt f (b.0 -ℤ d) then b.0 -ℤ d else f)))
      (ramp_value s type now next before own_before x own st (Some mode) l l' uniform db dx mode d f b.0 y.0 known other b.1 y.1
      ∙ ap (λ c. Some (one (truth c))) (simplify (stands_at (Some mode) mode) (same_value (number y.0) (number (if int_lt f (b.0 -ℤ d) then b.0 -ℤ d else f))) stands_now)))
      (equal_value (number y.0) (number (if int_lt f (b.0 -ℤ d) then b.0 -ℤ d else f))) in (
        (λ q. (tt, subst (λ u. IsRamp d f u x) (sym b.1) (subst (λ u. IsRamp d f (number b.0) u) (sym y.1) (test.0 q.0)))),
        (λ q. (test.1 (subst (λ u. IsRamp d f (number b.0) u) y.1 (subst (λ u. IsRamp d f u x) b.1 q.1)), tt)),
      )

  law : (e : EffectTree) → MayStand e type →
      (Gives next next (branch e type s.target) x × Each (RuleHolds now next) (rules e s.name mode s.target)) ↔ Allows e (Gives next next) type own before (opposite (stands_at st mode)) x
  law e h =
      let asks = (row_law e).asks _ _ _ h in
      subst (λ b. (Gives next next (branch e type s.target) x × Each (RuleHolds now next) (rules e s.name mode s.target)) ↔ Allows e (Gives next next) type own before (opposite b) x) (sym (stands_is st mode))
      (iff_trans (iff_both (branch_law (branch_of e) asks.0) (rules_law (rule_of e) asks.1))
      (iff_trans regroup (iff_sym ((row_law e).allows (Gives next next) type own before (opposite (stands_at st mode)) x dx))))
    where
      regroup : {A B C : Type 0} → (A × (B × C)) ↔ (A × B × C)
      regroup = ((λ h. (h.0, h.1.0, h.1.1)), (λ h. (h.0, (h.1, h.2))))

pub effect_law : EffectLaw
effect_law e s type mode now next before own_before own x st known other h uniform db dw dx l l' =
    law s type mode now next before own_before own x st known other uniform db dw dx l l' e h

-- at a first moment
module _ (s : SliceTree) (type : DeclaredTree) (mode : Text) (now : Leaves Path) (own x : Value)
    (known : IsKnown s (Some mode)) (other : mode ≢ codes "nominal") (uniform : IsUniform type)
    (dw : IsTrue (in_domain type own)) (dx : IsTrue (in_domain type x)) (l : SliceLeaves s type now x own (Some mode)) where
  stands_here : stands_at (Some mode) mode ≡ true
  stands_here = same_text_refl mode

  plain : (a b : Bool) → a ≡ true → (opposite a || b) ≡ b
  plain true b e = refl
  plain false b e = cc

  first_rules_law : (r : Option EffectRule) → RuleAsks (λ passes. IsRange type) r →
      (Each (FirstRuleHolds now) (rule_trees r s.name mode s.target) × Each (FirstRuleHolds now) (first_trees r s.name mode s.target)) ↔ (RuleNow r own x × RuleStep r own true x)
  first_rules_law None h = ((λ q. (tt, tt)), (λ q. (tt, tt)))
  first_rules_law (Some AsEntered) h = ((λ q. (tt, λ never. cc)), (λ q. ((tt, tt), tt)))
  first_rules_law (Some NotOwn) h =
      let test : Gives now now (erroneous_rule s.name mode s.target) (truth true) ↔ (x ≢ own) =
      iff_trans (gives_test now now (erroneous_rule s.name mode s.target) (opposite (same_value x own))
      (erroneous_value s type now now x own (Some mode) l uniform dx dw mode known other ∙ ap (λ b. Some (one (truth b))) (plain (stands_at (Some mode) mode) (opposite (same_value x own)) stands_here))) (differs_value x own) in
      ((λ q. (test.0 q.0.0, tt)), (λ q. ((test.1 q.0, tt), tt)))
  first_rules_law (Some AsBefore) h =
      let test : Gives now now (frozen_first s.name mode s.target) (truth true) ↔ (x ≡ own) =
      iff_trans (gives_test now now (frozen_first s.name mode s.target) (same_value x own)
      (frozen_first_value s type now now x own (Some mode) l uniform dx dw mode known other ∙ ap (λ b. Some (one (truth b))) (plain (stands_at (Some mode) mode) (same_value x own) stands_here))) (equal_value x own) in
      ((λ q. (tt, test.0 q.1.0)), (λ q. ((tt, tt), (test.1 q.1, tt))))
  first_rules_law (Some (Falling d f)) h =
      let b : (n : ℤ) × (own ≡ number n) = number_in type own h dw in
      let y : (n : ℤ) × (x ≡ number n) = number_in type x h dx in
      let test : Gives now now (ramp_first d f s.name mode s.target) (truth true) ↔ (number y.0 ≡ number (if int_lt f (b.0 -ℤ d) then b.0 -ℤ d else f)) =
      iff_trans (gives_test now now (ramp_first d f s.name mode s.target) (same_value (number y.0) (number (if int_lt f (b.0 -ℤ d) then b.0 -ℤ d else f)))
      (ramp_first_value s type now now x own (Some mode) l uniform dx dw mode d f b.0 y.0 known other b.1 y.1
      ∙ ap (λ c. Some (one (truth c))) (plain (stands_at (Some mode) mode) (same_value (number y.0) (number (if int_lt f (b.0 -ℤ d) then b.0 -ℤ d else f))) stands_here)))
      (equal_value (number y.0) (number (if int_lt f (b.0 -ℤ d) then b.0 -ℤ d else f))) in (
        (λ q. (tt, subst (λ u. IsRamp d f u x) (sym b.1) (subst (λ u. IsRamp d f (number b.0) u) (sym y.1) (test.0 q.1.0)))),
        (λ q. ((tt, tt), (test.1 (subst (λ u. IsRamp d f (number b.0) u) y.1 (subst (λ u. IsRamp d f u x) b.1 q.1)), tt))),
      )

  first_law : (e : EffectTree) → MayStand e type →
      (Gives now now (branch e type s.target) x × Each (FirstRuleHolds now) (rules e s.name mode s.target) × Each (FirstRuleHolds now) (first_rules e s.name mode s.target))
      ↔ Allows e (Gives now now) type own own true x
  first_law e h =
      let asks = (row_law e).asks _ _ _ h in
      iff_trans (iff_sym regroup) (iff_trans (iff_both (branch_law s type mode now now x own own x (Some mode) known other uniform dx dw dx l l (branch_of e) asks.0) (first_rules_law (rule_of e) asks.1))
      (iff_trans regroup (iff_sym ((row_law e).allows (Gives now now) type own own true x dx))))
    where
      regroup : {A B C : Type 0} → (A × (B × C)) ↔ (A × B × C)
      regroup = ((λ h. (h.0, h.1.0, h.1.1)), (λ h. (h.0, (h.1, h.2))))

pub first_effect_law : FirstEffectLaw
first_effect_law e s type mode now own x known other h uniform dw dx l = first_law s type mode now own x known other uniform dw dx l e h
