-- What the added sections of a slice say at first, and of a moment and the next.
use Rattle.std.proofs.Common.{◌≡◌, ◌≢◌, ◌⊎◌, inl, inr, ◌↔◌, ℕ, suc, ◌+◌, arith, Bool, true, false, List, [], ◌∷◌, Option, Some, None, refl, sym, ◌∙◌, ap, subst}
use Rattle.std.specs.Prelude.{ℤ, int_lt, ◌-ℤ◌, IsTrue, codes, ◌&&◌, ◌||◌, map, flat_map, if◌then◌else◌}
use Rattle.smv_language.specs.declared.expr.Op.TheVariants as op
use Rattle.smv_language.specs.Language.{binary, choice, trees_from, Text, Formula, ModuleTree, ProgramTree, Value, symbol, Values, no_value, one, either, has, same_value, opposite, evaluate, evaluate_trees, gives_either, gives_choice, Place, Valuation, name_values, May, Each, AtSome, IsInstance, InDomains, in_domain, StepSection, FirstSection}
use Rattle.smv_language.specs.Values.{truth, number}
use Rattle.smv_language.proofs.Monotone.{evaluate_below, raised}
use Rattle.fault_instructions.specs.declared.instructions.Dynamics.{Dynamics}
use Rattle.fault_instructions.specs.declared.instructions.Dynamics.TheVariants.{Permanent, Transient}
use Rattle.fault_instructions.specs.declared.instructions.Start.{Start}
use Rattle.fault_instructions.specs.declared.instructions.Start.TheVariants.{Nominal, Any}
use Rattle.fault_instructions.specs.declared.effects.EffectRule.{EffectRule}
use Rattle.fault_instructions.specs.declared.effects.EffectRule.TheVariants.{NotOwn, AsBefore, AsEntered, Falling}
use Rattle.fault_instructions.specs.Instructions.{ModeTree, SliceTree, InstructionTree, slices_of}
use Rattle.fault_instructions.specs.AddedNames.{ModeState}
use Rattle.fault_instructions.specs.Effects.{rule_of, IsRamp}
use Rattle.fault_weave.specs.Moves.{Starts, Moves, Stays, Guarded}
use Rattle.fault_instructions.specs.AddedNames.{own_name, mode_variable, mode_symbol}
use Rattle.fault_instructions.specs.Templates.{named, stands, frozen_rule, pick_rule, ramp_rule, frozen_first, ramp_first, rule_trees, first_trees, rules, first_rules}
use Rattle.fault_weave.specs.WovenProgram.{start_tree, mode_rules, set_one, guard_formula, entries_from, entries, stay_branch, slice_rules, slice_sections, moves_tree, woven}
use Rattle.fault_instructions.specs.Weavable.{Among, IsLawfulMode, IsLawfulGuard, IsWeavable}
use Rattle.fault_instructions.specs.Types.{IsKnown, IsRange}
use Rattle.fault_instructions.proofs.Equivalence.{iff_refl, iff_both}
use Rattle.fault_instructions.proofs.AmongLaws.{each_iff, each_append, each_flat_map, each_at, each_all}
use Rattle.fault_weave.proofs.ModeRules.{mode_rules_plain}
use Rattle.fault_weave.proofs.Agreement.{Agree, evaluate_agree, evaluate_any_next}
use Rattle.fault_instructions.proofs.AddedNameLaws.{mode_symbol_same, nominal_symbol_same}
use Rattle.fault_weave.proofs.LeafValues.{may_value, may_same, slice_leaves}
use Rattle.fault_instructions.specs.EffectLaw.{SliceLeaves, stands_at}
use Rattle.fault_instructions.proofs.TemplateLaws.{one_has}
use Rattle.fault_weave.proofs.Cases.{chosen, case_value, chosen_none, chosen_some}
use Rattle.fault_instructions.proofs.EffectRows.{RuleStep, RuleAsks, row_law, stands_value, frozen_value, pick_value, ramp_value, frozen_first_value, ramp_first_value, implied, equal_value}
use Rattle.fault_instructions.proofs.EffectRowLaw.{number_in}
use Rattle.fault_weave.proofs.WovenSlices.{mode_known, known_mode, true_has}
use Rattle.smv_language.proofs.BoolLaws.{iff_trans, iff_sym}

or_iff : (a b : Bool) → ((a || b) ≡ true) ↔ ((a ≡ true) ⊎ (b ≡ true))
or_iff true b = ((λ h. inl refl), (λ h. refl))
or_iff false b = ((λ h. inr h), from)
  where
    from : (false ≡ true) ⊎ (b ≡ true) → b ≡ true
    from (inl e) = cc
    from (inr e) = e

sum_iff : {A B C D : Type 0} → (A ↔ B) → (C ↔ D) → (A ⊎ C) ↔ (B ⊎ D)
sum_iff {A = A} {B = B} {C = C} {D = D} h k = (to, from)
  where
    to : A ⊎ C → B ⊎ D
    to (inl a) = inl (h.0 a)
    to (inr c) = inr (k.0 c)

    from : B ⊎ D → A ⊎ C
    from (inl b) = inl (h.1 b)
    from (inr d) = inr (k.1 d)

pub some_iff : {A : Type 0} (P Q : A → Type 0) (xs : List A) → ((x : A) → Among xs x → P x ↔ Q x) → AtSome P xs ↔ AtSome Q xs
some_iff P Q [] f = iff_refl
some_iff P Q (x ∷ xs) f = sum_iff (f x (inl refl)) (some_iff P Q xs (λ y a. f y (inr a)))

-- a value among those of a set of one
single_has : (a x : Value) → IsTrue (has (either (one a) no_value) x) ↔ (x ≡ a)
single_has a x = iff_trans (or_iff (same_value a x) false) (to, (λ e. inl ((one_has a x).1 e)))
  where
    to : (same_value a x ≡ true) ⊎ (false ≡ true) → x ≡ a
    to (inl e) = (one_has a x).0 e
    to (inr e) = cc

both_implied : (a b c : Bool) → ((opposite (a && b) || c) ≡ true) ↔ (b ≡ true → opposite a ≡ false → c ≡ true)
both_implied true true c = ((λ h e f. h), (λ h. h refl refl))
both_implied true false c = ((λ h e f. cc), (λ h. refl))
both_implied false b c = ((λ h e f. cc), (λ h. refl))

module _ (p : ProgramTree) (i : InstructionTree) (ok : IsWeavable p i) (at : Place) (m : ModuleTree) (is : IsInstance p at m) (s : SliceTree) (a : Among (slices_of i m.name) s) where
  mode_lawful : (mode : ModeTree) → Among s.modes mode → IsLawfulMode p at m (ok.slices at m s is a).type mode
  mode_lawful mode b = each_at (IsLawfulMode p at m (ok.slices at m s is a).type) s.modes mode (ok.slices at m s is a).modes b

  never_nominal : (n : Text) → IsKnown s (Some n) → n ≢ codes "nominal"
  never_nominal n k =
      let found : (mode : ModeTree) × Among s.modes mode × (mode.name ≡ n) = known_mode s.modes n k in
      λ e. (mode_lawful found.0 found.1).not_nominal (found.2 ∙ e)

  pub state_same : (st st' : ModeState) → IsKnown s st → IsKnown s st' → mode_symbol s.name st ≡ mode_symbol s.name st' → st ≡ st'
  state_same None None k k' e = refl
  state_same None (Some n) k k' e = absurd (never_nominal n k' (nominal_symbol_same s.name n e))
  state_same (Some n) None k k' e = absurd (never_nominal n k (nominal_symbol_same s.name n (sym e)))
  state_same (Some n) (Some n') k k' e = ap (λ x. Some x) (mode_symbol_same s.name n n' e)

  symbol_iff : (st st' : ModeState) → IsKnown s st → IsKnown s st' → (symbol (mode_symbol s.name st) ≡ symbol (mode_symbol s.name st')) ↔ (st ≡ st')
  symbol_iff st st' k k' = ((λ e. state_same st st' k k' cc), (λ e. ap (λ t. symbol (mode_symbol s.name t)) e))

  rules_first : (v : Valuation) (r : Option EffectRule) (n : Text) → Each (FirstSection (woven p i) at v) (rule_trees r s.name n s.target)
  rules_first v None n = tt
  rules_first v (Some NotOwn) n = (tt, tt)
  rules_first v (Some AsBefore) n = (tt, tt)
  rules_first v (Some AsEntered) n = (tt, tt)
  rules_first v (Some (Falling d f)) n = (tt, tt)

  -- what the rule of a mode asks of the type
  rule_asks : (k : ModeTree) → Among s.modes k → RuleAsks (λ passes. IsRange (ok.slices at m s is a).type) (rule_of k.effect)
  rule_asks k b = ((row_law k.effect).asks _ _ _ (mode_lawful k b).effect_allowed.0).1

  -- at a first moment
  module _ (v : Valuation) (st : ModeState) (known : IsKnown s st) (mode_eq : v at (mode_variable s.name) ≡ symbol (mode_symbol s.name st))
      (dr : IsTrue (in_domain (ok.slices at m s is a).type (v at s.target))) (dw : IsTrue (in_domain (ok.slices at m s is a).type (v at (own_name s.target)))) where
    here : SliceLeaves s (ok.slices at m s is a).type (name_values 1 (woven p i) at v v) (v at s.target) (v at (own_name s.target)) st
    here = slice_leaves p i ok 0 at m s v v (v at (own_name s.target)) st is a refl mode_eq

    -- what the first mode is
    first_state : (t : ModeState) → IsKnown s t → (v at (mode_variable s.name) ≡ symbol (mode_symbol s.name t)) ↔ (st ≡ t)
    first_state t k = ((λ e. (symbol_iff st t known k).0 (sym mode_eq ∙ e)), (λ e. mode_eq ∙ (symbol_iff st t known k).1 e))

    -- the set of the modes' symbols
    modes_give : (x : Value) (ms : List ModeTree) → ((k : ModeTree) → Among ms k → Among s.modes k) →
        (vs : Values) × (evaluate_trees (name_values 1 (woven p i) at v v) (name_values 1 (woven p i) at v v) (trees_from (map (λ k. named (mode_symbol s.name (Some k.name))) ms)) ≡ Some vs)
        × (IsTrue (has vs x) ↔ AtSome (λ k. x ≡ symbol (mode_symbol s.name (Some k.name))) ms)
    modes_give x [] among = (no_value, refl, ((λ h. cc), (λ h. absurd h)))
    modes_give x (k ∷ ms) among =
        let more : (vs : Values) × (evaluate_trees (name_values 1 (woven p i) at v v) (name_values 1 (woven p i) at v v) (trees_from (map (λ z. named (mode_symbol s.name (Some z.name))) ms)) ≡ Some vs)
        × (IsTrue (has vs x) ↔ AtSome (λ z. x ≡ symbol (mode_symbol s.name (Some z.name))) ms) = modes_give x ms (λ z b. among z (inr b)) in (
          either (one (symbol (mode_symbol s.name (Some k.name)))) more.0,
          rw (here.symbol_leaves (Some k.name) (mode_known s s.modes k (among k (inl refl))), more.1) refl,
          iff_trans (or_iff (same_value (symbol (mode_symbol s.name (Some k.name))) x) (has more.0 x)) (sum_iff (one_has (symbol (mode_symbol s.name (Some k.name))) x) more.2),
        )

    start_may : (start : Start) → May (woven p i) at v v (start_tree s.name start s.modes) (v at (mode_variable s.name)) ↔ Starts start s.modes st
    start_may Nominal =
        iff_trans (may_value 1 (woven p i) at v v (named (mode_symbol s.name None)) (one (symbol (mode_symbol s.name None))) (v at (mode_variable s.name)) (here.symbol_leaves None tt))
        (iff_trans (one_has (symbol (mode_symbol s.name None)) (v at (mode_variable s.name))) (first_state None tt))
    start_may Any =
        let more : (vs : Values) × (evaluate_trees (name_values 1 (woven p i) at v v) (name_values 1 (woven p i) at v v) (trees_from (map (λ k. named (mode_symbol s.name (Some k.name))) s.modes)) ≡ Some vs)
        × (IsTrue (has vs (v at (mode_variable s.name))) ↔ AtSome (λ k. v at (mode_variable s.name) ≡ symbol (mode_symbol s.name (Some k.name))) s.modes) = modes_give (v at (mode_variable s.name)) s.modes (λ k b. b) in
        iff_trans (may_value 1 (woven p i) at v v (start_tree s.name Any s.modes) (either (one (symbol (mode_symbol s.name None))) more.0) (v at (mode_variable s.name)) (rw (here.symbol_leaves None tt, more.1) refl))
        (iff_trans (or_iff (same_value (symbol (mode_symbol s.name None)) (v at (mode_variable s.name))) (has more.0 (v at (mode_variable s.name))))
        (sum_iff (iff_trans (one_has (symbol (mode_symbol s.name None)) (v at (mode_variable s.name))) (first_state None tt))
        (iff_trans more.2 (some_iff (λ k. v at (mode_variable s.name) ≡ symbol (mode_symbol s.name (Some k.name))) (λ k. st ≡ Some k.name) s.modes (λ k b. first_state (Some k.name) (mode_known s s.modes k b))))))

    first_rule : (r : Option EffectRule) (n : Text) → IsKnown s (Some n) → n ≢ codes "nominal" → RuleAsks (λ passes. IsRange (ok.slices at m s is a).type) r →
        Each (FirstSection (woven p i) at v) (first_trees r s.name n s.target) ↔ (stands_at st n ≡ true → RuleStep r (v at (own_name s.target)) true (v at s.target))
    first_rule None n k h al = ((λ q e. tt), (λ q. tt))
    first_rule (Some NotOwn) n k h al = ((λ q e. tt), (λ q. tt))
    first_rule (Some AsEntered) n k h al = ((λ q e never. cc), (λ q. tt))
    first_rule (Some AsBefore) n k h al =
        let value : May (woven p i) at v v (frozen_first s.name n s.target) (truth true)
        ↔ IsTrue (has (one (truth (opposite (stands_at st n) || same_value (v at s.target) (v at (own_name s.target))))) (truth true)) =
        may_value 1 (woven p i) at v v (frozen_first s.name n s.target) (one (truth (opposite (stands_at st n) || same_value (v at s.target) (v at (own_name s.target))))) (truth true)
        (frozen_first_value s (ok.slices at m s is a).type (name_values 1 (woven p i) at v v) (name_values 1 (woven p i) at v v) (v at s.target) (v at (own_name s.target)) st here (ok.slices at m s is a).uniform dr dw n k h) in
        let test : May (woven p i) at v v (frozen_first s.name n s.target) (truth true) ↔ (stands_at st n ≡ true → same_value (v at s.target) (v at (own_name s.target)) ≡ true) =
        iff_trans value (iff_trans (true_has (opposite (stands_at st n) || same_value (v at s.target) (v at (own_name s.target)))) (implied (stands_at st n) (same_value (v at s.target) (v at (own_name s.target))))) in (
          (λ q e. (equal_value (v at s.target) (v at (own_name s.target))).0 (test.0 q.0 e)),
          (λ q. (test.1 (λ e. (equal_value (v at s.target) (v at (own_name s.target))).1 (q e)), tt)),
        )
    first_rule (Some (Falling d f)) n k h al =
        let x : (z : ℤ) × (v at (own_name s.target) ≡ number z) = number_in (ok.slices at m s is a).type (v at (own_name s.target)) al dw in
        let y : (z : ℤ) × (v at s.target ≡ number z) = number_in (ok.slices at m s is a).type (v at s.target) al dr in
        let bound : Value = number (if int_lt f (x.0 -ℤ d) then x.0 -ℤ d else f) in
        let value : May (woven p i) at v v (ramp_first d f s.name n s.target) (truth true)
        ↔ IsTrue (has (one (truth (opposite (stands_at st n) || same_value (number y.0) bound))) (truth true)) =
        may_value 1 (woven p i) at v v (ramp_first d f s.name n s.target) (one (truth (opposite (stands_at st n) || same_value (number y.0) bound))) (truth true)
        (ramp_first_value s (ok.slices at m s is a).type (name_values 1 (woven p i) at v v) (name_values 1 (woven p i) at v v) (v at s.target) (v at (own_name s.target)) st here (ok.slices at m s is a).uniform dr dw n d f x.0 y.0 k h x.1 y.1) in
        let test : May (woven p i) at v v (ramp_first d f s.name n s.target) (truth true) ↔ (stands_at st n ≡ true → same_value (number y.0) bound ≡ true) =
        iff_trans value (iff_trans (true_has (opposite (stands_at st n) || same_value (number y.0) bound)) (implied (stands_at st n) (same_value (number y.0) bound))) in (
          (λ q e. rw (x.1, y.1) ((equal_value (number y.0) bound).0 (test.0 q.0 e))),
          (λ q. (test.1 (λ e. (equal_value (number y.0) bound).1 (let known_ramp : IsRamp d f (number x.0) (number y.0) = subst (λ b. IsRamp d f b (number y.0)) x.1 (subst (IsRamp d f (v at (own_name s.target))) y.1 (q e)) in known_ramp)), tt)),
        )

    -- the condition that a mode's INIT puts on the first moment
    abbrev pub StartMode : ModeTree → Type 0
    StartMode mode = stands_at st mode.name ≡ true → RuleStep (rule_of mode.effect) (v at (own_name s.target)) true (v at s.target)

    -- a slice that starts nominal has no INIT, and no mode stands
    rules_start : (start : Start) → Starts start s.modes st →
        Each (FirstSection (woven p i) at v) (flat_map (λ k. mode_rules start k.effect s.name k.name s.target) s.modes) ↔ Each StartMode s.modes
    rules_start Nominal none = (
      (λ h. each_all StartMode s.modes (λ mode b q. let no' : stands_at None mode.name ≡ true = subst (λ t. stands_at t mode.name ≡ true) none q in cc)),
      (λ h. (each_flat_map (FirstSection (woven p i) at v) (λ k. mode_rules Nominal k.effect s.name k.name s.target) s.modes).1
          (each_all _ s.modes (λ k b. (each_append (FirstSection (woven p i) at v) (rules k.effect s.name k.name s.target) []).1 (rules_first v (rule_of k.effect) k.name, tt)))),
    )
    rules_start Any begun =
        iff_trans (each_flat_map (FirstSection (woven p i) at v) (λ k. mode_rules Any k.effect s.name k.name s.target) s.modes)
        (each_iff (λ k. Each (FirstSection (woven p i) at v) (mode_rules Any k.effect s.name k.name s.target)) StartMode s.modes
        (λ k b. iff_trans (each_append (FirstSection (woven p i) at v) (rules k.effect s.name k.name s.target) (first_rules k.effect s.name k.name s.target))
        (iff_trans ((λ q. q.1), (λ q. (rules_first v (rule_of k.effect) k.name, q)))
        (first_rule (rule_of k.effect) k.name (mode_known s s.modes k b) (mode_lawful k b).not_nominal (rule_asks k b)))))

    -- what a slice's sections ask of a first moment
    abbrev pub StartOfSlice : Type 0
    StartOfSlice = Starts s.start s.modes st × Each StartMode s.modes

    pub slice_first : Each (FirstSection (woven p i) at v) (slice_sections m s) ↔ StartOfSlice
    slice_first = (
      (λ h. let begun : Starts s.start s.modes st = (start_may s.start).0 h.1.0.0 in (begun, (rules_start s.start begun).0 h.1.1)),
      (λ h. (tt, (((start_may s.start).1 h.0, (tt, (tt, tt))), (rules_start s.start h.0).1 h.1))),
    )

  -- over a moment and the next
  module _ (v v' : Valuation) (st st' : ModeState) (known : IsKnown s st) (known' : IsKnown s st')
      (mode_eq : v at (mode_variable s.name) ≡ symbol (mode_symbol s.name st)) (mode_eq' : v' at (mode_variable s.name) ≡ symbol (mode_symbol s.name st'))
      (r r' : Valuation) (agree : Agree p v r) (agree' : Agree p v' r') (inside : InDomains p r)
      (dr : IsTrue (in_domain (ok.slices at m s is a).type (v at s.target))) (dr' : IsTrue (in_domain (ok.slices at m s is a).type (v' at s.target))) where
    leaves : (n : ℕ) → SliceLeaves s (ok.slices at m s is a).type (name_values (suc n) (woven p i) at v v') (v at s.target) (v at (own_name s.target)) st
    leaves n = slice_leaves p i ok n at m s v v' (v at (own_name s.target)) st is a refl mode_eq

    next_leaves : (n : ℕ) → SliceLeaves s (ok.slices at m s is a).type (name_values (suc n) (woven p i) at v' v') (v' at s.target) (v' at (own_name s.target)) st'
    next_leaves n = slice_leaves p i ok n at m s v' v' (v' at (own_name s.target)) st' is a refl mode_eq'

    rule_step : (r : Option EffectRule) (n : Text) → IsKnown s (Some n) → n ≢ codes "nominal" → RuleAsks (λ passes. IsRange (ok.slices at m s is a).type) r →
        Each (StepSection (woven p i) at v v') (rule_trees r s.name n s.target)
        ↔ (stands_at st' n ≡ true → RuleStep r (v at s.target) (opposite (stands_at st n)) (v' at s.target))
    rule_step None n k h al = ((λ q e. tt), (λ q. tt))
    rule_step (Some NotOwn) n k h al = ((λ q e. tt), (λ q. (tt, tt)))
    rule_step (Some AsBefore) n k h al =
        let value : May (woven p i) at v v' (frozen_rule s.name n s.target) (truth true)
        ↔ IsTrue (has (one (truth (opposite (stands_at st' n) || same_value (v' at s.target) (v at s.target)))) (truth true)) =
        may_value 1 (woven p i) at v v' (frozen_rule s.name n s.target) (one (truth (opposite (stands_at st' n) || same_value (v' at s.target) (v at s.target)))) (truth true)
        (frozen_value s (ok.slices at m s is a).type (name_values 1 (woven p i) at v v') (name_values 1 (woven p i) at v' v') (v at s.target) (v at (own_name s.target)) (v' at s.target) (v' at (own_name s.target))
        st st' (leaves 0) (next_leaves 0) (ok.slices at m s is a).uniform dr dr' n k h) in
        let test : May (woven p i) at v v' (frozen_rule s.name n s.target) (truth true) ↔ (stands_at st' n ≡ true → same_value (v' at s.target) (v at s.target) ≡ true) =
        iff_trans value (iff_trans (true_has (opposite (stands_at st' n) || same_value (v' at s.target) (v at s.target))) (implied (stands_at st' n) (same_value (v' at s.target) (v at s.target)))) in (
          (λ q e. (equal_value (v' at s.target) (v at s.target)).0 (test.0 q.0 e)),
          (λ q. (test.1 (λ e. (equal_value (v' at s.target) (v at s.target)).1 (q e)), tt)),
        )
    rule_step (Some AsEntered) n k h al =
        let value : May (woven p i) at v v' (pick_rule s.name n s.target) (truth true)
        ↔ IsTrue (has (one (truth (opposite (stands_at st n && stands_at st' n) || same_value (v' at s.target) (v at s.target)))) (truth true)) =
        may_value 1 (woven p i) at v v' (pick_rule s.name n s.target) (one (truth (opposite (stands_at st n && stands_at st' n) || same_value (v' at s.target) (v at s.target)))) (truth true)
        (pick_value s (ok.slices at m s is a).type (name_values 1 (woven p i) at v v') (name_values 1 (woven p i) at v' v') (v at s.target) (v at (own_name s.target)) (v' at s.target) (v' at (own_name s.target))
        st st' (leaves 0) (next_leaves 0) (ok.slices at m s is a).uniform dr dr' n k h) in
        let test : May (woven p i) at v v' (pick_rule s.name n s.target) (truth true) ↔ (stands_at st' n ≡ true → opposite (stands_at st n) ≡ false → same_value (v' at s.target) (v at s.target) ≡ true) =
        iff_trans value (iff_trans (true_has (opposite (stands_at st n && stands_at st' n) || same_value (v' at s.target) (v at s.target))) (both_implied (stands_at st n) (stands_at st' n) (same_value (v' at s.target) (v at s.target)))) in (
          (λ q e f. (equal_value (v' at s.target) (v at s.target)).0 (test.0 q.0 e f)),
          (λ q. (test.1 (λ e f. (equal_value (v' at s.target) (v at s.target)).1 (q e f)), tt)),
        )
    rule_step (Some (Falling d f)) n k h al =
        let x : (z : ℤ) × (v at s.target ≡ number z) = number_in (ok.slices at m s is a).type (v at s.target) al dr in
        let y : (z : ℤ) × (v' at s.target ≡ number z) = number_in (ok.slices at m s is a).type (v' at s.target) al dr' in
        let bound : Value = number (if int_lt f (x.0 -ℤ d) then x.0 -ℤ d else f) in
        let value : May (woven p i) at v v' (ramp_rule d f s.name n s.target) (truth true)
        ↔ IsTrue (has (one (truth (opposite (stands_at st' n) || same_value (number y.0) bound))) (truth true)) =
        may_value 1 (woven p i) at v v' (ramp_rule d f s.name n s.target) (one (truth (opposite (stands_at st' n) || same_value (number y.0) bound))) (truth true)
        (ramp_value s (ok.slices at m s is a).type (name_values 1 (woven p i) at v v') (name_values 1 (woven p i) at v' v') (v at s.target) (v at (own_name s.target)) (v' at s.target) (v' at (own_name s.target))
        st st' (leaves 0) (next_leaves 0) (ok.slices at m s is a).uniform dr dr' n d f x.0 y.0 k h x.1 y.1) in
        let test : May (woven p i) at v v' (ramp_rule d f s.name n s.target) (truth true) ↔ (stands_at st' n ≡ true → same_value (number y.0) bound ≡ true) =
        iff_trans value (iff_trans (true_has (opposite (stands_at st' n) || same_value (number y.0) bound)) (implied (stands_at st' n) (same_value (number y.0) bound))) in (
          (λ q e. rw (x.1, y.1) ((equal_value (number y.0) bound).0 (test.0 q.0 e))),
          (λ q. (test.1 (λ e. (equal_value (number y.0) bound).1 (let known_ramp : IsRamp d f (number x.0) (number y.0) = subst (λ b. IsRamp d f b (number y.0)) x.1 (subst (IsRamp d f (v at s.target)) y.1 (q e)) in known_ramp)), tt)),
        )

    -- the condition that a mode's TRANS puts on the step
    abbrev pub StepMode : ModeTree → Type 0
    StepMode mode = stands_at st' mode.name ≡ true → RuleStep (rule_of mode.effect) (v at s.target) (opposite (stands_at st mode.name)) (v' at s.target)

    pub rules_step : Each (StepSection (woven p i) at v v') (slice_rules s) ↔ Each StepMode s.modes
    rules_step =
        iff_trans (each_flat_map (StepSection (woven p i) at v v') (λ k. mode_rules s.start k.effect s.name k.name s.target) s.modes)
        (each_iff (λ k. Each (StepSection (woven p i) at v v') (mode_rules s.start k.effect s.name k.name s.target)) StepMode s.modes
        (λ k b. iff_trans (mode_rules_plain (StepSection (woven p i) at v v') (λ f. tt) s.start k.effect s.name k.name s.target)
        (rule_step (rule_of k.effect) k.name (mode_known s s.modes k b) (mode_lawful k b).not_nominal (rule_asks k b))))

    -- what the next mode is
    next_state : (t : ModeState) → IsKnown s t → (v' at (mode_variable s.name) ≡ symbol (mode_symbol s.name t)) ↔ (st' ≡ t)
    next_state t k = ((λ e. (symbol_iff st' t known' k).0 (sym mode_eq' ∙ e)), (λ e. mode_eq' ∙ (symbol_iff st' t known' k).1 e))

    stay_may : (d : Dynamics) (n : Text) → IsKnown s (Some n) → May (woven p i) at v v' (stay_branch s.name d n) (v' at (mode_variable s.name)) ↔ Stays d n st'
    stay_may Permanent n k =
        iff_trans (may_value 1 (woven p i) at v v' (named (mode_symbol s.name (Some n))) (one (symbol (mode_symbol s.name (Some n)))) (v' at (mode_variable s.name)) ((leaves 0).symbol_leaves (Some n) k))
        (iff_trans (one_has (symbol (mode_symbol s.name (Some n))) (v' at (mode_variable s.name))) (next_state (Some n) k))
    stay_may Transient n k =
        iff_trans (may_value 1 (woven p i) at v v' (stay_branch s.name Transient n) (either (one (symbol (mode_symbol s.name (Some n)))) (either (one (symbol (mode_symbol s.name None))) no_value)) (v' at (mode_variable s.name))
        (rw ((leaves 0).symbol_leaves (Some n) k, (leaves 0).symbol_leaves None tt) refl))
        (iff_trans (or_iff (same_value (symbol (mode_symbol s.name (Some n))) (v' at (mode_variable s.name))) _)
        (sum_iff (iff_trans (one_has (symbol (mode_symbol s.name (Some n))) (v' at (mode_variable s.name))) (next_state (Some n) k))
        (iff_trans (single_has (symbol (mode_symbol s.name None)) (v' at (mode_variable s.name))) (next_state None tt))))

    -- a guard has one truth value, whatever comes next
    guard_value : (g : Option Formula) → IsLawfulGuard p at m g →
        (n : ℕ) × (b : Bool) × (evaluate (name_values n (woven p i) at v v') (name_values n (woven p i) at v' v') (guard_formula g) ≡ Some (one (truth b)))
        × ((b ≡ true) ↔ Guarded (λ f. May p at r r f (truth true)) g)
    guard_value None h = (0, true, refl, ((λ e. tt), (λ e. refl)))
    guard_value (Some g) h =
        let decided : (n : ℕ) × (b : Bool) × (evaluate (name_values n p at r r) (name_values n p at r r) g ≡ Some (one (truth b))) = h.2 r inside in (
          decided.0,
          decided.1,
          evaluate_agree p i ok decided.0 at v v' r r' agree agree' g h.0 ∙ evaluate_any_next p i ok decided.0 at r r' r g h.1 ∙ decided.2,
          iff_sym (iff_trans (may_value decided.0 p at r r g (one (truth decided.1)) (truth true) decided.2) (true_has decided.1)),
        )

    abbrev Enters : Value → ModeTree → Type 0
    Enters x mode = (x ≡ symbol (mode_symbol s.name (Some mode.name))) × Guarded (λ f. May p at r r f (truth true)) mode.guard

    deeper : (d n k : ℕ) → n + d ≡ k → (e : Formula) (vs : Values) → evaluate (name_values n (woven p i) at v v') (name_values n (woven p i) at v' v') e ≡ Some vs →
        evaluate (name_values k (woven p i) at v v') (name_values k (woven p i) at v' v') e ≡ Some vs
    deeper d n k q e vs h = evaluate_below e _ _ _ _ (raised d n k (woven p i) at v v' q) (raised d n k (woven p i) at v' v' q) vs h

    -- one more mode: it adds its symbol where its guard is true, and the nominal one otherwise
    entry_has : (b : Bool) (A : Values) (x : Value) (n : Text) (Q G : Type 0) →
        (IsTrue (has A x) ↔ ((x ≡ symbol (mode_symbol s.name None)) ⊎ Q)) → ((b ≡ true) ↔ G) →
        (vs : Values) × (gives_either (Some A) (gives_choice (Some (one (truth b))) (Some (either (one (symbol (mode_symbol s.name (Some n)))) no_value)) (Some (either (one (symbol (mode_symbol s.name None))) no_value))) ≡ Some vs)
        × (IsTrue (has vs x) ↔ ((x ≡ symbol (mode_symbol s.name None)) ⊎ (Q ⊎ ((x ≡ symbol (mode_symbol s.name (Some n))) × G))))
    entry_has true A x n Q G h g = (either A (either (one (symbol (mode_symbol s.name (Some n)))) no_value), refl, iff_trans (or_iff (has A x) _) (to, from))
      where
        to : (has A x ≡ true) ⊎ (has (either (one (symbol (mode_symbol s.name (Some n)))) no_value) x ≡ true) → (x ≡ symbol (mode_symbol s.name None)) ⊎ (Q ⊎ ((x ≡ symbol (mode_symbol s.name (Some n))) × G))
        to (inl e) = widen (h.0 e)
          where
            widen : (x ≡ symbol (mode_symbol s.name None)) ⊎ Q → (x ≡ symbol (mode_symbol s.name None)) ⊎ (Q ⊎ ((x ≡ symbol (mode_symbol s.name (Some n))) × G))
            widen (inl q) = inl q
            widen (inr q) = inr (inl q)
        to (inr e) = inr (inr ((single_has (symbol (mode_symbol s.name (Some n))) x).0 e, g.0 refl))

        from : (x ≡ symbol (mode_symbol s.name None)) ⊎ (Q ⊎ ((x ≡ symbol (mode_symbol s.name (Some n))) × G)) → (has A x ≡ true) ⊎ (has (either (one (symbol (mode_symbol s.name (Some n)))) no_value) x ≡ true)
        from (inl q) = inl (h.1 (inl q))
        from (inr (inl q)) = inl (h.1 (inr q))
        from (inr (inr q)) = inr ((single_has (symbol (mode_symbol s.name (Some n))) x).1 q.0)
    entry_has false A x n Q G h g = (either A (either (one (symbol (mode_symbol s.name None))) no_value), refl, iff_trans (or_iff (has A x) _) (to, from))
      where
        to : (has A x ≡ true) ⊎ (has (either (one (symbol (mode_symbol s.name None))) no_value) x ≡ true) → (x ≡ symbol (mode_symbol s.name None)) ⊎ (Q ⊎ ((x ≡ symbol (mode_symbol s.name (Some n))) × G))
        to (inl e) = widen (h.0 e)
          where
            widen : (x ≡ symbol (mode_symbol s.name None)) ⊎ Q → (x ≡ symbol (mode_symbol s.name None)) ⊎ (Q ⊎ ((x ≡ symbol (mode_symbol s.name (Some n))) × G))
            widen (inl q) = inl q
            widen (inr q) = inr (inl q)
        to (inr e) = inl ((single_has (symbol (mode_symbol s.name None)) x).0 e)

        from : (x ≡ symbol (mode_symbol s.name None)) ⊎ (Q ⊎ ((x ≡ symbol (mode_symbol s.name (Some n))) × G)) → (has A x ≡ true) ⊎ (has (either (one (symbol (mode_symbol s.name None))) no_value) x ≡ true)
        from (inl q) = inl (h.1 (inl q))
        from (inr (inl q)) = inl (h.1 (inr q))
        from (inr (inr q)) = let no' : false ≡ true = g.1 q.1 in cc

    regroup : {X Q R S : Type 0} → (X ⊎ ((Q ⊎ R) ⊎ S)) ↔ (X ⊎ (Q ⊎ (R ⊎ S)))
    regroup {X = X} {Q = Q} {R = R} {S = S} = (to, from)
      where
        to : X ⊎ ((Q ⊎ R) ⊎ S) → X ⊎ (Q ⊎ (R ⊎ S))
        to (inl x) = inl x
        to (inr (inl (inl q))) = inr (inl q)
        to (inr (inl (inr r))) = inr (inr (inl r))
        to (inr (inr t)) = inr (inr (inr t))

        from : X ⊎ (Q ⊎ (R ⊎ S)) → X ⊎ ((Q ⊎ R) ⊎ S)
        from (inl x) = inl x
        from (inr (inl q)) = inr (inl (inl q))
        from (inr (inr (inl r))) = inr (inl (inr r))
        from (inr (inr (inr t))) = inr (inr t)

    drop_empty : {X Q : Type 0} → (X ⊎ Q) ↔ (X ⊎ (Q ⊎ ⊥))
    drop_empty {X = X} {Q = Q} = (to, from)
      where
        to : X ⊎ Q → X ⊎ (Q ⊎ ⊥)
        to (inl x) = inl x
        to (inr q) = inr (inl q)

        from : X ⊎ (Q ⊎ ⊥) → X ⊎ Q
        from (inl x) = inl x
        from (inr (inl q)) = inr q
        from (inr (inr f)) = absurd f

    entries_give : (x : Value) (ms : List ModeTree) → ((k : ModeTree) → Among ms k → Among s.modes k) →
        (so_far : Formula) (Q : Type 0) (n : ℕ) (A : Values) → evaluate (name_values n (woven p i) at v v') (name_values n (woven p i) at v' v') so_far ≡ Some A →
        (IsTrue (has A x) ↔ ((x ≡ symbol (mode_symbol s.name None)) ⊎ Q)) →
        (k : ℕ) × (B : Values) × (evaluate (name_values k (woven p i) at v v') (name_values k (woven p i) at v' v') (entries_from s.name so_far ms) ≡ Some B)
        × (IsTrue (has B x) ↔ ((x ≡ symbol (mode_symbol s.name None)) ⊎ (Q ⊎ AtSome (Enters x) ms)))
    entries_give x [] among so_far Q n A h q = (n, A, h, iff_trans q drop_empty)
    entries_give x (mode ∷ ms) among so_far Q n A h q =
        let guard : (k : ℕ) × (b : Bool) × (evaluate (name_values k (woven p i) at v v') (name_values k (woven p i) at v' v') (guard_formula mode.guard) ≡ Some (one (truth b)))
        × ((b ≡ true) ↔ Guarded (λ f. May p at r r f (truth true)) mode.guard) = guard_value mode.guard (mode_lawful mode (among mode (inl refl))).guard_lawful in
        let one_more : (vs : Values) × (gives_either (Some A) (gives_choice (Some (one (truth guard.1))) (Some (either (one (symbol (mode_symbol s.name (Some mode.name)))) no_value)) (Some (either (one (symbol (mode_symbol s.name None))) no_value))) ≡ Some vs)
        × (IsTrue (has vs x) ↔ ((x ≡ symbol (mode_symbol s.name None)) ⊎ (Q ⊎ Enters x mode))) =
        entry_has guard.1 A x mode.name Q (Guarded (λ f. May p at r r f (truth true)) mode.guard) q guard.3 in
        let old : evaluate (name_values (suc (n + guard.0)) (woven p i) at v v') (name_values (suc (n + guard.0)) (woven p i) at v' v') so_far ≡ Some A =
        deeper (suc guard.0) n (suc (n + guard.0)) (omega arith) so_far A h in
        let new : evaluate (name_values (suc (n + guard.0)) (woven p i) at v v') (name_values (suc (n + guard.0)) (woven p i) at v' v') (guard_formula mode.guard) ≡ Some (one (truth guard.1)) =
        deeper (suc n) guard.0 (suc (n + guard.0)) (omega arith) (guard_formula mode.guard) (one (truth guard.1)) guard.2 in
        let rest : (k : ℕ) × (B : Values) × (evaluate (name_values k (woven p i) at v v') (name_values k (woven p i) at v' v')
        (entries_from s.name (binary op.Union so_far (choice (guard_formula mode.guard) (set_one (mode_symbol s.name (Some mode.name))) (set_one (mode_symbol s.name None)))) ms) ≡ Some B)
        × (IsTrue (has B x) ↔ ((x ≡ symbol (mode_symbol s.name None)) ⊎ ((Q ⊎ Enters x mode) ⊎ AtSome (Enters x) ms))) =
        entries_give x ms (λ k b. among k (inr b)) (binary op.Union so_far (choice (guard_formula mode.guard) (set_one (mode_symbol s.name (Some mode.name))) (set_one (mode_symbol s.name None))))
        (Q ⊎ Enters x mode) (suc (n + guard.0)) one_more.0
        (rw (old, new, (leaves (n + guard.0)).symbol_leaves (Some mode.name) (mode_known s s.modes mode (among mode (inl refl))), (leaves (n + guard.0)).symbol_leaves None tt) one_more.1) one_more.2 in
        (rest.0, rest.1, rest.2, iff_trans rest.3 regroup)

    tests : (n : ℕ) → Each (λ k. evaluate (name_values (suc n) (woven p i) at v v') (name_values (suc n) (woven p i) at v' v') (stands s.name k.name) ≡ Some (one (truth (stands_at st k.name)))) s.modes
    tests n = each_all _ s.modes (λ k b. stands_value s (ok.slices at m s is a).type (name_values (suc n) (woven p i) at v v') (name_values (suc n) (woven p i) at v' v') (v at s.target) (v at (own_name s.target)) st (leaves n) k.name (mode_known s s.modes k b) (mode_lawful k b).not_nominal)

    enter_may : May (woven p i) at v v' (entries s.name s.modes) (v' at (mode_variable s.name)) ↔ Moves s.modes (λ f. May p at r r f (truth true)) None st'
    enter_may =
        let nominal : evaluate (name_values 1 (woven p i) at v v') (name_values 1 (woven p i) at v' v') (set_one (mode_symbol s.name None)) ≡ Some (either (one (symbol (mode_symbol s.name None))) no_value) =
        rw ((leaves 0).symbol_leaves None tt) refl in
        let all : (k : ℕ) × (B : Values) × (evaluate (name_values k (woven p i) at v v') (name_values k (woven p i) at v' v') (entries s.name s.modes) ≡ Some B)
        × (IsTrue (has B (v' at (mode_variable s.name))) ↔ ((v' at (mode_variable s.name) ≡ symbol (mode_symbol s.name None)) ⊎ (⊥ ⊎ AtSome (Enters (v' at (mode_variable s.name))) s.modes))) =
        entries_give (v' at (mode_variable s.name)) s.modes (λ k b. b) (set_one (mode_symbol s.name None)) ⊥ 1 (either (one (symbol (mode_symbol s.name None))) no_value) nominal
        (iff_trans (single_has (symbol (mode_symbol s.name None)) (v' at (mode_variable s.name))) add_none) in
        iff_trans (may_value all.0 (woven p i) at v v' (entries s.name s.modes) all.1 (v' at (mode_variable s.name)) all.2)
        (iff_trans all.3 (sum_iff (next_state None tt) (iff_trans none_first (some_iff (Enters (v' at (mode_variable s.name))) (λ k. (st' ≡ Some k.name) × Guarded (λ f. May p at r r f (truth true)) k.guard) s.modes
        (λ k b. iff_both (next_state (Some k.name) (mode_known s s.modes k b)) iff_refl)))))
      where
        add_none : {X : Type 0} → X ↔ (X ⊎ ⊥)
        add_none {X = X} = ((λ x. inl x), from)
          where
            from : X ⊎ ⊥ → X
            from (inl x) = x
            from (inr f) = absurd f

        none_first : {X : Type 0} → (⊥ ⊎ X) ↔ X
        none_first {X = X} = (to, (λ x. inr x))
          where
            to : ⊥ ⊎ X → X
            to (inl f) = absurd f
            to (inr x) = x

    pub moves_may : May (woven p i) at v v' (moves_tree s) (v' at (mode_variable s.name)) ↔ Moves s.modes (λ f. May p at r r f (truth true)) st st'
    moves_may =
        iff_trans (may_same (woven p i) at v v' (moves_tree s) (chosen (λ k. stay_branch s.name k.dynamics k.name) (entries s.name s.modes) st s.modes) (v' at (mode_variable s.name))
        (λ n. case_value (name_values (suc n) (woven p i) at v v') (name_values (suc n) (woven p i) at v' v') s.name st (λ k. stay_branch s.name k.dynamics k.name) (entries s.name s.modes) s.modes (tests n)))
        (go st refl known)
      where
        go : (t : ModeState) → st ≡ t → IsKnown s t →
            May (woven p i) at v v' (chosen (λ k. stay_branch s.name k.dynamics k.name) (entries s.name s.modes) st s.modes) (v' at (mode_variable s.name)) ↔ Moves s.modes (λ f. May p at r r f (truth true)) st st'
        go None e k =
            let last : chosen (λ k. stay_branch s.name k.dynamics k.name) (entries s.name s.modes) st s.modes ≡ entries s.name s.modes =
            rw e (chosen_none (λ k. stay_branch s.name k.dynamics k.name) (entries s.name s.modes) s.modes) in
            subst (λ f. May (woven p i) at v v' f (v' at (mode_variable s.name)) ↔ Moves s.modes (λ f. May p at r r f (truth true)) st st') (sym last)
            (subst (λ t. May (woven p i) at v v' (entries s.name s.modes) (v' at (mode_variable s.name)) ↔ Moves s.modes (λ f. May p at r r f (truth true)) t st') (sym e) enter_may)
        go (Some n) e k =
            let found : (mode : ModeTree) × Among s.modes mode × (mode.name ≡ n) = known_mode s.modes n k in
            let state_is : st ≡ Some found.0.name = e ∙ ap (λ x. Some x) (sym found.2) in
            let branch_is : chosen (λ k. stay_branch s.name k.dynamics k.name) (entries s.name s.modes) st s.modes ≡ stay_branch s.name found.0.dynamics found.0.name =
            rw state_is (chosen_some (λ k. stay_branch s.name k.dynamics k.name) (entries s.name s.modes) s.modes found.0 found.1 (λ b c. (ok.slices at m s is a).modes_differ found.0 b found.1 c)) in
            let stays : May (woven p i) at v v' (stay_branch s.name found.0.dynamics found.0.name) (v' at (mode_variable s.name)) ↔ Stays found.0.dynamics found.0.name st' =
            stay_may found.0.dynamics found.0.name (mode_known s s.modes found.0 found.1) in
            subst (λ f. May (woven p i) at v v' f (v' at (mode_variable s.name)) ↔ Moves s.modes (λ f. May p at r r f (truth true)) st st') (sym branch_is)
            (subst (λ t. May (woven p i) at v v' (stay_branch s.name found.0.dynamics found.0.name) (v' at (mode_variable s.name)) ↔ Moves s.modes (λ f. May p at r r f (truth true)) t st') (sym state_is)
            (iff_trans stays (some_one found.0 found.1)))
          where
            some_one : (mode : ModeTree) → Among s.modes mode → Stays mode.dynamics mode.name st' ↔ AtSome (λ k. (k.name ≡ mode.name) × Stays k.dynamics mode.name st') s.modes
            some_one mode b = ((λ h. put s.modes b h), (λ h. pick s.modes (λ k c. c) h))
              where
                put : (ms : List ModeTree) → Among ms mode → Stays mode.dynamics mode.name st' → AtSome (λ k. (k.name ≡ mode.name) × Stays k.dynamics mode.name st') ms
                put [] c h = absurd c
                put (k ∷ ms) (inl q) h = inl (ap (λ z. z.name) q, subst (λ z. Stays z.dynamics mode.name st') (sym q) h)
                put (k ∷ ms) (inr c) h = inr (put ms c h)

                pick : (ms : List ModeTree) → ((k : ModeTree) → Among ms k → Among s.modes k) → AtSome (λ k. (k.name ≡ mode.name) × Stays k.dynamics mode.name st') ms → Stays mode.dynamics mode.name st'
                pick [] among h = absurd h
                pick (k ∷ ms) among (inl q) = subst (λ z. Stays z.dynamics mode.name st') ((ok.slices at m s is a).modes_differ k mode (among k (inl refl)) b q.0) q.1
                pick (k ∷ ms) among (inr q) = pick ms (λ z c. among z (inr c)) q

    -- what a slice's sections ask of a step
    abbrev pub StepOfSlice : Type 0
    StepOfSlice = Moves s.modes (λ f. May p at r r f (truth true)) st st' × Each StepMode s.modes

    pub slice_step : Each (StepSection (woven p i) at v v') (slice_sections m s) ↔ StepOfSlice
    slice_step = ((λ h. (moves_may.0 h.1.0.1.0, rules_step.0 h.1.1)), (λ h. (tt, ((tt, (moves_may.1 h.0, (tt, tt))), rules_step.1 h.1))))
