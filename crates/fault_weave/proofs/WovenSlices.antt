-- What the added sections of a slice say at an instance.
use Rattle.std.proofs.Common.{◌≡◌, ◌≢◌, inl, inr, ◌↔◌, ℕ, suc, Bool, true, false, List, [], ◌∷◌, Option, Some, None, refl, sym, ◌∙◌, ap, subst}
use Rattle.std.specs.Prelude.{IsTrue, codes, ◌||◌}
use Rattle.smv_language.specs.Language.{Text, ModuleTree, ProgramTree, Value, symbol, Values, one, has, same_value, opposite, evaluate, Place, kind_in, Valuation, name_values, May, Each, AtSome, IsInstance, in_domain, EachSection}
use Rattle.smv_language.specs.Values.{truth}
use Rattle.smv_language.proofs.ValueLaws.{same_text_refl}
use Rattle.fault_instructions.specs.declared.effects.EffectRule.{EffectRule}
use Rattle.fault_instructions.specs.declared.effects.EffectRule.TheVariants.{NotOwn, AsBefore, AsEntered, Falling}
use Rattle.fault_instructions.specs.EffectForms.{Branch, the_formula}
use Rattle.fault_instructions.specs.Effects.{branch_of, rule_of}
use Rattle.fault_instructions.specs.Instructions.{ModeTree, SliceTree, InstructionTree, slices_of}
use Rattle.fault_instructions.specs.AddedNames.{ModeState}
use Rattle.fault_instructions.specs.AddedNames.{own_name, mode_variable, mode_symbol}
use Rattle.fault_weave.specs.WovenProgram.{mode_rules, slice_rules, slice_sections, read_tree, woven}
use Rattle.fault_instructions.specs.KindTypes.{type_of_kind}
use Rattle.fault_instructions.specs.Templates.{named, stands, branch, branch_tree, rule_trees, erroneous_rule}
use Rattle.fault_instructions.specs.Weavable.{Among, IsReadable, IsLawfulMode, IsWeavable}
use Rattle.fault_instructions.specs.Types.{IsKnown, IsBoolean, IsRange}
use Rattle.fault_instructions.proofs.AmongLaws.{each_iff, each_flat_map, each_at, each_all}
use Rattle.fault_weave.proofs.Agreement.{Agree, may_agree}
use Rattle.fault_weave.proofs.LeafValues.{may_value, may_same, slice_leaves}
use Rattle.fault_instructions.specs.EffectLaw.{SliceLeaves, stands_at}
use Rattle.fault_instructions.proofs.TemplateLaws.{one_has}
use Rattle.fault_weave.proofs.ModeRules.{mode_rules_plain}
use Rattle.fault_weave.proofs.Cases.{chosen, case_value, chosen_none, chosen_some}
use Rattle.fault_instructions.proofs.EffectRows.{BranchAllows, RuleNow, BranchAsks, BranchHolds, row_law, branch_gives, stands_value, erroneous_value, implied, differs_value}
use Rattle.smv_language.proofs.OneTree.{same_text_equal}
use Rattle.smv_language.proofs.BoolLaws.{iff_trans}

-- a mode of the list is known
pub mode_known : (s : SliceTree) (ms : List ModeTree) (m : ModeTree) → Among ms m → AtSome (λ k. k.name ≡ m.name) ms
mode_known s [] m a = absurd a
mode_known s (n ∷ ms) m (inl e) = inl (ap (λ k. k.name) e)
mode_known s (n ∷ ms) m (inr a) = inr (mode_known s ms m a)

pub known_mode : (ms : List ModeTree) (n : Text) → AtSome (λ k. k.name ≡ n) ms → (m : ModeTree) × Among ms m × (m.name ≡ n)
known_mode [] n a = absurd a
known_mode (m ∷ ms) n (inl e) = (m, inl refl, e)
known_mode (m ∷ ms) n (inr a) = let found : (k : ModeTree) × Among ms k × (k.name ≡ n) = known_mode ms n a in (found.0, inr found.1, found.2)

pub true_has : (b : Bool) → IsTrue (has (one (truth b)) (truth true)) ↔ (b ≡ true)
true_has true = ((λ h. refl), (λ h. refl))
true_has false = ((λ h. cc), (λ h. cc))

module _ (p : ProgramTree) (i : InstructionTree) (ok : IsWeavable p i) (at : Place) (m : ModuleTree) (is : IsInstance p at m) (s : SliceTree) (a : Among (slices_of i m.name) s) where
  mode_lawful : (mode : ModeTree) → Among s.modes mode → IsLawfulMode p at m (ok.slices at m s is a).type mode
  mode_lawful mode b = each_at (IsLawfulMode p at m (ok.slices at m s is a).type) s.modes mode (ok.slices at m s is a).modes b

  -- within one moment
  module _ (v : Valuation) (st : ModeState) (known : IsKnown s st) (mode_eq : v at (mode_variable s.name) ≡ symbol (mode_symbol s.name st))
      (r : Valuation) (agree : Agree p v r)
      (dr : IsTrue (in_domain (ok.slices at m s is a).type (v at s.target))) (dw : IsTrue (in_domain (ok.slices at m s is a).type (v at (own_name s.target)))) where
    leaves : (n : ℕ) → SliceLeaves s (ok.slices at m s is a).type (name_values (suc n) (woven p i) at v v) (v at s.target) (v at (own_name s.target)) st
    leaves n = slice_leaves p i ok n at m s v v (v at (own_name s.target)) st is a refl mode_eq

    branch_may : (b : Branch) (x : Value) →
        BranchAsks (λ c. IsTrue (in_domain (ok.slices at m s is a).type c)) (IsBoolean (ok.slices at m s is a).type) (λ passes. IsRange (ok.slices at m s is a).type) b →
        BranchHolds (λ c. Unit {0}) (IsReadable p at) (λ n. Unit {0}) b →
        May (woven p i) at v v (branch_tree b (ok.slices at m s is a).type s.target) x
        ↔ BranchAllows b (λ f y. May p at r r f y) (ok.slices at m s is a).type (v at (own_name s.target)) x
    branch_may (the_formula f) x asks h = may_agree p i ok at v v r r agree agree f x h
    branch_may b x asks h =
        let gives : (vs : Values) × (evaluate (name_values 1 (woven p i) at v v) (name_values 1 (woven p i) at v v) (branch_tree b (ok.slices at m s is a).type s.target) ≡ Some vs)
        × ((y : Value) → IsTrue (has vs y) ↔ BranchAllows b (λ f z. May p at r r f z) (ok.slices at m s is a).type (v at (own_name s.target)) y) =
        branch_gives s (ok.slices at m s is a).type (name_values 1 (woven p i) at v v) (name_values 1 (woven p i) at v v) (v at s.target) (v at (own_name s.target)) st (leaves 0) (λ f y. May p at r r f y) b asks (λ f e. cc) dw in
        iff_trans (may_value 1 (woven p i) at v v (branch_tree b (ok.slices at m s is a).type s.target) gives.0 x gives.1) (gives.2 x)

    effect_may : (mode : ModeTree) → Among s.modes mode → (x : Value) →
        May (woven p i) at v v (branch mode.effect (ok.slices at m s is a).type s.target) x
        ↔ BranchAllows (branch_of mode.effect) (λ f y. May p at r r f y) (ok.slices at m s is a).type (v at (own_name s.target)) x
    effect_may mode b x =
        let allowed = (mode_lawful mode b).effect_allowed in
        branch_may (branch_of mode.effect) x ((row_law mode.effect).asks _ _ _ allowed.0).0 ((row_law mode.effect).holds _ _ _ allowed.1).0

    tests : (n : ℕ) → Each (λ k. evaluate (name_values (suc n) (woven p i) at v v) (name_values (suc n) (woven p i) at v v) (stands s.name k.name) ≡ Some (one (truth (stands_at st k.name)))) s.modes
    tests n = each_all _ s.modes (λ k b. stands_value s (ok.slices at m s is a).type (name_values (suc n) (woven p i) at v v) (name_values (suc n) (woven p i) at v v) (v at s.target) (v at (own_name s.target)) st (leaves n) k.name (mode_known s s.modes k b) (mode_lawful k b).not_nominal)

    -- the condition that a mode's effect puts on a moment
    abbrev pub NowMode : ModeTree → Type 0
    NowMode mode = stands_at st mode.name ≡ true →
        BranchAllows (branch_of mode.effect) (λ f y. May p at r r f y) (ok.slices at m s is a).type (v at (own_name s.target)) (v at s.target)

    pub read_may : May (woven p i) at v v (read_tree (ok.slices at m s is a).type s) (v at s.target)
        ↔ ((st ≡ None → v at s.target ≡ v at (own_name s.target)) × Each NowMode s.modes)
    read_may =
        iff_trans (may_same (woven p i) at v v (read_tree (ok.slices at m s is a).type s) (chosen (λ k. branch k.effect (ok.slices at m s is a).type s.target) (named (own_name s.target)) st s.modes) (v at s.target)
        (λ n. case_value _ _ s.name st (λ k. branch k.effect (ok.slices at m s is a).type s.target) (named (own_name s.target)) s.modes (tests n)))
        (go st refl known)
      where
        go : (t : ModeState) → st ≡ t → IsKnown s t →
            May (woven p i) at v v (chosen (λ k. branch k.effect (ok.slices at m s is a).type s.target) (named (own_name s.target)) st s.modes) (v at s.target)
            ↔ ((st ≡ None → v at s.target ≡ v at (own_name s.target)) × Each NowMode s.modes)
        go None e k =
            let last : chosen (λ k. branch k.effect (ok.slices at m s is a).type s.target) (named (own_name s.target)) st s.modes ≡ named (own_name s.target) =
            rw e (chosen_none (λ k. branch k.effect (ok.slices at m s is a).type s.target) (named (own_name s.target)) s.modes) in
            let is_own : May (woven p i) at v v (named (own_name s.target)) (v at s.target) ↔ (v at s.target ≡ v at (own_name s.target)) =
            iff_trans (may_value 1 (woven p i) at v v (named (own_name s.target)) (one (v at (own_name s.target))) (v at s.target) (leaves 0).own_leaf) (one_has (v at (own_name s.target)) (v at s.target)) in (
              (λ h. ((λ _. is_own.0 (subst (λ f. May (woven p i) at v v f (v at s.target)) last h)), each_all _ s.modes (λ mode b q. let no' : stands_at None mode.name ≡ true = rw e at q in cc))),
              (λ h. subst (λ f. May (woven p i) at v v f (v at s.target)) (sym last) (is_own.1 (h.0 e))),
            )
        go (Some n) e k =
            let found : (mode : ModeTree) × Among s.modes mode × (mode.name ≡ n) = known_mode s.modes n k in
            let state_is : st ≡ Some found.0.name = e ∙ ap (λ x. Some x) (sym found.2) in
            let taken : chosen (λ k. branch k.effect (ok.slices at m s is a).type s.target) (named (own_name s.target)) st s.modes ≡ branch found.0.effect (ok.slices at m s is a).type s.target =
            rw state_is (chosen_some (λ k. branch k.effect (ok.slices at m s is a).type s.target) (named (own_name s.target)) s.modes found.0 found.1
            (λ b c. (ok.slices at m s is a).modes_differ found.0 b found.1 c)) in
            let effect : May (woven p i) at v v (branch found.0.effect (ok.slices at m s is a).type s.target) (v at s.target)
            ↔ BranchAllows (branch_of found.0.effect) (λ f y. May p at r r f y) (ok.slices at m s is a).type (v at (own_name s.target)) (v at s.target) =
            effect_may found.0 found.1 (v at s.target) in (
              (λ h. (
                (λ none. let no' : None ≡ Some n = sym none ∙ e in cc),
                each_all _ s.modes (λ mode b q.
                    let same_name : found.0.name ≡ mode.name = same_text_equal _ _ (subst (λ t. stands_at t mode.name ≡ true) state_is q) in
                    let same_mode : found.0 ≡ mode = (ok.slices at m s is a).modes_differ found.0 mode found.1 b same_name in
                    subst (λ k. BranchAllows (branch_of k.effect) (λ f y. May p at r r f y) (ok.slices at m s is a).type (v at (own_name s.target)) (v at s.target)) same_mode
                    (effect.0 (subst (λ f. May (woven p i) at v v f (v at s.target)) taken h))),
              )),
              (λ h. subst (λ f. May (woven p i) at v v f (v at s.target)) (sym taken)
                  (effect.1 (each_at _ s.modes found.0 h.1 found.1 (subst (λ t. stands_at t found.0.name ≡ true) (sym state_is) (same_text_refl found.0.name))))),
            )

    abbrev RuleMode : ModeTree → Type 0
    RuleMode mode = stands_at st mode.name ≡ true → RuleNow (rule_of mode.effect) (v at (own_name s.target)) (v at s.target)

    rule_each : (r : Option EffectRule) (n : Text) → IsKnown s (Some n) → n ≢ codes "nominal" →
        Each (EachSection (woven p i) at v) (rule_trees r s.name n s.target) ↔ (stands_at st n ≡ true → RuleNow r (v at (own_name s.target)) (v at s.target))
    rule_each (Some NotOwn) n k h =
        let value : May (woven p i) at v v (erroneous_rule s.name n s.target) (truth true) ↔ IsTrue (has (one (truth (opposite (stands_at st n) || opposite (same_value (v at s.target) (v at (own_name s.target)))))) (truth true)) =
        may_value 1 (woven p i) at v v (erroneous_rule s.name n s.target) (one (truth (opposite (stands_at st n) || opposite (same_value (v at s.target) (v at (own_name s.target)))))) (truth true)
        (erroneous_value s (ok.slices at m s is a).type (name_values 1 (woven p i) at v v) (name_values 1 (woven p i) at v v) (v at s.target) (v at (own_name s.target)) st (leaves 0) (ok.slices at m s is a).uniform dr dw n k h) in
        let test : May (woven p i) at v v (erroneous_rule s.name n s.target) (truth true) ↔ (stands_at st n ≡ true → opposite (same_value (v at s.target) (v at (own_name s.target))) ≡ true) =
        iff_trans value (iff_trans (true_has (opposite (stands_at st n) || opposite (same_value (v at s.target) (v at (own_name s.target))))) (implied (stands_at st n) (opposite (same_value (v at s.target) (v at (own_name s.target)))))) in (
          (λ q e. (differs_value (v at s.target) (v at (own_name s.target))).0 (test.0 q.0 e)),
          (λ q. (test.1 (λ e. (differs_value (v at s.target) (v at (own_name s.target))).1 (q e)), tt)),
        )
    rule_each None n k h = ((λ q e. tt), (λ q. tt))
    rule_each (Some AsBefore) n k h = ((λ q e. tt), (λ q. (tt, tt)))
    rule_each (Some AsEntered) n k h = ((λ q e. tt), (λ q. (tt, tt)))
    rule_each (Some (Falling d f)) n k h = ((λ q e. tt), (λ q. (tt, tt)))

    -- what a slice's sections ask of a moment: read as own where it is nominal, and what the mode's branch and INVAR say
    abbrev pub NowSlice : Type 0
    NowSlice = (st ≡ None → v at s.target ≡ v at (own_name s.target)) × (Each NowMode s.modes × Each RuleMode s.modes)

    pub slice_each : Each (EachSection (woven p i) at v) (slice_sections m s) ↔ NowSlice
    slice_each =
        let type_same : type_of_kind (kind_in m s.target) ≡ (ok.slices at m s is a).type = ap type_of_kind (ok.slices at m s is a).target_kind in
        let all_rules : Each (EachSection (woven p i) at v) (slice_rules s) ↔ Each RuleMode s.modes =
        iff_trans (each_flat_map (EachSection (woven p i) at v) (λ k. mode_rules s.start k.effect s.name k.name s.target) s.modes)
        (each_iff (λ k. Each (EachSection (woven p i) at v) (mode_rules s.start k.effect s.name k.name s.target)) RuleMode s.modes
        (λ k b. iff_trans (mode_rules_plain (EachSection (woven p i) at v) (λ f. tt) s.start k.effect s.name k.name s.target)
        (rule_each (rule_of k.effect) k.name (mode_known s s.modes k b) (mode_lawful k b).not_nominal))) in (
          (λ h.
              let now : (st ≡ None → v at s.target ≡ v at (own_name s.target)) × Each NowMode s.modes =
              read_may.0 (subst (λ t. May (woven p i) at v v (read_tree t s) (v at s.target)) type_same h.1.0.1.1.0) in
              (now.0, (now.1, all_rules.0 h.1.1))),
          (λ h. (tt, ((tt, (tt, (subst (λ t. May (woven p i) at v v (read_tree t s) (v at s.target)) (sym type_same) (read_may.1 (h.0, h.1.0)), tt))), all_rules.1 h.1.1))),
        )
