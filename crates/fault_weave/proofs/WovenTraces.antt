-- The traces of the woven program are the extended traces.
use Rattle.std.proofs.Common.{◌≡◌, inl, inr, ◌↔◌, Bool, true, List, [], ◌∷◌, Some, None, refl, sym, ◌∙◌, subst}
use Rattle.std.specs.Prelude.{IsTrue}
use Rattle.smv_language.specs.Language.{Text, SectionTree, var, ivar, frozen, define, constants, assign, init, invar, trans, ModuleTree, ProgramTree, Value, opposite, same_text, Place, kind_in, Valuation, May, Each, EachPair, AtSome, AtFirst, IsInstance, in_domain, FirstSection, EachSection, StepSection, DomainSection, IsFirst, InDomains, IsMoment, IsStep, IsTrace}
use Rattle.smv_language.specs.Values.{truth}
use Rattle.smv_language.proofs.ValueLaws.{same_text_refl}
use Rattle.fault_instructions.specs.Instructions.{ModeTree, SliceTree, InstructionTree, slices_of, is_affected}
use Rattle.fault_instructions.specs.AddedNames.{ModeState}
use Rattle.fault_instructions.specs.Effects.{branch_of, rule_of, Allows}
use Rattle.fault_weave.specs.Moves.{Starts, Moves}
use Rattle.fault_weave.specs.ExtensionTraces as extended
use Rattle.fault_weave.specs.ExtensionTraces.{Moment, EachSlice, Effected, StepSlice, FirstSlice, entered, type_of, IsExtended}
use Rattle.fault_weave.specs.Conservative.{IsCutMoment, IsCut}
use Rattle.fault_weave.specs.WovenProgram.{slice_sections, woven_section, woven_module, woven}
use Rattle.fault_instructions.specs.KindTypes.{type_of_kind}
use Rattle.fault_instructions.specs.Weavable.{Among, IsLawfulSection, IsWeavable}
use Rattle.fault_instructions.specs.Types.{IsKnown}
use Rattle.fault_instructions.proofs.Equivalence.{iff_refl}
use Rattle.fault_instructions.proofs.AmongLaws.{each_iff, each_at, each_all, each_both, each_mono}
use Rattle.fault_instructions.proofs.EffectRows.{BranchAllows, RuleNow, RuleStep, row_law}
use Rattle.fault_weave.proofs.WovenSlices.{known_mode}
use Rattle.fault_weave.proofs.WovenMoves.{slice_step}
use Rattle.fault_weave.proofs.WovenSections.{section_step}
use Rattle.fault_weave.proofs.WovenMoments.{declares_domain, all_instances, split, first_iff, moment_iff, slice_known, slice_at, target_declared, type_same, read_same}
use Rattle.smv_language.proofs.OneTree.{same_text_equal}
use Rattle.smv_language.proofs.BoolLaws.{iff_trans, iff_sym}
use Rattle.fault_instructions.specs.EffectLaw.{stands_at}

some_find : (ms : List ModeTree) (n : Text) (C : ModeTree → Type 0) → AtSome (λ k. (k.name ≡ n) × C k) ms → (k : ModeTree) × Among ms k × (k.name ≡ n) × C k
some_find [] n C h = absurd h
some_find (k ∷ ms) n C (inl h) = (k, inl refl, h.0, h.1)
some_find (k ∷ ms) n C (inr h) = let found : (z : ModeTree) × Among ms z × (z.name ≡ n) × C z = some_find ms n C h in (found.0, inr found.1, found.2, found.3)

some_put : (ms : List ModeTree) (C : ModeTree → Type 0) (k : ModeTree) → Among ms k → C k → AtSome C ms
some_put [] C k a h = absurd a
some_put (z ∷ ms) C k (inl e) h = inl (subst C (sym e) h)
some_put (z ∷ ms) C k (inr a) h = inr (some_put ms C k a h)

each_parts : (ms : List ModeTree) (C A X Y Z : ModeTree → Type 0) → ((k : ModeTree) → A k ↔ (X k × Y k × Z k)) →
    Each (λ k. C k → A k) ms ↔ ((Each (λ k. C k → X k) ms × Each (λ k. C k → Y k) ms) × Each (λ k. C k → Z k) ms)
each_parts [] C A X Y Z f = ((λ h. ((tt, tt), tt)), (λ h. tt))
each_parts (k ∷ ms) C A X Y Z f =
    let more : Each (λ k. C k → A k) ms ↔ ((Each (λ k. C k → X k) ms × Each (λ k. C k → Y k) ms) × Each (λ k. C k → Z k) ms) = each_parts ms C A X Y Z f in (
      (λ h. (((λ c. ((f k).0 (h.0 c)).0, (more.0 h.1).0.0), (λ c. ((f k).0 (h.0 c)).1, (more.0 h.1).0.1)), (λ c. ((f k).0 (h.0 c)).2, (more.0 h.1).1))),
      (λ h. ((λ c. (f k).1 (h.0.0.0 c, h.0.1.0 c, h.1.0 c)), more.1 ((h.0.0.1, h.0.1.1), h.1.1))),
    )

-- what the modes that stand say of a moment alone
abbrev pub NowRowOf : ProgramTree → Place → ModuleTree → Moment → SliceTree → Type 0
NowRowOf p at m mo s =
    Each (λ k. stands_at (mo.mode at s.name) k.name ≡ true → BranchAllows (branch_of k.effect) (λ f y. May p at mo.read mo.read f y) (type_of_kind (kind_in m s.target)) (mo.own at s.target) (mo.read at s.target)) s.modes
    × Each (λ k. stands_at (mo.mode at s.name) k.name ≡ true → RuleNow (rule_of k.effect) (mo.own at s.target) (mo.read at s.target)) s.modes

abbrev pub StepRules : Place → Moment → Moment → SliceTree → Type 0
StepRules at mo mo' s =
    Each (λ k. stands_at (mo'.mode at s.name) k.name ≡ true → RuleStep (rule_of k.effect) (mo.read at s.target) (opposite (stands_at (mo.mode at s.name) k.name)) (mo'.read at s.target)) s.modes

abbrev pub StepRow : ProgramTree → Place → Moment → Moment → SliceTree → Type 0
StepRow p at mo mo' s = Moves s.modes (λ g. May p at mo.read mo.read g (truth true)) (mo.mode at s.name) (mo'.mode at s.name) × StepRules at mo mo' s

abbrev pub StartRowOf : Place → Moment → SliceTree → Type 0
StartRowOf at mo s =
    Starts s.start s.modes (mo.mode at s.name) × Each (λ k. stands_at (mo.mode at s.name) k.name ≡ true → RuleStep (rule_of k.effect) (mo.own at s.target) true (mo.read at s.target)) s.modes

abbrev pub NowRows : ProgramTree → InstructionTree → Moment → Type 0
NowRows p i mo = (at : Place) (m : ModuleTree) → IsInstance p at m → Each (NowRowOf p at m mo) (slices_of i m.name)

module _ (p : ProgramTree) (i : InstructionTree) (ok : IsWeavable p i) where
  entered_is : (at : Place) (m : ModuleTree) (st : ModeState) (n : Text) → entered p i at m st n ≡ opposite (stands_at st n)
  entered_is at m None n = refl
  entered_is at m (Some k) n = refl

  module _ (at : Place) (m : ModuleTree) (is : IsInstance p at m) (mo : Moment) (s : SliceTree) (a : Among (slices_of i m.name) s) (before : Value) (is_entered : Text → Bool) where
    abbrev AllowedIn : ModeTree → Bool → Type 0
    AllowedIn k e = Allows k.effect (λ f x. May p at mo.read mo.read f x) (type_of_kind (kind_in m s.target)) (mo.own at s.target) before e (mo.read at s.target)

    type_of_is : type_of p i at m (kind_in m s.target) ≡ type_of_kind (kind_in m s.target)
    type_of_is = rw (ok.slices at m s is a).target_kind refl

    -- the effect of the mode that stands, mode by mode
    effected_each : (st : ModeState) → IsKnown s st →
        Effected p i at m mo s before is_entered st ↔ Each (λ k. stands_at st k.name ≡ true → AllowedIn k (is_entered k.name)) s.modes
    effected_each None known = ((λ h. each_all _ s.modes (λ k b c. cc)), (λ h. tt))
    effected_each (Some n) known =
        subst (λ t. AtSome (λ k. (k.name ≡ n) × Allows k.effect (λ f x. May p at mo.read mo.read f x) t (mo.own at s.target) before (is_entered n) (mo.read at s.target)) s.modes
        ↔ Each (λ k. stands_at (Some n) k.name ≡ true → AllowedIn k (is_entered k.name)) s.modes) (sym type_of_is) (to, from)
      where
        to : AtSome (λ k. (k.name ≡ n) × AllowedIn k (is_entered n)) s.modes → Each (λ k. stands_at (Some n) k.name ≡ true → AllowedIn k (is_entered k.name)) s.modes
        to h =
            let found : (k : ModeTree) × Among s.modes k × (k.name ≡ n) × AllowedIn k (is_entered n) = some_find s.modes n (λ k. AllowedIn k (is_entered n)) h in
            each_all _ s.modes (λ k b c.
            let name : n ≡ k.name = same_text_equal n k.name c in
            let same : found.0 ≡ k = (ok.slices at m s is a).modes_differ found.0 k found.1 b (found.2 ∙ name) in
            subst (λ x. AllowedIn k (is_entered x)) name (subst (λ z. AllowedIn z (is_entered n)) same found.3))

        from : Each (λ k. stands_at (Some n) k.name ≡ true → AllowedIn k (is_entered k.name)) s.modes → AtSome (λ k. (k.name ≡ n) × AllowedIn k (is_entered n)) s.modes
        from h =
            let found : (k : ModeTree) × Among s.modes k × (k.name ≡ n) = known_mode s.modes n known in
            some_put s.modes (λ k. (k.name ≡ n) × AllowedIn k (is_entered n)) found.0 found.1 (
              found.2,
              subst (λ x. AllowedIn found.0 (is_entered x)) found.2
                  (each_at (λ k. stands_at (Some n) k.name ≡ true → AllowedIn k (is_entered k.name)) s.modes found.0 h found.1
                  (subst (λ x. same_text n x ≡ true) (sym found.2) (same_text_refl n))),
            )

    -- what the mode's TRANS or INIT says
    abbrev StepRulesBy : (Text → Bool) → Type 0
    StepRulesBy e = Each (λ k. stands_at (mo.mode at s.name) k.name ≡ true → RuleStep (rule_of k.effect) before (e k.name) (mo.read at s.target)) s.modes

    effected_rows : IsKnown s (mo.mode at s.name) → IsTrue (in_domain (type_of_kind (kind_in m s.target)) (mo.read at s.target)) →
        Effected p i at m mo s before is_entered (mo.mode at s.name) ↔ (NowRowOf p at m mo s × StepRulesBy is_entered)
    effected_rows known d =
        iff_trans (effected_each (mo.mode at s.name) known)
        (each_parts s.modes (λ k. stands_at (mo.mode at s.name) k.name ≡ true) (λ k. AllowedIn k (is_entered k.name))
        (λ k. BranchAllows (branch_of k.effect) (λ f y. May p at mo.read mo.read f y) (type_of_kind (kind_in m s.target)) (mo.own at s.target) (mo.read at s.target))
        (λ k. RuleNow (rule_of k.effect) (mo.own at s.target) (mo.read at s.target))
        (λ k. RuleStep (rule_of k.effect) before (is_entered k.name) (mo.read at s.target))
        (λ k. (row_law k.effect).allows (λ f y. May p at mo.read mo.read f y) (type_of_kind (kind_in m s.target)) (mo.own at s.target) before (is_entered k.name) (mo.read at s.target) d))

  -- domains of the program at an instance
  own_domains : (mo : Moment) (at : Place) (m : ModuleTree) → Each (extended.DomainSection p i at m mo) m.sections → Each (DomainSection at mo.read) m.sections
  own_domains mo at m h = each_mono _ _ m.sections (λ x a q. part x q) h
    where
      part : (x : SectionTree) → extended.DomainSection p i at m mo x → DomainSection at mo.read x
      part (var ds) h = each_mono _ _ ds (λ d a q. q.0) h
      part (ivar ds) h = each_mono _ _ ds (λ d a q. q.0) h
      part (frozen ds) h = each_mono _ _ ds (λ d a q. q.0) h
      part (define ds) h = tt
      part (constants xs) h = tt
      part (assign xs) h = tt
      part (init t) h = tt
      part (invar t) h = tt
      part (trans t) h = tt

  inside : (mo : Moment) → extended.IsMoment p i mo → InDomains p mo.read
  inside mo h at m is = own_domains mo at m (h at m is).0

  module _ (v v' : Valuation) (mo mo' : Moment) (cut : IsCutMoment p i v mo) (cut' : IsCutMoment p i v' mo') (good : extended.IsMoment p i mo) (good' : extended.IsMoment p i mo') where
    target_domain : (u : Valuation) (mu : Moment) → IsCutMoment p i u mu → extended.IsMoment p i mu → (at : Place) (m : ModuleTree) (is : IsInstance p at m) (s : SliceTree) (a : Among (slices_of i m.name) s) →
        IsTrue (in_domain (ok.slices at m s is a).type (mu.read at s.target))
    target_domain u mu cut_u good_u at m is s a =
        declares_domain (ok.slices at m s is a).type mu.read at s.target (ok.slices at m s is a).finite (target_declared p i ok at m is u mu cut_u s a (good_u at m is).0).0

    slice_rows : (at : Place) (m : ModuleTree) (is : IsInstance p at m) (s : SliceTree) (a : Among (slices_of i m.name) s) → Each (StepSection (woven p i) at v v') (slice_sections m s) ↔ StepRow p at mo mo' s
    slice_rows at m is s a =
        subst (λ x. Each (StepSection (woven p i) at v v') (slice_sections m s) ↔ Rows x (mo'.read at s.target)) (read_same p i ok at m is v mo cut s a)
        (subst (λ y. Each (StepSection (woven p i) at v v') (slice_sections m s) ↔ Rows (v at s.target) y) (read_same p i ok at m is v' mo' cut' s a)
        (slice_step p i ok at m is s a v v' (mo.mode at s.name) (mo'.mode at s.name) (slice_known p i ok at m is v mo cut s a) (slice_known p i ok at m is v' mo' cut' s a)
        (cut.mode at s (slice_at p i ok at m is v mo cut s a)) (cut'.mode at s (slice_at p i ok at m is v' mo' cut' s a)) mo.read mo'.read cut.read cut'.read (inside mo good)
        (subst (λ x. IsTrue (in_domain (ok.slices at m s is a).type x)) (sym (read_same p i ok at m is v mo cut s a)) (target_domain v mo cut good at m is s a))
        (subst (λ x. IsTrue (in_domain (ok.slices at m s is a).type x)) (sym (read_same p i ok at m is v' mo' cut' s a)) (target_domain v' mo' cut' good' at m is s a))))
      where
        Rows : Value → Value → Type 0
        Rows x y = Moves s.modes (λ g. May p at mo.read mo.read g (truth true)) (mo.mode at s.name) (mo'.mode at s.name)
            × Each (λ k. stands_at (mo'.mode at s.name) k.name ≡ true → RuleStep (rule_of k.effect) x (opposite (stands_at (mo.mode at s.name) k.name)) y) s.modes

    step_slice : (at : Place) (m : ModuleTree) (is : IsInstance p at m) (s : SliceTree) (a : Among (slices_of i m.name) s) → StepSlice p i at m mo mo' s ↔ (StepRow p at mo mo' s × NowRowOf p at m mo' s)
    step_slice at m is s a =
        let effect : Effected p i at m mo' s (mo.read at s.target) (entered p i at m (mo.mode at s.name)) (mo'.mode at s.name)
        ↔ (NowRowOf p at m mo' s × Each (λ k. stands_at (mo'.mode at s.name) k.name ≡ true → RuleStep (rule_of k.effect) (mo.read at s.target) (entered p i at m (mo.mode at s.name) k.name) (mo'.read at s.target)) s.modes) =
        effected_rows at m is mo' s a (mo.read at s.target) (entered p i at m (mo.mode at s.name)) (slice_known p i ok at m is v' mo' cut' s a)
        (subst (λ t. IsTrue (in_domain t (mo'.read at s.target))) (sym (type_same p i ok at m is v' mo' cut' s a)) (target_domain v' mo' cut' good' at m is s a)) in
        let rules : Each (λ k. stands_at (mo'.mode at s.name) k.name ≡ true → RuleStep (rule_of k.effect) (mo.read at s.target) (entered p i at m (mo.mode at s.name) k.name) (mo'.read at s.target)) s.modes ↔ StepRules at mo mo' s =
        each_iff _ _ s.modes (λ k b.
        subst (λ e. (stands_at (mo'.mode at s.name) k.name ≡ true → RuleStep (rule_of k.effect) (mo.read at s.target) (entered p i at m (mo.mode at s.name) k.name) (mo'.read at s.target))
        ↔ (stands_at (mo'.mode at s.name) k.name ≡ true → RuleStep (rule_of k.effect) (mo.read at s.target) e (mo'.read at s.target))) (entered_is at m (mo.mode at s.name) k.name) iff_refl) in
        ((λ h. ((h.0, rules.0 (effect.0 h.1).1), (effect.0 h.1).0)), (λ h. (h.0.0, effect.1 (h.1, rules.1 h.0.1))))

    -- a step of the woven program, with what the modes that stand next say of that moment, is an extended step
    pub step_iff : (IsStep (woven p i) v v' × NowRows p i mo') ↔ extended.IsStep p i mo mo'
    step_iff = (to, from)
      where
        own_sections : (at : Place) (m : ModuleTree) (is : IsInstance p at m) → Each (λ x. StepSection (woven p i) at v v' (woven_section (is_affected i m.name) x)) m.sections ↔ Each (extended.StepSection p i at m mo mo') m.sections
        own_sections at m is = each_iff _ _ m.sections (λ x a. section_step p i ok at m is v v' mo mo' cut cut' x (each_at (IsLawfulSection p at m) m.sections x (ok.instances at m is).sections a))

        slices : (at : Place) (m : ModuleTree) (is : IsInstance p at m) → Each (λ s. Each (StepSection (woven p i) at v v') (slice_sections m s)) (slices_of i m.name) ↔ Each (StepRow p at mo mo') (slices_of i m.name)
        slices at m is = each_iff _ _ (slices_of i m.name) (slice_rows at m is)

        extended_slices : (at : Place) (m : ModuleTree) (is : IsInstance p at m) →
            (Each (StepRow p at mo mo') (slices_of i m.name) × Each (NowRowOf p at m mo') (slices_of i m.name)) ↔ Each (StepSlice p i at m mo mo') (slices_of i m.name)
        extended_slices at m is =
            iff_trans (each_both (StepRow p at mo mo') (NowRowOf p at m mo') (slices_of i m.name))
            (each_iff _ _ (slices_of i m.name) (λ s a. iff_sym (step_slice at m is s a)))

        to : IsStep (woven p i) v v' × NowRows p i mo' → extended.IsStep p i mo mo'
        to h at m is =
            let parts : Each (λ x. StepSection (woven p i) at v v' (woven_section (is_affected i m.name) x)) m.sections × Each (λ s. Each (StepSection (woven p i) at v v') (slice_sections m s)) (slices_of i m.name) =
            (split p i ok (StepSection (woven p i) at v v') m).0 ((all_instances p i ok (λ at m. Each (StepSection (woven p i) at v v') m.sections)).0 h.0 at m is) in
            ((own_sections at m is).0 parts.0, (extended_slices at m is).0 ((slices at m is).0 parts.1, h.1 at m is))

        from : extended.IsStep p i mo mo' → IsStep (woven p i) v v' × NowRows p i mo'
        from h = (
          (all_instances p i ok (λ at m. Each (StepSection (woven p i) at v v') m.sections)).1
              (λ at m is. (split p i ok (StepSection (woven p i) at v v') m).1
              ((own_sections at m is).1 (h at m is).0, (slices at m is).1 ((extended_slices at m is).1 (h at m is).1).0)),
          (λ at m is. ((extended_slices at m is).1 (h at m is).1).1),
        )

  module _ (v : Valuation) (mo : Moment) (cut : IsCutMoment p i v mo) where
    pub moments_iff : IsMoment (woven p i) v ↔ (extended.IsMoment p i mo × NowRows p i mo)
    moments_iff = (
      (λ h.
          let all : (at : Place) (m : ModuleTree) (is : IsInstance p at m) →
          (Each (extended.DomainSection p i at m mo) m.sections × Each (extended.EachSection p i at m mo) m.sections × Each (EachSlice p i at m mo) (slices_of i m.name)) × Each (NowRowOf p at m mo) (slices_of i m.name) =
          λ at m is. (moment_iff p i ok at m is v mo cut).0
          ((all_instances p i ok (λ at m. Each (DomainSection at v) m.sections)).0 h.0 at m is, (all_instances p i ok (λ at m. Each (EachSection (woven p i) at v) m.sections)).0 h.1 at m is) in
          ((λ at m is. (all at m is).0), (λ at m is. (all at m is).1))),
      (λ h. (
        (all_instances p i ok (λ at m. Each (DomainSection at v) m.sections)).1 (λ at m is. ((moment_iff p i ok at m is v mo cut).1 (h.0 at m is, h.1 at m is)).0),
        (all_instances p i ok (λ at m. Each (EachSection (woven p i) at v) m.sections)).1 (λ at m is. ((moment_iff p i ok at m is v mo cut).1 (h.0 at m is, h.1 at m is)).1),
      )),
    )

    module _ (good : extended.IsMoment p i mo) where
      first_slice : (at : Place) (m : ModuleTree) (is : IsInstance p at m) (s : SliceTree) (a : Among (slices_of i m.name) s) → FirstSlice p i at m mo s ↔ (StartRowOf at mo s × NowRowOf p at m mo s)
      first_slice at m is s a =
          let inside : IsTrue (in_domain (type_of_kind (kind_in m s.target)) (mo.read at s.target)) =
          subst (λ t. IsTrue (in_domain t (mo.read at s.target))) (sym (type_same p i ok at m is v mo cut s a))
          (declares_domain (ok.slices at m s is a).type mo.read at s.target (ok.slices at m s is a).finite (target_declared p i ok at m is v mo cut s a (good at m is).0).0) in
          let effect : Effected p i at m mo s (mo.own at s.target) (λ n. true) (mo.mode at s.name)
          ↔ (NowRowOf p at m mo s × Each (λ k. stands_at (mo.mode at s.name) k.name ≡ true → RuleStep (rule_of k.effect) (mo.own at s.target) true (mo.read at s.target)) s.modes) =
          effected_rows at m is mo s a (mo.own at s.target) (λ n. true) (slice_known p i ok at m is v mo cut s a) inside in
          ((λ h. ((h.0, (effect.0 h.1).1), (effect.0 h.1).0)), (λ h. (h.0.0, effect.1 (h.1, h.0.1))))

      first_parts : (at : Place) (m : ModuleTree) (is : IsInstance p at m) →
          (Each (FirstSection (woven p i) at v) (woven_module i m).sections × Each (NowRowOf p at m mo) (slices_of i m.name))
          ↔ (Each (extended.FirstSection p i at m mo) m.sections × Each (FirstSlice p i at m mo) (slices_of i m.name))
      first_parts at m is =
          let slices : (Each (StartRowOf at mo) (slices_of i m.name) × Each (NowRowOf p at m mo) (slices_of i m.name)) ↔ Each (FirstSlice p i at m mo) (slices_of i m.name) =
          iff_trans (each_both (StartRowOf at mo) (NowRowOf p at m mo) (slices_of i m.name)) (each_iff _ _ (slices_of i m.name) (λ s a. iff_sym (first_slice at m is s a))) in
          let own : Each (FirstSection (woven p i) at v) (woven_module i m).sections ↔ (Each (extended.FirstSection p i at m mo) m.sections × Each (StartRowOf at mo) (slices_of i m.name)) =
          first_iff p i ok at m is v mo cut (good at m is).0 in (
            (λ h. ((own.0 h.0).0, slices.0 ((own.0 h.0).1, h.1))),
            (λ h. (own.1 (h.0, (slices.1 h.1).0), (slices.1 h.1).1)),
          )

      -- a first moment of the woven program, with what the modes that stand say of it, is an extended first moment
      pub firsts_iff : (IsFirst (woven p i) v × NowRows p i mo) ↔ extended.IsFirst p i mo
      firsts_iff =
          let all : IsFirst (woven p i) v ↔ ((at : Place) (m : ModuleTree) → IsInstance p at m → Each (FirstSection (woven p i) at v) (woven_module i m).sections) =
          all_instances p i ok (λ at m. Each (FirstSection (woven p i) at v) m.sections) in (
            (λ h at m is. (first_parts at m is).0 (all.0 h.0 at m is, h.1 at m is)),
            (λ h. (all.1 (λ at m is. ((first_parts at m is).1 (h at m is)).0), (λ at m is. ((first_parts at m is).1 (h at m is)).1))),
          )

  all_moments : (vs : List Valuation) (trace : List Moment) → IsCut p i vs trace → Each (IsMoment (woven p i)) vs ↔ (Each (extended.IsMoment p i) trace × Each (NowRows p i) trace)
  all_moments [] [] cut = ((λ h. (tt, tt)), (λ h. tt))
  all_moments [] (mo ∷ trace) cut = absurd cut
  all_moments (v ∷ vs) [] cut = absurd cut
  all_moments (v ∷ vs) (mo ∷ trace) cut =
      let here : IsMoment (woven p i) v ↔ (extended.IsMoment p i mo × NowRows p i mo) = moments_iff v mo cut.0 in
      let more : Each (IsMoment (woven p i)) vs ↔ (Each (extended.IsMoment p i) trace × Each (NowRows p i) trace) = all_moments vs trace cut.1 in
      ((λ h. (((here.0 h.0).0, (more.0 h.1).0), ((here.0 h.0).1, (more.0 h.1).1))), (λ h. (here.1 (h.0.0, h.1.0), more.1 (h.0.1, h.1.1))))

  steps_to : (vs : List Valuation) (trace : List Moment) → IsCut p i vs trace → Each (extended.IsMoment p i) trace → Each (NowRows p i) trace → EachPair (IsStep (woven p i)) vs → EachPair (extended.IsStep p i) trace
  steps_to [] [] cut good rows h = tt
  steps_to [] (mo ∷ trace) cut good rows h = absurd cut
  steps_to (v ∷ vs) [] cut good rows h = absurd cut
  steps_to (v ∷ []) (mo ∷ []) cut good rows h = tt
  steps_to (v ∷ []) (mo ∷ mo' ∷ trace) cut good rows h = absurd cut.1
  steps_to (v ∷ v' ∷ vs) (mo ∷ []) cut good rows h = absurd cut.1
  steps_to (v ∷ v' ∷ vs) (mo ∷ mo' ∷ trace) cut good rows h =
      ((step_iff v v' mo mo' cut.0 cut.1.0 good.0 good.1.0).0 (h.0, rows.1.0), steps_to (v' ∷ vs) (mo' ∷ trace) cut.1 good.1 rows.1 h.1)

  steps_from : (vs : List Valuation) (trace : List Moment) → IsCut p i vs trace → Each (extended.IsMoment p i) trace → AtFirst (NowRows p i) trace → EachPair (extended.IsStep p i) trace →
      Each (NowRows p i) trace × EachPair (IsStep (woven p i)) vs
  steps_from [] [] cut good rows h = absurd rows
  steps_from [] (mo ∷ trace) cut good rows h = absurd cut
  steps_from (v ∷ vs) [] cut good rows h = absurd cut
  steps_from (v ∷ []) (mo ∷ []) cut good rows h = ((rows, tt), tt)
  steps_from (v ∷ []) (mo ∷ mo' ∷ trace) cut good rows h = absurd cut.1
  steps_from (v ∷ v' ∷ vs) (mo ∷ []) cut good rows h = absurd cut.1
  steps_from (v ∷ v' ∷ vs) (mo ∷ mo' ∷ trace) cut good rows h =
      let step : IsStep (woven p i) v v' × NowRows p i mo' = (step_iff v v' mo mo' cut.0 cut.1.0 good.0 good.1.0).1 h.0 in
      let more : Each (NowRows p i) (mo' ∷ trace) × EachPair (IsStep (woven p i)) (v' ∷ vs) = steps_from (v' ∷ vs) (mo' ∷ trace) cut.1 good.1 step.1 h.1 in
      ((rows, more.0), (step.0, more.1))

  pub traces_iff : (vs : List Valuation) (trace : List Moment) → IsCut p i vs trace → IsTrace (woven p i) vs ↔ IsExtended p i trace
  traces_iff [] [] cut = ((λ h. absurd h.first), (λ h. absurd h.first))
  traces_iff [] (mo ∷ trace) cut = absurd cut
  traces_iff (v ∷ vs) [] cut = absurd cut
  traces_iff (v ∷ vs) (mo ∷ trace) cut = (
    (λ h.
        let all : Each (extended.IsMoment p i) (mo ∷ trace) × Each (NowRows p i) (mo ∷ trace) = (all_moments (v ∷ vs) (mo ∷ trace) cut).0 h.moments in
        record { first = (firsts_iff v mo cut.0 all.0.0).0 (h.first, all.1.0); moments = all.0; steps = steps_to (v ∷ vs) (mo ∷ trace) cut all.0 all.1 h.steps }),
    (λ h.
        let start : IsFirst (woven p i) v × NowRows p i mo = (firsts_iff v mo cut.0 h.moments.0).1 h.first in
        let all : Each (NowRows p i) (mo ∷ trace) × EachPair (IsStep (woven p i)) (v ∷ vs) = steps_from (v ∷ vs) (mo ∷ trace) cut h.moments start.1 h.steps in
        record { first = start.0; moments = (all_moments (v ∷ vs) (mo ∷ trace) cut).1 (h.moments, all.0); steps = all.1 }),
  )
