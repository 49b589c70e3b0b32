-- Modes that break no rule at any instance are good.
use Rattle.std.proofs.Common.{◌≡◌, ◌⊎◌, inl, inr, ℕ, suc, Bool, true, false, List, [], ◌∷◌, ◌++◌, map, Option, Some, None, refl, sym, ◌∙◌, ap, subst}
use Rattle.std.specs.Prelude.{codes, slice_get, Result, Ok, Err, IfOk, OnOk}
use Rattle.smv_language.specs.Language.{Tree, Text, Formula, DeclaredTree, ModuleTree, ProgramTree, program_tree, same_text, Each, IsInstance, Place, find_module, FlatLeaf, FlatInstance, FlatModel}
use Rattle.fault_instructions.specs.Instructions.{EffectTree, plain, of_constant, of_expression, of_number, of_numbers, ModeTree, SliceTree, ExtensionTree, InstructionTree, slices_from}
use Rattle.smv_flat_laws.specs.Items.{instances_of}
use Rattle.smv_flat_laws.specs.Looks.{ActualsMean}
use Rattle.smv_flat_laws.specs.NameResolution.{has_next}
use Rattle.smv_flat_laws.specs.Rules.{Rule, next_here, IsWalkable, IsAccepted}
use Rattle.smv_flat_laws.specs.Model.{IsFlatOf}
use Rattle.smv_flat_laws.proofs.Reaches.{each_left, each_right}
use Rattle.smv_flat_laws.proofs.Lists.{each_map, each_more}
use Rattle.smv_flat_laws.proofs.Conditions.{each_at, each_flat}
use Rattle.smv_flat_laws.proofs.Sections.{AreInstances}
use Rattle.smv_flat_laws.proofs.Places.{are_instances}
use Rattle.smv_flat_laws.proofs.Walkable.{accepted_walkable, main_is_there}
use Rattle.smv_type_laws.specs.ExpressionKinds.{KindRule}
use Rattle.smv_type_laws.specs.Models.{least, judged_in, IsTyped}
use Rattle.smv_type_laws.proofs.Least.{least_none}
use Rattle.smv_type_laws.proofs.Parts.{none_first, none_second}
use Rattle.fault_instructions.specs.Weavable.{Among, IsWeavable}
use Rattle.fault_weave.specs.Conservative.{IsExtensionOf}
use Rattle.fault_weave.specs.WovenProgram.{woven}
use Rattle.fault_weave.proofs.WovenNominal.{woven_extends}
use Rattle.fault_rules.specs.Sites.{OwnedSlice, owned, item_sites}
use Rattle.fault_rules.specs.Faults.{file_slices}
use Rattle.fault_rules.specs.PlacedSlices.{PlacedSlice, placed_from}
use Rattle.fault_rules.specs.Prerequisites.{IsJudged}
use Rattle.fault_extend_laws.specs.Uses.{Use, uses_at}
use Rattle.fault_extend_laws.specs.SliceUses.{modes_from, uses_of_slice}
use Rattle.fault_extend_laws.specs.Expressions.{followed, SomeBreaks, IsForm, broken_by, class_of_followed, class_of_guard, or_else, KeepsUse, AllUsesKept}
use Rattle.fault_extend_laws.proofs.SliceLaws.{placed_are, uses_are}
use Rattle.fault_extend.specs.declared.faults.Woven.{Woven}
use Rattle.fault_extend.specs.JudgedLaws.{IsGoodCondition, IsGoodValue, IsGoodEffect, IsGoodGuard, IsGoodMode, AreGoodModes}
use Rattle.fault_extend.proofs.LawfulLaws.{lawful_instance}
use Rattle.fault_extend.proofs.JudgedModes.{good_is_judged}
use Rattle.std.proofs.lemmas.Bool.{false_from_ne_true as not_true}
use Rattle.smv_flat.proofs.JudgeValues.{some_split}
use Rattle.smv_language.proofs.ProgramLaws.{found_named}

-- no rule of kinds: the lists of which the least is taken are empty
abbrev NoneOfBoth : List KindRule → List KindRule → Type 0
NoneOfBoth rs qs = (rs ≡ []) × (qs ≡ [])

none_of_both : (rs qs : List KindRule) → or_else (least rs) (least qs) ≡ None → NoneOfBoth rs qs
none_of_both rs qs e = by_least (least rs) refl e
  where
    by_least : (o : Option KindRule) → least rs ≡ o → or_else o (least qs) ≡ None → NoneOfBoth rs qs
    by_least None is none = (least_none rs is, least_none qs none)
    by_least (Some r) is none = cc

module _ (p : ProgramTree) (m : FlatModel) (is : IsFlatOf p m) (at : Place) where
  without_next : (inputs : Bool) (e : Formula) → ((r : Rule) → SomeBreaks p at inputs (Some e) r → ⊥) → has_next e ≡ false
  without_next inputs e kept = not_true (has_next e) (kept next_here)

  good_value : (e : Formula) (flat : Option (Tree FlatLeaf)) → ((r : Rule) → SomeBreaks p at false (Some e) r → ⊥) → IsForm p m at (Some e) flat → broken_by m flat ≡ [] → IsGoodValue p m is.written at e
  good_value e None names form kept = absurd form
  good_value e (Some flat) names form kept =
      let r = form is in record { resolver = r.0; sound = r.1; flat = flat; resolved = r.2; no_next = without_next false e names; kept = kept }

  good_condition : (e : Formula) (flat : Option (Tree FlatLeaf)) → ((r : Rule) → SomeBreaks p at true (Some e) r → ⊥) → IsForm p m at (Some e) flat → broken_by m flat ≡ [] → class_of_guard m flat ≡ [] →
      IsGoodCondition p m is.written at e
  good_condition e None names form kept truth = absurd form
  good_condition e (Some flat) names form kept truth =
      let r = form is in
      record { resolver = r.0; sound = r.1; flat = flat; resolved = r.2; no_next = without_next true e names; kept = ap (λ rs. rs ++ (judged_in m false flat).broken) truth ∙ kept }

  of_effect : (effect : EffectTree) (flat : Option (Tree FlatLeaf)) → ((r : Rule) → SomeBreaks p at false (followed effect) r → ⊥) → IsForm p m at (followed effect) flat → broken_by m flat ≡ [] →
      IsGoodEffect p m is.written at effect
  of_effect (plain k) flat names form kept = tt
  of_effect (of_constant k c) flat names form kept = tt
  of_effect (of_expression k e) flat names form kept = good_value e flat names form kept
  of_effect (of_number k n) flat names form kept = tt
  of_effect (of_numbers k n n') flat names form kept = (tt, tt)

  of_guard : (guard : Option Formula) (flat : Option (Tree FlatLeaf)) → ((r : Rule) → SomeBreaks p at true guard r → ⊥) → IsForm p m at guard flat → broken_by m flat ≡ [] → class_of_guard m flat ≡ [] →
      IsGoodGuard p m is.written at guard
  of_guard None flat names form kept truth = tt
  of_guard (Some e) flat names form kept truth = good_condition e flat names form kept truth

-- a mode that breaks no rule at an instance is good there
good_mode : (p : ProgramTree) (m : FlatModel) (is : IsFlatOf p m) (u : Use) → KeepsUse p m u → IsGoodMode p m is.written u.place u.mode
good_mode p m is u k =
    let none : NoneOfBoth (broken_by m k.forms.follows_as ++ broken_by m k.forms.guard_as) (class_of_followed m u.type k.forms.follows_as ++ class_of_guard m k.forms.guard_as) = none_of_both _ _ k.kinds in
    record {
      effect = of_effect p m is u.place u.mode.effect k.forms.follows_as (λ r b. k.names r (inl b)) k.forms.is_followed (none_first _ _ none.0);
      guard = of_guard p m is u.place u.mode.guard k.forms.guard_as (λ r b. k.names r (inr b)) k.forms.is_guard (none_second _ _ none.0) (none_second _ _ none.1);
    }

modes_good : (p : ProgramTree) (m : FlatModel) (is : IsFlatOf p m) (at : Place) (type : DeclaredTree) (n : ℕ) (ms : List ModeTree) → Each (KeepsUse p m) (modes_from at type n ms) →
    Each (IsGoodMode p m is.written at) ms
modes_good p m is at type n [] h = tt
modes_good p m is at type n (mode ∷ ms) h = (good_mode p m is (record { place = at; item = n; type = type; mode = mode }) h.0, modes_good p m is at type (suc n) ms h.1)

-- the modes of a slice are good at an instance of its module
abbrev IsGoodSlice : (p : ProgramTree) (m : FlatModel) → IsFlatOf p m → FlatInstance → OwnedSlice → Type 0
IsGoodSlice p m is at o = same_text o.owner at.module_name ≡ true → Each (IsGoodMode p m is.written at.place) o.slice.modes

slice_good : (p : ProgramTree) (m : FlatModel) (is : IsFlatOf p m) (at : FlatInstance) (s : PlacedSlice) → Each (KeepsUse p m) (uses_of_slice at s) → IsGoodSlice p m is at s.of
slice_good p m is at s h same = modes_good p m is at.place s.type (suc s.item) s.of.slice.modes (rw same at h)

-- a slice of a module's is one of the file's, with an owner of that name
pub record OwnedBy (P : OwnedSlice → Type 0) (n : Text) (s : SliceTree) : Type 0 where
  pub of : OwnedSlice
  pub known : P of
  pub owner : same_text of.owner n ≡ true
  pub slice : of.slice ≡ s

in_extension : (P : OwnedSlice → Type 0) (owner n : Text) (s : SliceTree) (ss : List SliceTree) → same_text owner n ≡ true → Each P (map (owned owner) ss) → Among ss s → OwnedBy P n s
in_extension P owner n s [] same h a = absurd a
in_extension P owner n s (t ∷ ss) same h (inl e) = record { of = owned owner t; known = h.0; owner = same; slice = e }
in_extension P owner n s (t ∷ ss) same h (inr a) = in_extension P owner n s ss same h.1 a

owned_by : (P : OwnedSlice → Type 0) (n : Text) (s : SliceTree) (xs : List ExtensionTree) → Each P (file_slices xs) → Among (slices_from xs n) s → OwnedBy P n s
owned_by P n s [] h a = absurd a
owned_by P n s (x ∷ xs) h a =
    by_name (same_text x.of_module n) refl (owned_by P n s xs (each_right P (map (owned x.of_module) x.slices) (file_slices xs) h))
  where
    by_part : same_text x.of_module n ≡ true → (Among (slices_from xs n) s → OwnedBy P n s) → Among x.slices s ⊎ Among (slices_from xs n) s → OwnedBy P n s
    by_part same rest (inl k) = in_extension P x.of_module n s x.slices same (each_left P (map (owned x.of_module) x.slices) (file_slices xs) h) k
    by_part same rest (inr k) = rest k

    by_name : (b : Bool) → same_text x.of_module n ≡ b → (Among (slices_from xs n) s → OwnedBy P n s) → OwnedBy P n s
    by_name true t rest = by_part t rest (some_split (λ y. y ≡ s) x.slices (slices_from xs n) (rw t at a))
    by_name false t rest = rest (rw t at a)

-- where all modes keep the rules, the modes of each slice are good at each instance of its module
guards_good : (p : ProgramTree) (m : FlatModel) (i : InstructionTree) → IsAccepted p → (is : IsFlatOf p m) → AllUsesKept p m i → AreGoodModes p m is.written i
guards_good p m i accepted is kept at k s here among =
    let walkable : IsWalkable p = accepted_walkable p accepted in
    let main : (n : ModuleTree) × (find_module p (codes "main") ≡ Some n) = main_is_there p walkable in
    let are : AreInstances p = are_instances p walkable main.0 main.1 in
    let found : (j : ℕ) × (x : FlatInstance) × (slice_get (instances_of p) j ≡ Some x) × (x.place ≡ at) = are.all at k here in
    let real : (n : ModuleTree) × IsInstance p found.1.place n × (find_module p found.1.module_name ≡ Some n) = are.real found.0 found.1 found.2 in
    let same : real.0 ≡ k = one_module real.0 k (sym (subst (λ a. IsInstance p a real.0) found.3 real.1) ∙ here) in
    let name : k.name ≡ found.1.module_name = found_named p found.1.module_name k (real.2 ∙ ap Some same) in
    let o : OwnedBy (IsGoodSlice p m is found.1) k.name s = owned_by (IsGoodSlice p m is found.1) k.name s i.extensions (slices_good found.1 (each_at (λ x. Each (KeepsUse p m) (uses_at p i x)) (instances_of p) found.0 found.1
    ((each_flat (KeepsUse p m) (uses_at p i) (instances_of p)).0 kept) found.2)) among in
    let modes : Each (IsGoodMode p m is.written found.1.place) s.modes =
    subst (λ t. Each (IsGoodMode p m is.written found.1.place) t.modes) o.slice (o.known (subst (λ n. same_text o.of.owner n ≡ true) name o.owner)) in
    subst (λ a. Each (IsGoodMode p m is.written a) s.modes) found.3 modes
  where
    one_module : (a b : ModuleTree) → Some a ≡ Some b → a ≡ b
    one_module a b e = cc

    slices_good : (x : FlatInstance) → Each (KeepsUse p m) (uses_at p i x) → Each (IsGoodSlice p m is x) (file_slices i.extensions)
    slices_good x h =
        subst (Each (IsGoodSlice p m is x)) (placed_are p i)
        (each_map (IsGoodSlice p m is x) (λ (s : PlacedSlice). s.of) (placed_from p 0 (item_sites i))
        (each_more (λ s. Each (KeepsUse p m) (uses_of_slice x s)) (λ s. IsGoodSlice p m is x s.of) (placed_from p 0 (item_sites i)) (slice_good p m is x)
        ((each_flat (KeepsUse p m) (uses_of_slice x) (placed_from p 0 (item_sites i))).0 (subst (Each (KeepsUse p m)) (uses_are p i x) h))))

-- and the instructions are judged
pub uses_judged : (p : ProgramTree) (m : FlatModel) (i : InstructionTree) → IsAccepted p → IsFlatOf p m → IsTyped m → ActualsMean p → AllUsesKept p m i → IsJudged p i
uses_judged p m i accepted is typed mean kept = good_is_judged p m i accepted is typed (lawful_instance p accepted m is mean) (guards_good p m i accepted is kept)

-- what is made of a program and instructions that a weave takes is their extension
pub made_extends : {E : Type 0} (p : ProgramTree) (i : InstructionTree) (r : Result Woven E) → IfOk r (λ w. program_tree w.program ≡ woven p i) → OnOk r (IsWeavable p i) →
    IfOk r (λ w. IsExtensionOf p i (program_tree w.program))
made_extends p i (Ok w) is takes = subst (IsExtensionOf p i) (sym is) (woven_extends p i takes)
made_extends p i (Err e) is takes = tt
